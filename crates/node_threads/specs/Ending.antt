-- Why one end of the link ends.
use Rattle.failover_session.specs.declared.error.SessionError.{SessionError}
use Rattle.failover_session.specs.declared.error.SessionError.TheVariants.{Frame, Serve as Refused, Memory as NoRoom}
use Rattle.node_threads.specs.declared.error.NodeError.{NodeError}
use Rattle.node_threads.specs.declared.error.NodeError.TheVariants.{Read, Serve, Memory}

-- why it does where its talk does
abbrev pub fault_of : SessionError → NodeError
fault_of Frame = Read
fault_of (Refused refusal) = Serve refusal
fault_of NoRoom = Memory
