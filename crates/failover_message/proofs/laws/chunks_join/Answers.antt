use Rattle.failover_message.specs.Stream.{chunks_of, frames_of}
use Rattle.failover_message.proofs.JoinLaws.{chunks_are_one, fault_of_stream, fault_of_rest}
use Rattle.failover_message.proofs.laws.chunks_join.Goals as goal

pub returns-clause-frames : goal.returns-clause-frames
returns-clause-frames c = chunks_are_one

pub returns-clause-faults : goal.returns-clause-faults
returns-clause-faults c feds rest chunk fault h octets =
    let s = chunks_are_one feds rest h in (
      fault_of_stream (chunks_of feds) chunk rest (frames_of feds) fault s,
      fault_of_rest (chunks_of feds) chunk rest (frames_of feds) fault octets s,
    )
