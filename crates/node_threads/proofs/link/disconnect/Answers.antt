use Rattle.std.specs.Prelude.{⊤, None, refl}
use Rattle.failover_message.specs.declared.frame.FrameKind.TheVariants.{Disconnect}
use Rattle.failover_session.specs.declared.outbox.OutboundFrame.{OutboundFrame}
use Rattle.node_threads.proofs.Wires.{word_out, no_word_out}
use Rattle.node_threads.proofs.link.disconnect.Goals as goal

abbrev word : OutboundFrame
word = record { frame = record { term = 0; serial = 0; kind = Disconnect }; number = None }

pub returns-in-Ok : goal.returns-in-Ok
returns-in-Ok g c =
    word_out g.W.Wire.brings g.W.Wire.writes g.W.Wire.fails word _ _ _ _ refl c.in-Ok.ensures c.hear_out.ensures

pub returns-in-Err : goal.returns-in-Err
returns-in-Err g c =
    no_word_out g.W.Wire.brings g.W.Wire.writes g.W.Wire.fails ⊤ _ c.in-Err.error word _ _ refl c.in-Err.ensures
