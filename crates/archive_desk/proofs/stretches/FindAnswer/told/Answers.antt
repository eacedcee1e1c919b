use Rattle.std.specs.Prelude.{IfOk}
use Rattle.std.proofs.Common.{subst, List}
use Rattle.archive_desk.specs.declared.stretches.FoundStretch.{FoundStretch}
use Rattle.archive_desk.specs.CommandOutputs.{said_of, nothing}
use Rattle.archive_desk.specs.Telling.{AreSaid}
use Rattle.archive_desk.proofs.stretches.FindAnswer.told.Goals as goal

pub returns : goal.returns
returns c =
    subst (λ (fs : List FoundStretch). IfOk c.tell_all.result
    (λ told. AreSaid c.args.names.now fs nothing (said_of told))) c.deref.ensures.value c.tell_all.ensures
