use Rattle.std.specs.Prelude.{IfOk, ℕ}
use Rattle.std.proofs.Common.{◌∙◌, ap, List}
use Rattle.std.proofs.Math.Path.{subst₂}
use Rattle.archive_desk.specs.declared.judging.ArchiveJudgement.{ArchiveJudgement}
use Rattle.archive_desk.specs.declared.judging.PairWarnings.{PairWarnings}
use Rattle.archive_desk.specs.CommandOutputs.{said_of, noted_first}
use Rattle.archive_desk.specs.Certificates.{AreSaid}
use Rattle.archive_desk.specs.Warnings.{warned_all}
use Rattle.archive_desk.proofs.certificates.JudgedAnswer.told.Goals as goal

pub returns : goal.returns
returns c =
    subst₂ (λ (ws : List ℕ) (js : List ArchiveJudgement). IfOk c.tell_all.result
    (λ told. AreSaid c.args.names.now js (noted_first ws) (said_of told)))
    (c.in_ok-warnings.ensures ∙ ap (λ (ws : List PairWarnings). warned_all c.args.names.now ws) c.deref.ensures.value)
    c.deref-2.ensures.value c.tell_all.ensures
