use Rattle.std.specs.Prelude.{IfOk}
use Rattle.std.proofs.Common.{subst}
use Rattle.plain_search.specs.declared.query.HolderQuery.{HolderQuery}
use Rattle.joined_evidence.specs.Walking.{IsTriedAt}
use Rattle.joined_evidence.proofs.trying.tried_over_spans.Goals as goal

pub returns : goal.returns
returns g c =
    subst (λ (h : HolderQuery). IfOk c.tried_at.result (IsTriedAt (g.F.JournalFiles.had c.args.files.now)
    c.args.archive.now c.args.query.now h)) c.asked_at-moment.ensures c.tried_at.ensures
