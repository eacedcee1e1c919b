use Rattle.std.proofs.Common.{subst}
use Rattle.attribution_desk.specs.Case.{IsCaseOf}
use Rattle.attribution_desk.specs.declared.indexed_pair.IndexedPair.{IndexedPair as CaseValue}
use Rattle.joined_evidence.proofs.Searching.{all_open_so}
use Rattle.joined_evidence.proofs.searched.journal_search.Goals as goal

pub returns-in-Open : goal.returns-in-Open
returns-in-Open g c =
    let a = c.args.shown.now.primary in
    let b = c.args.shown.now.secondary in
    let case = subst (λ (x : CaseValue). IsCaseOf a b c.args.query.now.skew x) c.in-Open.is c.in-Ok.ensures.case in
    all_open_so a b c.args.query.now c.args.moment.now c.in-Open.index.journals case.0 case.1
    c.search_in.result c.search_in.ensures
