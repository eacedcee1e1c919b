use Rattle.std.proofs.Common.{IfOk, MatchOption, subst}
use Rattle.causal_order.specs.Journals.{journals_of}
use Rattle.causal_order.specs.LineOrder.{IsLeast}
use Rattle.journal_merge.specs.Early.{IsFarBelowSend, NoneIsFarBelow}
use Rattle.auditor.specs.Pair.{IsChecked}
use Rattle.pair_judgement.proofs.Early.{first_early}
use Rattle.pair_judgement.proofs.parallel_judgement.judge_pair_by.Goals as goal

pub returns : goal.returns
returns g c =
    let a = c.args.primary.now in
    let b = c.args.secondary.now in
    let legal = subst (IsChecked a b) c.in-Legal.is c.in_ok-merged.ensures in
    let early = subst (λ r. IfOk r (λ take. MatchOption take (NoneIsFarBelow (journals_of a b) c.args.skew)
    (IsLeast (IsFarBelowSend (journals_of a b) c.args.skew)))) c.in_ok-early.was c.in_ok-found.ensures.early in
    c.ruled_by.ensures c.args.skew legal.0 legal.1
    (first_early a b legal.0 c.early_by_first_send.ensures c.args.skew _ early)
