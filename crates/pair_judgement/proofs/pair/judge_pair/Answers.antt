use Rattle.std.proofs.Common.{subst}
use Rattle.auditor.specs.Pair.{IsChecked}
use Rattle.pair_judgement.proofs.Early.{first_early}
use Rattle.pair_judgement.proofs.pair.judge_pair.Goals as goal

pub returns : goal.returns
returns c =
    let a = c.args.primary.now in
    let b = c.args.secondary.now in
    let legal = subst (IsChecked a b) c.in-Legal.is c.in_ok-merged.ensures in
    c.ruled_by.ensures c.args.skew legal.0 legal.1
    (first_early a b legal.0 c.early_by_first_send.ensures c.args.skew _ c.in_ok-early.ensures)
