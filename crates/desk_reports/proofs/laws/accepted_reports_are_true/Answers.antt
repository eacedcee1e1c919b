use Rattle.std.proofs.Common.{subst}
use Rattle.pair_judgement.specs.declared.judging.Judgement.{Judgement}
use Rattle.attribution_desk.specs.Judgements.{IsJudgementOfJournals}
use Rattle.desk_reports.proofs.Accepted.{accepted_is_ruled}
use Rattle.desk_reports.proofs.laws.accepted_reports_are_true.Goals as goal

pub returns : goal.returns
returns c a b skew transit claim e explained accepted read same =
    c.accepted_rulings_are_true.ensures a b skew transit claim
    (subst (λ (r : Judgement). IsJudgementOfJournals a b skew transit claim r) accepted
    (accepted_is_ruled a b skew transit claim e explained)) read same
