use Rattle.std.proofs.Common.{IfOk, subst, sym}
use Rattle.serde_json.specs.View.{view}
use Rattle.candidate_leases.specs.declared.at_moment.AtMoment.{AtMoment}
use Rattle.answer_data.specs.Leases.{IsState}
use Rattle.answer_data.proofs.state_data.state_of.Goals as goal

pub returns-in-EarlierVolumes : goal.returns-in-EarlierVolumes
returns-in-EarlierVolumes c =
    subst (λ (s : AtMoment). IfOk c.earlier.result (λ v. IsState c.args.at s (view v))) (sym c.in-EarlierVolumes.is)
    (c.earlier.ensures c.args.at)

pub returns-in-LaterVolumes : goal.returns-in-LaterVolumes
returns-in-LaterVolumes c =
    subst (λ (s : AtMoment). IfOk c.later.result (λ v. IsState c.args.at s (view v))) (sym c.in-LaterVolumes.is)
    (c.later.ensures c.args.at)
