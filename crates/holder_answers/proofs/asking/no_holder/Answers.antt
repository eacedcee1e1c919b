use Rattle.std.proofs.Common.{List, subst}
use Rattle.candidate_leases.specs.declared.candidates.CandidateLease.{CandidateLease}
use Rattle.candidate_leases.specs.Why.{case_of, IsWhy}
use Rattle.holder_answers.proofs.asking.no_holder.Goals as goal

pub returns-clause-why : goal.returns-clause-why
returns-clause-why c = (
  c.in_ok-leases.ensures,
  subst (λ (ls : List CandidateLease).
      IsWhy (case_of c.args.index.now.journals c.args.query.now c.args.ends) ls c.no_holder_reason-why.result)
      c.deref.ensures.value c.no_holder_reason-why.ensures,
)
