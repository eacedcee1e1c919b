use Rattle.std.specs.Prelude.{List, IsTrue}
use Rattle.std.proofs.Common.{sym, ◌∙◌, subst}
use Rattle.candidate_leases.specs.declared.candidates.CandidateLease.{CandidateLease}
use Rattle.joined_answers.specs.Answers.{HasCarried}
use Rattle.joined_evidence.proofs.Searching.{shown_so, none_so}
use Rattle.joined_evidence.proofs.searched.search_in.Goals as goal

pub returns-in-Some : goal.returns-in-Some
returns-in-Some c =
    shown_so c.args.shown.now.primary c.args.shown.now.secondary c.args.index.now.journals c.args.query.now
    c.in-Ok.answer c.in-Some.certificate c.in-Ok.ensures.answer (sym c.certificate_in.ensures ∙ c.in-Some.is)

pub returns : goal.returns
returns c = (
  c.in_ok-leases.leases.items,
  none_so c.args.shown.now.primary c.args.shown.now.secondary c.args.index.now.journals c.args.query.now
      c.args.moment.now c.in-Ok.answer c.in_ok-leases.leases.items c.in-Ok.ensures.answer
      (sym c.certificate_in.ensures ∙ c.in_default-certificate_in.is) c.in_ok-leases.ensures,
  λ has. let t = subst (λ b. IsTrue b) c.if-has_carried.false (c.has_carried.ensures.1
      (subst (λ (ls : List CandidateLease). HasCarried ls) (sym c.deref.ensures.value) has)) in absurd (cc),
)
