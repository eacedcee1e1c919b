use Rattle.std.proofs.Common.{rules, ◌≡◌, [], ◌∷◌, ◌++◌, ◌∙◌, sym, ap, subst, length, arith}
use Rattle.std.specs.Vec.Iter.{into_iter_items}
use Rattle.attribution_desk.specs.Claims.{texts_of, AreGathered}
use Rattle.attribution_desk.proofs.Gathering.{gathers_certificate, gathers_fault, gathers_all, read_on}
use Rattle.attribution_desk.proofs.certificates.gather.Goals as goal

pub loop-claim-preserved-in-Ok-1 : goal.loop-claim-preserved-in-Ok-1
loop-claim-preserved-in-Ok-1 c =
    let at = c.loop-claim.invariant in
    let front : into_iter_items c.loop-claim.claim-iterator ≡ c.in-Some.claim ∷ into_iter_items c.next.new.self =
    c.in-Some.ensures.steps.0 in
    let pushed : c.push-in-Some-Ok.new.self.items ≡ c.loop-claim.certificates.items ++ c.in-Some-Ok.certificate ∷ [] =
    c.in_ok-push-in-Some-Ok-2.ensures.items
    ∙ ap (λ x. c.loop-claim.certificates.items ++ x ∷ []) c.in-Some-Ok.certificate-is in (
      read_on _ _ _ front at.0,
      gathers_certificate _ _ _ _ _ _ _ front at.1 _ c.in-Some-Ok.certificate at.0
          (search rules) c.in_ok-push-in-Some-Ok.ensures.items pushed,
      let was = at.2 in
          let gone = c.in-Some.ensures.steps.1 in
          let short = ap length front in
          omega arith,
    )

pub loop-claim-preserved : goal.loop-claim-preserved
loop-claim-preserved c =
    let at = c.loop-claim.invariant in
    let front : into_iter_items c.loop-claim.claim-iterator ≡ c.in-Some.claim ∷ into_iter_items c.next.new.self =
    c.in-Some.ensures.steps.0 in (
      read_on _ _ _ front at.0,
      gathers_fault _ _ _ _ _ _ _ front at.1 c.in-Some-Err-Fault.fault at.0
          (search rules) c.in_ok-push-in-Some-Err-Fault.ensures.items,
      let was = at.2 in
          let gone = c.in-Some.ensures.steps.1 in
          let short = ap length front in
          omega arith,
    )

pub returns : goal.returns
returns c =
    let at = c.loop-claim.invariant in
    subst (λ cs. AreGathered (texts_of cs) c.loop-claim.faults.items c.loop-claim.certificates.items)
    c.into_iter-claim-iterator.ensures.into_iter_gives.0
    (gathers_all _ _ _ _ (sym at.2 ∙ c.in-None.ensures.steps.0) at.1)
