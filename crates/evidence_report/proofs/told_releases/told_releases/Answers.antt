use Rattle.std.specs.Prelude.{List, Contains as Has}
use Rattle.std.proofs.Common.{sym, ◌∙◌, subst, ap, Vec, Global}
use Rattle.causal_order.specs.declared.reference.Ref.{Ref}
use Rattle.causal_order.specs.LineOrder.{IsLeast}
use Rattle.evidence_report.specs.Lines.{AreOnce, IsMissing}
use Rattle.evidence_report.specs.Pieces.{EndsDelegation}
use Rattle.evidence_report.proofs.Told.{named_are_some, told_with, told_without}
use Rattle.evidence_report.proofs.told_releases.told_releases.Goals as goal
use Rattle.evidence_report.proofs.told_releases.told_releases.Goals.{in-Some+in_ok-push, in_default}

pub first_missing-requires-clause-some : goal.first_missing-requires-clause-some
first_missing-requires-clause-some g c =
    let ends = EndsDelegation (g.L.Lines.journals c.args.lines.now) c.args.delegation.now in
    subst (λ (those : List Ref). (r : Ref) → Has those r → Has c.args.releases.now r) (sym c.deref.ensures.value)
    (named_are_some ends c.args.piece.now c.args.releases.now c.in_ok-told.told.items c.requires c.in_ok-told.ensures)

pub returns : goal.returns
returns g c =
    let ends = EndsDelegation (g.L.Lines.journals c.args.lines.now) c.args.delegation.now in
    let releases = c.args.releases.now in
    let named = c.in_ok-told.told.items in
    let told = c.in_ok-told-2.told.items in
    elim c.match-first_missing.branch [
      | in-Some+in_ok-push w ↦ told_with ends c.args.piece.now releases named c.requires c.in_ok-told.ensures
          w.in-Some.unnamed
          (subst (λ (those : List Ref). IsLeast (IsMissing releases those) w.in-Some.unnamed) c.deref.ensures.value
          w.in-Some.ensures) told
          (subst (λ (refs : List Ref). AreOnce refs told)
          (ap (λ (v : Vec Ref Global). v.items) w.told-is ∙ w.in_ok-push.ensures.items) c.in_ok-told-2.ensures)
      | in_default w ↦ told_without ends c.args.piece.now releases named c.requires c.in_ok-told.ensures told
          (subst (λ (those : List Ref). (r : Ref) → Has releases r → Has those r) c.deref.ensures.value
          w.in_default.ensures)
          (subst (λ (refs : List Ref). AreOnce refs told)
          (ap (λ (v : Vec Ref Global). v.items) w.told-is) c.in_ok-told-2.ensures)
    ]
