use Rattle.std.specs.Prelude.{◌≡◌, ◌+◌, List, Some, slice_get}
use Rattle.std.proofs.Common.{sym, ap, subst, length, refl, arith}
use Rattle.std.proofs.lemmas.Option.{slice_get_read}
use Rattle.causal_order.specs.declared.certificate.Clear.{Clear}
use Rattle.causal_order.specs.declared.reference.Ref.{Ref}
use Rattle.evidence_report.specs.Pieces.{EndsDelegation}
use Rattle.evidence_report.proofs.Told.{AreNamedSoFar, one_named, one_other, all_named}
use Rattle.evidence_report.proofs.told_releases.named_releases.Goals as goal
use Rattle.evidence_report.proofs.told_releases.named_releases.Goals.{then-gives_back+in_ok-push, else-gives_back}

pub loop-clear-preserved : goal.loop-clear-preserved
loop-clear-preserved g c =
    let ends = EndsDelegation (g.L.Lines.journals c.args.lines.now) c.args.delegation.now in
    let entries = c.as_slice-clear-items.result.now in
    let i = c.loop-clear.clear-index in
    let here : slice_get entries i ≡ Some c.clear-item.result =
    slice_get_read entries (length entries) i c.clear-item.result refl c.loop-clear-test.true c.clear-item.is in
    elim c.if-gives_back.branch [
      | then-gives_back+in_ok-push w ↦ rw w.refs-is
          (subst (λ (refs : List Ref). AreNamedSoFar ends entries refs (i + 1)) (sym w.in_ok-push.ensures.items)
          (one_named ends entries c.loop-clear.refs.items i c.clear-item.result here c.loop-clear.invariant
          (w.if-gives_back.ensures.0 refl)))
      | else-gives_back w ↦ rw w.refs-is
          (one_other ends entries c.loop-clear.refs.items i c.clear-item.result here c.loop-clear.invariant
          (λ back. absurd (let t = w.if-gives_back.ensures.1 back in cc)))
    ]

pub returns : goal.returns
returns g c =
    let ends = EndsDelegation (g.L.Lines.journals c.args.lines.now) c.args.delegation.now in
    all_named ends c.args.piece.now c.loop-clear.refs.items c.in_ok-once.once.items c.loop-clear.clear-index
    (omega (arith, ap (length {A = Clear}) c.as_slice-clear-items.ensures, c.loop-clear-test.false))
    (subst (λ (entries : List Clear). AreNamedSoFar ends entries c.loop-clear.refs.items c.loop-clear.clear-index)
    c.as_slice-clear-items.ensures c.loop-clear.invariant) c.in_ok-once.ensures
