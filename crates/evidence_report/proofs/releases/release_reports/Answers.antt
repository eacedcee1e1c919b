use Rattle.std.specs.Prelude.{◌≡◌, List, Contains as Has}
use Rattle.std.proofs.Common.{sym, subst, arith, ap, length}
use Rattle.causal_order.specs.declared.reference.Ref.{Ref}
use Rattle.evidence_report.specs.Marks.{Exists}
use Rattle.evidence_report.specs.Pieces.{EndsDelegation, AreReportsOf}
use Rattle.evidence_report.proofs.Told.{told_are_some, told_exist, counted_reports}
use Rattle.evidence_report.proofs.releases.release_reports.Goals as goal

pub overflow_sub-more : goal.overflow_sub-more
overflow_sub-more g c =
    let fewer = told_are_some (EndsDelegation (g.L.Lines.journals c.args.lines.now) c.args.delegation.now)
    c.args.piece.now c.args.releases.now c.in_ok-refs.refs.items c.requires c.in_ok-refs.ensures in
    omega (arith, fewer, c.len.ensures)

pub reports_of-requires : goal.reports_of-requires
reports_of-requires g c =
    let js = g.L.Lines.journals c.args.lines.now in
    subst (λ (refs : List Ref). (r : Ref) → Has refs r → Exists js r) (sym c.deref.ensures.value)
    (told_exist js c.args.delegation.now c.args.piece.now c.in_ok-refs.refs.items c.in_ok-refs.ensures)

pub returns : goal.returns
returns g c =
    let js = g.L.Lines.journals c.args.lines.now in
    let ends = EndsDelegation js c.args.delegation.now in
    let fewer = told_are_some ends c.args.piece.now c.args.releases.now c.in_ok-refs.refs.items c.requires
    c.in_ok-refs.ensures in
    counted_reports js c.args.skew c.args.piece.now ends c.args.releases.now c.in_ok-refs.refs.items _ c.requires
    c.in_ok-refs.ensures
    (subst (λ (refs : List Ref). AreReportsOf js c.args.skew c.args.piece.now refs c.in_ok-told.told.items)
    c.deref.ensures.value c.in_ok-told.ensures)
    (omega (arith, fewer, c.len.ensures))
