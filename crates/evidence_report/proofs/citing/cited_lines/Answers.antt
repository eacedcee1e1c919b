use Rattle.std.specs.Prelude.{List}
use Rattle.std.proofs.Common.{subst}
use Rattle.causal_order.specs.declared.reference.Ref.{Ref}
use Rattle.evidence_report.specs.Cited.{AreFound}
use Rattle.evidence_report.proofs.Lookup.{cited_once}
use Rattle.evidence_report.proofs.citing.cited_lines.Goals as goal

pub returns : goal.returns
returns g c =
    let js = g.L.Lines.journals c.args.lines.now in
    cited_once js c.args.certificate.now c.args.pieces.now c.in_ok-refs.refs.items c.in_ok-once.once.items
    c.in_ok-cited.cited.items c.in_ok-refs.ensures c.in_ok-once.ensures
    (subst (λ (refs : List Ref). AreFound js refs c.in_ok-cited.cited.items) c.deref.ensures.value c.in_ok-cited.ensures)
