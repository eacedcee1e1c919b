use Rattle.std.specs.Prelude.{◌≡◌, List}
use Rattle.std.proofs.Common.{sym, ap, subst, length, arith, get_or}
use Rattle.causal_order.specs.declared.certificate.Clear.{Clear}
use Rattle.evidence_report.proofs.Clearing.{none_names, named_entry, entry_there}
use Rattle.evidence_report.proofs.releases.naming.Goals as goal

pub returns-in_err-index : goal.returns-in_err-index
returns-in_err-index c = rw c.from_residual.ensures (none_names c.args.piece.now c.args.release c.naming.result.now
    c.naming.ensures (sym c.in_err-index.ensures.value))

pub returns-in_err-clear : goal.returns-in_err-clear
returns-in_err-clear c = absurd (entry_there c.args.piece.now c.args.release c.naming.result.now c.naming.ensures
    c.in_ok-index.index.now (sym c.in_ok-index.ensures.value)
    (omega (arith, ap length c.as_slice.ensures, c.in_err-clear.ensures.lookup.3)))

pub returns : goal.returns
returns c = named_entry c.args.piece.now c.args.release c.naming.result.now c.naming.ensures
    c.in_ok-index.index.now c.in_ok-clear.clear.now (sym c.in_ok-index.ensures.value)
    (subst (λ (ks : List Clear). c.in_ok-clear.clear.now ≡ get_or ks c.in_ok-index.index.now c.in_ok-clear.clear.now)
    c.as_slice.ensures c.in_ok-clear.ensures.lookup.1)
