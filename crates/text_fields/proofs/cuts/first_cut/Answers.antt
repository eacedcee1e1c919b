use Rattle.std.proofs.Common.{arith, add-one}
use Rattle.std.proofs.lemmas.List.{take_rest}
use Rattle.std.proofs.lemmas.Bool.{eq-eqb, eqb-true}
use Rattle.text_fields.proofs.Cutting.{split_found, split_none}
use Rattle.text_fields.proofs.cuts.first_cut.Goals as goal

pub returns-in-Some : goal.returns-in-Some
returns-in-Some c =
    let h = c.in-Some.ensures in
    rw (take_rest, add-one) (split_found c.args.text.now c.args.stop c.in-Some.at h.0.high
    (λ k lt e. h.0.before k (omega arith) lt (eq-eqb _ _ e)) (eqb-true _ _ h.1))

pub returns-in-None : goal.returns-in-None
returns-in-None c = split_none c.args.text.now c.args.stop (λ k lt e.
    c.in-None.ensures k (omega arith) lt (eq-eqb _ _ e))
