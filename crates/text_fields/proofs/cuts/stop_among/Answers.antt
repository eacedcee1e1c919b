use Rattle.std.proofs.Common.{arith, sym, ◌∙◌, eqb, take, drop, w8}
use Rattle.std.proofs.lemmas.Simd.{bitmask_splat}
use Rattle.text_fields.proofs.Looks.{length-look, no_mark, first_mark}
use Rattle.text_fields.proofs.cuts.stop_among.Goals as goal

pub returns-then-marks-eq0 : goal.returns-then-marks-eq0
returns-then-marks-eq0 c =
    let marked = bitmask_splat w8 eqb (take 16 (drop c.args.from c.args.text.now)) 16 c.args.stop
    (length-look _ _ c.requires) (omega arith) in
    no_mark _ _ _ c.requires (sym marked ∙ c.if-marks-eq0.true)

pub returns-else-marks-eq0 : goal.returns-else-marks-eq0
returns-else-marks-eq0 c =
    let marked = bitmask_splat w8 eqb (take 16 (drop c.args.from c.args.text.now)) 16 c.args.stop
    (length-look _ _ c.requires) (omega arith) in
    rw marked (first_mark _ _ _ c.requires (λ none. c.if-marks-eq0.false (marked ∙ none)))
