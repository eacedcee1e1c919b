use Rattle.std.proofs.Common.{arith, ◌∙◌, length-take}
use Rattle.std.proofs.lemmas.Grind.{common_steps}
use Rattle.prefix_range.proofs.Offsets.{no_length, both_read, too_long}
use Rattle.prefix_range.proofs.canonical.prefix_of.Goals as goal

pub slice_bounds-address_of-end : goal.slice_bounds-address_of-end
slice_bounds-address_of-end c = omega (arith, length-take 39 c.args.word.now)

pub address_of-requires : goal.address_of-requires
address_of-requires c = omega (arith, length-take 39 c.args.word.now)

pub returns-in_err-length : goal.returns-in_err-length
returns-in_err-length c = rw c.from_residual-in_err-length.ensures (no_length _ c.in_err-length.ensures)

pub returns-then-length-gt128 : goal.returns-then-length-gt128
returns-then-length-gt128 c = both_read _ _ _ (omega arith) c.if-word-ne47.false c.in_ok-address.ensures
    c.in_ok-length.ensures ∙ too_long _ _ c.if-length-gt128.true

pub returns : goal.returns
returns c = rw (both_read _ _ _ (omega arith) c.if-word-ne47.false c.in_ok-address.ensures c.in_ok-length.ensures)
    (grind (arith, common_steps))
