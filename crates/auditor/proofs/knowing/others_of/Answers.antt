use Rattle.std.proofs.Common.{◌≤◌, length, arith, sym, ◌∙◌}
use Rattle.auditor.proofs.Known.{too_many}
use Rattle.auditor.proofs.knowing.others_of.Goals as goal

pub returns-then-len-most : goal.returns-then-len-most
returns-then-len-most g c =
    let le : c.args.most ≤ length c.loop-at.others.items = omega arith in
    too_many _ _ _ _ c.overlaps-walk.ensures.exact _ _ c.loop-at.others.items _ c.args.most c.in-Some.ensures
    (sym c.tells_others.ensures ∙ c.if-tells_others.true) le c.loop-at.invariant.found
