use Rattle.std.proofs.Common.{◌≡◌, length, ap, rules, arith}
use Rattle.plain_search.proofs.Sweeping.{passed_later}
use Rattle.plain_search.proofs.Tiling.{one_so_far, gap_at, lines_with, over_with}
use Rattle.plain_search.proofs.plain_pieces.pieces_of.Goals as goal

pub returns-in_default-clause-none : goal.returns-in_default-clause-none
returns-in_default-clause-none g c _ =
    gap_at (g.S.Lines.journals c.args.source.now) c.args.query.now c.args.reaches.now c.requires.each _ _
    c.requires.all (search rules) c.in_default.ensures c.loop-alloc.invariant.0

pub loop-alloc-preserved : goal.loop-alloc-preserved
loop-alloc-preserved g c = (
  one_so_far (g.S.Lines.journals c.args.source.now) c.args.query.now c.args.reaches.now c.requires.each _ _ _
      c.in-Some.reach c.in_ok-piece.piece c.in-Some.ensures c.in_ok-piece.ensures c.in_ok-push.ensures.items
      c.loop-alloc.invariant.0,
  passed_later c.args.reaches.now _ _ _ (let far = c.in-Some.ensures.ends in omega arith) c.pass-passed.ensures.passed,
  (let more = lines_with c.loop-alloc.pieces.items _ c.in_ok-piece.piece c.in_ok-push.ensures.items in
      let clears : length c.as_slice-clears.result.now ≡ length c.in_ok-piece.piece.clear =
      ap length c.as_slice-clears.ensures in
      let fits = c.loop-alloc.invariant.2 in let room = c.if-clears-left.false in omega arith),
)

pub returns-then-clears-left-clause-long : goal.returns-then-clears-left-clause-long
returns-then-clears-left-clause-long g c _ =
    let clears : length c.as_slice-clears.result.now ≡ length c.in_ok-piece.piece.clear =
    ap length c.as_slice-clears.ensures in
    over_with (g.S.Lines.journals c.args.source.now) c.args.query.now c.args.reaches.now c.requires.each
    c.loop-alloc.pieces.items _ c.in-Some.reach c.in_ok-piece.piece c.loop-alloc.left c.args.room c.in-Some.ensures
    c.in_ok-piece.ensures c.loop-alloc.invariant.0 c.loop-alloc.invariant.2
    (let over = c.if-clears-left.true in omega arith)
