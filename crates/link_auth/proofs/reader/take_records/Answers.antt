use Rattle.link_auth.proofs.RecordLaws.{taken_more, found_some, shorter}
use Rattle.link_auth.proofs.reader.take_records.Goals as goal

pub loop-piece-preserved : goal.loop-piece-preserved
loop-piece-preserved c =
    let step = found_some c.args.key.now c.loop-piece.cursor c.next_piece.new.self _ c.in-Some.piece c.in-Some.is
    c.in_ok-piece.ensures in
    taken_more c.args.key.now c.args.cursor.now c.loop-piece.octets.items c.loop-piece.cursor c.next_piece.new.self
    c.in-Some.piece.now c.extend_from_slice.new.self.items c.loop-piece.invariant step.0 step.1
    c.in_ok-extend_from_slice.ensures.items

pub loop-piece-smaller : goal.loop-piece-smaller
loop-piece-smaller c =
    let step = found_some c.args.key.now c.loop-piece.cursor c.next_piece.new.self _ c.in-Some.piece c.in-Some.is
    c.in_ok-piece.ensures in
    shorter c.args.key.now _ _ _ _ step.0
