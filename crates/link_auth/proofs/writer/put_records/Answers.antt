use Rattle.std.proofs.Common.{◌<◌, length, arith}
use Rattle.link_auth.proofs.RecordLaws.{two_parts, written_more}
use Rattle.link_auth.proofs.writer.put_records.Goals as goal

pub loop-rest-preserved : goal.loop-rest-preserved
loop-rest-preserved c =
    let m = c.min.ensures in
    let some : 0 < length c.split_at.result.0.now = grind (arith, m, c.split_at.ensures.front_len) in
    written_more c.args.key.now c.args.number c.args.octets.now c.loop-rest.out.items c.loop-rest.number
    c.loop-rest.rest.now c.split_at.result.0.now c.split_at.result.1.now c.put_record.new.out.items c.in-Some.next
    c.loop-rest.invariant some (omega (arith, c.split_at.ensures.front_len, m))
    (two_parts _ _ _ _ c.split_at.ensures.front c.split_at.ensures.back) c.in_ok-put_record.ensures c.in-Some.ensures.1
