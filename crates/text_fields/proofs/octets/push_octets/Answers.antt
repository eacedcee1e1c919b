use Rattle.std.proofs.Common.{◌<◌, length, take, get_or, append_assoc, refl}
use Rattle.std.proofs.lemmas.List.{take_more}
use Rattle.text_fields.proofs.HexLaws.{hex_push}
use Rattle.text_fields.proofs.octets.push_octets.Goals as goal

pub loop-octet-preserved : goal.loop-octet-preserved
loop-octet-preserved c =
    let octets = c.args.octets.now in
    let i = c.loop-octet.octet-index in
    let lt : i < length octets = c.loop-octet-test.true in
    rw (
      c.in_ok-extend_from_slice.ensures.items,
      take_more octets i 0 lt,
      hex_push (take i octets) (get_or octets i 0),
      c.loop-octet.invariant,
      append_assoc,
      c.hex_digit.ensures,
      c.hex_digit-in-loop-octet.ensures,
    ) refl
