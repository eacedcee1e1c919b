use Rattle.std.proofs.Common.{◌≡◌, drop}
use Rattle.link_notices.specs.Parting.{parted, behind_tokens}
use Rattle.link_notices.specs.Gathering.{shown}
use Rattle.link_notices.proofs.splitter.take_octets.Given as goal

abbrev pub invariant-loop-octet : goal.invariant-loop-octet
invariant-loop-octet l =
    behind_tokens (shown l.output)
    (parted (record { stage = l.next; text = l.text.items }) (drop l.octet-index l.chunk))
    ≡ behind_tokens (shown l.fn.output) (parted (record { stage = l.fn.stage; text = l.fn.text.items }) l.chunk)
