use Rattle.std.proofs.Common.{◌≡◌, take}
use Rattle.server_book.proofs.messages.copy_of_relays.Given as goal

abbrev pub invariant-loop-relay : goal.invariant-loop-relay
invariant-loop-relay l = l.copies.items ≡ take l.relay-index l.relays
