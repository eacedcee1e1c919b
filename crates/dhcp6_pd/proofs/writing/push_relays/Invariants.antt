use Rattle.std.proofs.Common.{drop}
use Rattle.dhcp6_pd.proofs.Relaying.{IsOnTheWay}
use Rattle.dhcp6_pd.proofs.writing.push_relays.Given as goal

abbrev pub invariant-loop-relay : goal.invariant-loop-relay
invariant-loop-relay l = IsOnTheWay l.fn.out.items l.relays l.size l.out.items (drop l.relay-index l.relays)
