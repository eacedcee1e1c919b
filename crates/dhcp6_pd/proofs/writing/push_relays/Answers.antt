use Rattle.std.proofs.Common.{◌+◌, subst, drop}
use Rattle.std.proofs.lemmas.List.{drop_all}
use Rattle.dhcp6_pd.proofs.Relaying.{IsOnTheWay, next_relay, goes_on, ends}
use Rattle.dhcp6_pd.proofs.writing.push_relays.Goals as goal

pub loop-relay-preserved : goal.loop-relay-preserved
loop-relay-preserved c =
    let split = next_relay c.args.relays.now c.loop-relay.relay-index c.relay-item.result c.loop-relay-test.true
    c.relay-item.is in
    goes_on c.args.out.now.items c.args.relays.now c.args.size c.loop-relay.out.items c.push_relay.new.out.items
    c.relay-item.result (drop (c.loop-relay.relay-index + 1) c.args.relays.now)
    (subst (IsOnTheWay c.args.out.now.items c.args.relays.now c.args.size c.loop-relay.out.items) split
    c.loop-relay.invariant) c.in_ok-push_relay.ensures

pub returns : goal.returns
returns c =
    let none = drop_all c.loop-relay.relay-index c.args.relays.now c.loop-relay-test.false in
    ends c.args.out.now.items c.args.relays.now c.args.size c.loop-relay.out.items
    (subst (IsOnTheWay c.args.out.now.items c.args.relays.now c.args.size c.loop-relay.out.items) none
    c.loop-relay.invariant)
