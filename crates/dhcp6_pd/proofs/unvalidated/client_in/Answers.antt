use Rattle.std.proofs.Common.{rules}
use Rattle.dhcp6_pd.proofs.Messages.{is_client}
use Rattle.dhcp6_pd.proofs.unvalidated.client_in.Goals as goal

pub returns : goal.returns
returns c = is_client c.args.kind c.args.octets.now c.in_ok-client.field-0 c.in_ok-requested.field-0
    c.in_ok-with_room.field-0 c.copy_from_slice.new.self c.or_none.result c.if-octets-lt4.false
    c.in_ok-client.ensures c.in_ok-requested.ensures (search rules) c.or_none.ensures c.in_ok-with_room.ensures
