use Rattle.std.proofs.Common.{sym}
use Rattle.dhcp6_pd.proofs.Cleared.{prefix_made}
use Rattle.dhcp6_pd.proofs.ia.prefix_in.Goals as goal

pub returns-in-Ok : goal.returns-in-Ok
returns-in-Ok c =
    sym (prefix_made c.args.octets.now c.in-Ok.prefix c.if-octets-lt25.false c.if-length-gt128.false
    (rw (← c.address_of.ensures, ← c.cleared.ensures) c.in-Ok.ensures.made))
