use Rattle.std.proofs.Common.{arith}
use Rattle.dhcp6_pd.proofs.IdentityLaws.{are_octets}
use Rattle.dhcp6_pd.proofs.InformationLaws.{is_found, is_only}
use Rattle.dhcp6_pd.proofs.information.decode_information.Goals as goal

pub returns : goal.returns
returns c =
    let own = c.args.own.now in
    let octets = c.args.octets.now in
    let fits = are_octets octets (λ k. omega (arith, c.type_inv.octets k)) in
    record {
      found = is_found own octets c.asked.result fits c.asked.ensures;
      only = λ i h. is_only own octets c.asked.result i c.asked.ensures h;
      exact = c.asked.ensures;
    }
