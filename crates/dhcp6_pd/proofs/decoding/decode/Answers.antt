use Rattle.std.proofs.Common.{arith}
use Rattle.dhcp6_pd.proofs.IdentityLaws.{are_octets, is_found, is_only}
use Rattle.dhcp6_pd.proofs.RefusalLaws.{refuses_each}
use Rattle.dhcp6_pd.proofs.decoding.decode.Goals as goal

pub returns : goal.returns
returns c =
    let own = c.args.own.now in
    let octets = c.args.octets.now in
    let fits = are_octets octets (λ k. omega (arith, c.type_inv.octets k)) in
    let each = refuses_each own octets c.decoded.result fits c.decoded.ensures in
    record {
      found = is_found own octets c.decoded.result fits c.decoded.ensures;
      only = λ m h. is_only own octets c.decoded.result m c.decoded.ensures h;
      malformed = each.malformed;
      ignored = each.ignored;
      too_deep = each.too_deep;
      no_client = each.no_client;
      present = each.present;
      missing = each.missing;
      not_ours = each.not_ours;
      exact = c.decoded.ensures;
    }
