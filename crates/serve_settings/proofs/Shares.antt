-- What the members of a document say of clients' shares.
use Rattle.std.proofs.Common.{◌≡◌, ℕ, Some, ap, ◌∙◌}
use Rattle.toml.specs.Data.{Members}
use Rattle.text_fields.specs.Parsing.{◌>>=◌}
use Rattle.client_limits.specs.declared.limits.PortRule.{PortRule}
use Rattle.serve_settings.specs.declared.quotas.Shares.{Shares}
use Rattle.serve_settings.specs.Serving.{ias_per_message_in, units_per_client_in, units_per_port_in, shares_in, client_rate_in, port_rule_in, quotas_in}

pub shares_found : (m : Members) (ias units behind : ℕ) → ias_per_message_in m ≡ Some ias
    → units_per_client_in m ≡ Some units → units_per_port_in m ≡ Some behind
    → shares_in m ≡ Some (record { ias_per_message = ias; units_per_client = units; units_per_port = behind })
unfolding shares_in
shares_found m ias units behind a b d = cc

pub quotas_found : (m : Members) (s : Shares) (rate : ℕ) (rule : PortRule) → shares_in m ≡ Some s
    → client_rate_in m ≡ Some rate → port_rule_in m ≡ Some rule
    → quotas_in m ≡ Some (record {
      ias_per_message = s.ias_per_message;
      units_per_client = s.units_per_client;
      units_per_port = s.units_per_port;
      client_rate = rate;
      ports = rule;
    })
unfolding quotas_in
quotas_found m s rate rule a b d = cc
