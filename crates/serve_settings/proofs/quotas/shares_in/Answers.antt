use Rattle.toml.specs.View.{table_view}
use Rattle.serve_settings.proofs.Shares.{shares_found}
use Rattle.serve_settings.proofs.quotas.shares_in.Goals as goal

pub returns : goal.returns
returns c = shares_found (table_view c.args.table.now) c.in_ok-ias_per_message.ias_per_message
    c.in_ok-units_per_client.units_per_client c.in_ok-units_per_port.units_per_port c.in_ok-ias_per_message.ensures
    c.in_ok-units_per_client.ensures c.in_ok-units_per_port.ensures
