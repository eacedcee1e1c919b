use Rattle.toml.specs.View.{table_view}
use Rattle.serve_settings.proofs.Shares.{quotas_found}
use Rattle.serve_settings.proofs.quotas.quotas_in.Goals as goal

pub returns : goal.returns
returns c = quotas_found (table_view c.args.table.now) c.in_ok-shares.shares c.in_ok-client_rate.client_rate
    c.in-Some.ports c.in_ok-shares.ensures c.in_ok-client_rate.ensures c.in-Some.ensures
