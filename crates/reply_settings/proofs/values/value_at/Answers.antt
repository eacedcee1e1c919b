use Rattle.toml.proofs.Views.{table_get}
use Rattle.server_settings.proofs.Found.{finds_mapped}
use Rattle.reply_settings.proofs.values.value_at.Goals as goal

pub returns : goal.returns
returns c = finds_mapped _ _ _ (table_get c.get.result c.args.key.now c.args.table.now.entries c.get.ensures.value)
