use Rattle.std.proofs.Common.{Err, subst}
use Rattle.toml.specs.View.{table_view}
use Rattle.server_settings.specs.declared.error.OpenError.{OpenError}
use Rattle.server_settings.specs.Document.{named_in, AreRead}
use Rattle.settings_diagnostics.proofs.Naming.{too_many}
use Rattle.settings_diagnostics.proofs.refusing.clash_of.Goals as goal

pub returns-in-Err-Settings : goal.returns-in-Err-Settings
returns-in-Err-Settings c =
    let m = table_view c.args.table.now in
    let said = c.in-Err-Settings.ensures in
    too_many m c.requires (subst (λ (e : OpenError). AreRead (Err e) (named_in m)) c.in-Err-Settings.field-0-is said)
