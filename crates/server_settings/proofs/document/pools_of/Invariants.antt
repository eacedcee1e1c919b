use Rattle.std.proofs.Common.{◌≡◌, ◌++◌, drop}
use Rattle.std.specs.Prelude.{option_map}
use Rattle.toml.specs.View.{items_view}
use Rattle.server_settings.specs.Document.{pools_of}
use Rattle.server_settings.proofs.document.pools_of.Given as goal

abbrev pub invariant-loop-value : goal.invariant-loop-value
invariant-loop-value l = option_map (λ ps. l.pools.items ++ ps) (pools_of (items_view (drop l.value-index l.values)))
    ≡ pools_of (items_view l.values)
