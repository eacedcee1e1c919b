-- Why a node's settings are refused.
use Rattle.std.specs.Prelude.{◌≡◌, ◌<◌, List, ◌++◌, Some}
use Rattle.std.specs.List.{sum_by}
use Rattle.toml.specs.Data.{Members}
use Rattle.server_settings.specs.Settings.{ServerSettings, AreFit}
use Rattle.book_state.specs.Book.{units_in}
use Rattle.book_state.specs.Places.{AreDisjoint}
use Rattle.server_settings.specs.Document.{named_in}
use Rattle.settings_diagnostics.specs.declared.key.Key.TheVariants.{Listen, Link, Workers}
use Rattle.settings_diagnostics.specs.declared.key_rule.TextFormat.TheVariants.{Address}
use Rattle.settings_diagnostics.specs.declared.key_rule.Expectation.TheVariants.{Text, Number}
use Rattle.settings_diagnostics.specs.declared.key_diagnostic.KeyTable.TheVariants.{Top}
use Rattle.settings_diagnostics.specs.declared.key_diagnostic.KeyDiagnostic.{KeyDiagnostic}
use Rattle.settings_diagnostics.specs.declared.refusing.PoolConflict.{PoolConflict}
use Rattle.settings_diagnostics.specs.declared.refusing.PoolConflict.TheVariants.{Units, Overlap}
use Rattle.settings_diagnostics.specs.KeyRules.{always, maybe, wishes, IsMet, AreDiagnostics}
use Rattle.settings_diagnostics.specs.Pools.{pools_in, AreOfPools}

-- the complaints about the keys of a document, then those about the keys of each pool
pub record AreAll (members : Members) (all : List KeyDiagnostic) : Type 0 where
  pub top : List KeyDiagnostic
  pub of_pools : List KeyDiagnostic
  pub joined : all ≡ top ++ of_pools
  pub keys : AreDiagnostics members Top wishes top
  pub pools : AreOfPools 0 (pools_in members) of_pools

-- the server's settings that a document names are within all limits
abbrev pub AreNamed : Members → Type 0
AreNamed members = (s : ServerSettings) × (named_in members ≡ Some s) × AreFit s

-- a node reads a document: its server's settings, where its clients and its partner are heard, and by how many workers
pub record AreRead (members : Members) : Type 0 where
  pub server : AreNamed members
  pub listen : IsMet members (always Listen (Text Address))
  pub link : IsMet members (maybe Link (Text Address))
  pub workers : IsMet members (always Workers (Number 1 63))

-- the pools that a document names have too many units in all, or two have an address in common
abbrev pub IsClash : Members → PoolConflict → Type 0
IsClash m Units = (s : ServerSettings) × (named_in m ≡ Some s) × (65536 < sum_by units_in s.pools)
IsClash m Overlap = (s : ServerSettings) × (named_in m ≡ Some s) × (AreDisjoint s.pools → ⊥)
