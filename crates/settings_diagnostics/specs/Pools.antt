-- What is wanted of each pool, and what is wrong there.
use Rattle.std.specs.Prelude.{◌≡◌, ⊤, ℕ, ◌+◌, List, [], ◌∷◌, ◌++◌, codes, Option, Some, None}
use Rattle.toml.specs.Data.{Data, Items, no_items, item, Members, no_members, get_member, as_array, as_table}
use Rattle.text_fields.specs.Parsing.{◌>>=◌}
use Rattle.prefix_range.specs.Prefix.{Prefix, IsPrefix}
use Rattle.server_settings.specs.Document.{prefix_of, text_at}
use Rattle.settings_diagnostics.specs.declared.key.Key.TheVariants.{Prefix as PrefixKey, Unit}
use Rattle.settings_diagnostics.specs.declared.key_rule.TextFormat.TheVariants.{Range}
use Rattle.settings_diagnostics.specs.declared.key_rule.Expectation.TheVariants.{Text, Number}
use Rattle.settings_diagnostics.specs.declared.key_rule.KeyRule.{KeyRule}
use Rattle.settings_diagnostics.specs.declared.key_diagnostic.KeyTable.TheVariants.{Pool}
use Rattle.settings_diagnostics.specs.declared.key_diagnostic.KeyDiagnostic.{KeyDiagnostic}
use Rattle.settings_diagnostics.specs.KeyRules.{always, AreDiagnostics}

-- the prefix that a pool names
unfoldable pub prefix_in : Members → Option Prefix
prefix_in members = do
  word ← text_at (codes "prefix") members
  prefix_of word

abbrev pub length_or_none : Option Prefix → ℕ
length_or_none (Some p) = p.length
length_or_none None = 0

-- the units of a pool are no shorter than its prefix
abbrev pub least_unit : Members → ℕ
least_unit members = length_or_none (prefix_in members)

abbrev pub pool_key_rules : Members → List KeyRule
pool_key_rules members =
    always PrefixKey (Text Range) ∷ always Unit (Number (least_unit members) 128) ∷ []

abbrev pub IsPoolPrefix : Option Prefix → Type 0
IsPoolPrefix (Some p) = IsPrefix p
IsPoolPrefix None = ⊤

-- the complaints about a pool, with so many before it: its prefix, if it names one, keeps no bit past its length
pub record AreOfPool (before : ℕ) (members : Members) (all : List KeyDiagnostic) : Type 0 where
  pub keys : AreDiagnostics members (Pool before) (pool_key_rules members) all
  pub prefix : IsPoolPrefix (prefix_in members)

abbrev pub members_or_none : Option Members → Members
members_or_none (Some m) = m
members_or_none None = no_members

-- the keys of a pool: what is no table has none
abbrev pub members_in : Data → Members
members_in d = members_or_none (as_table d)

-- the complaints about some pools, the first of which has so many before it
abbrev pub AreOfPools : ℕ → Items → List KeyDiagnostic → Type 0
AreOfPools before no_items all = all ≡ []
AreOfPools before (item d ds) all =
    (one : List KeyDiagnostic) × (rest : List KeyDiagnostic) × (all ≡ one ++ rest) × AreOfPool before (members_in d) one
    × AreOfPools (before + 1) ds rest

abbrev pub items_or_none : Option Items → Items
items_or_none (Some ds) = ds
items_or_none None = no_items

-- the pools of a document
abbrev pub pools_in : Members → Items
pools_in members = items_or_none (get_member (codes "pool") members >>= as_array)
