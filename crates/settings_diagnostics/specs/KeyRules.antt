-- What is wanted at the keys of a table, and what is wrong there.
use Rattle.std.specs.Prelude.{◌≡◌, ◌⊎◌, ℕ, pos, ◌+◌, ◌<◌, ◌≤◌, List, [], ◌∷◌, Option, Some, None}
use Rattle.std.specs.declared.net.socket_addr.SocketAddr.{SocketAddr}
use Rattle.std.specs.Net.Grammar.{IsSocketText}
use Rattle.toml.specs.Data.{Data, Items, no_items, item, Members, get_member, as_str, as_integer, as_array}
use Rattle.prefix_range.specs.Prefix.{Prefix}
use Rattle.client_id.specs.Duid.{duid_word}
use Rattle.binding_rules.specs.declared.role.Role.{Role}
use Rattle.server_settings.specs.Document.{role_of, prefix_of}
use Rattle.settings_diagnostics.specs.declared.key.Key.{Key}
use Rattle.settings_diagnostics.specs.declared.key.Key.TheVariants.{Role as RoleKey, Duid, SkewMs, Mclt, Life, TransitMs}
use Rattle.settings_diagnostics.specs.declared.key.Key.TheVariants.{Listen, Link, Workers, Pool}
use Rattle.settings_diagnostics.specs.declared.key_rule.TextFormat.{TextFormat}
use Rattle.settings_diagnostics.specs.declared.key_rule.TextFormat.TheVariants.{RoleName, Identifier, Address, Range}
use Rattle.settings_diagnostics.specs.declared.key_rule.Expectation.{Expectation}
use Rattle.settings_diagnostics.specs.declared.key_rule.Expectation.TheVariants.{Text as TextWish, Number, Tables}
use Rattle.settings_diagnostics.specs.declared.key_rule.Presence.TheVariants.{Required, Optional}
use Rattle.settings_diagnostics.specs.declared.key_rule.KeyRule.{KeyRule}
use Rattle.settings_diagnostics.specs.declared.key_rule.ValueFault.{ValueFault}
use Rattle.settings_diagnostics.specs.declared.key_rule.ValueFault.TheVariants.{Missing, Kind, Text, Outside, Count}
use Rattle.settings_diagnostics.specs.declared.key_diagnostic.KeyTable.{KeyTable}
use Rattle.settings_diagnostics.specs.declared.key_diagnostic.KeyDiagnostic.{KeyDiagnostic}
use Rattle.settings_diagnostics.specs.Keys.{key_name}

-- ---- one value

abbrev pub Spells : TextFormat → List ℕ → Type 0
Spells RoleName word = (r : Role) × (role_of word ≡ Some r)
Spells Identifier word = (duid : List ℕ) × (duid_word word ≡ Some duid)
Spells Address word = (a : SocketAddr) × IsSocketText word a
Spells Range word = (p : Prefix) × (prefix_of word ≡ Some p)

-- a text that spells what is wanted
abbrev pub IsText : TextFormat → Data → Type 0
IsText wording d = (word : List ℕ) × (as_str d ≡ Some word) × Spells wording word

abbrev pub IsTextFault : TextFormat → Data → ValueFault → Type 0
IsTextFault wording d Kind = as_str d ≡ None
IsTextFault wording d Text = (word : List ℕ) × (as_str d ≡ Some word) × (Spells wording word → ⊥)
IsTextFault wording d _ = ⊥

-- a whole number from the least to the most
abbrev pub IsNumber : ℕ → ℕ → Data → Type 0
IsNumber least most d = (n : ℕ) × (as_integer d ≡ Some (pos n)) × (least ≤ n) × (n ≤ most)

abbrev pub IsNumberFault : ℕ → ℕ → Data → ValueFault → Type 0
IsNumberFault least most d Kind = as_integer d ≡ None
IsNumberFault least most d (Outside z) = (as_integer d ≡ Some z) × ((n : ℕ) → z ≡ pos n → least ≤ n → n ≤ most → ⊥)
IsNumberFault least most d _ = ⊥

abbrev pub count_of : Items → ℕ
count_of no_items = 0
count_of (item d ds) = count_of ds + 1

-- a count from the least to the most
abbrev pub IsCount : ℕ → ℕ → ℕ → Type 0
IsCount least most count = (least ≤ count) × (count ≤ most)

abbrev pub IsCountFault : ℕ → ℕ → ℕ → ValueFault → Type 0
IsCountFault least most count fault = (fault ≡ Count count) × ((count < least) ⊎ (most < count))

-- a list of so many entries
abbrev pub AreTables : ℕ → ℕ → Data → Type 0
AreTables least most d = (ds : Items) × (as_array d ≡ Some ds) × IsCount least most (count_of ds)

abbrev pub AreTablesFault : ℕ → ℕ → Data → ValueFault → Type 0
AreTablesFault least most d fault =
    ((fault ≡ Kind) × (as_array d ≡ None))
    ⊎ ((ds : Items) × (as_array d ≡ Some ds) × IsCountFault least most (count_of ds) fault)

abbrev pub Meets : Expectation → Data → Type 0
Meets (TextWish wording) d = IsText wording d
Meets (Number least most) d = IsNumber least most d
Meets (Tables least most) d = AreTables least most d

-- a value that doesn't meet the wish has this fault
abbrev pub IsFault : Expectation → Data → ValueFault → Type 0
IsFault (TextWish wording) d fault = IsTextFault wording d fault
IsFault (Number least most) d fault = IsNumberFault least most d fault
IsFault (Tables least most) d fault = AreTablesFault least most d fault

-- ---- what is at a key

-- the value meets the wish; without one the key may be left out
abbrev pub IsFit : KeyRule → Option Data → Type 0
IsFit w (Some d) = Meets w.wish d
IsFit w None = w.need ≡ Optional

-- the value has this fault; without one the key may not be left out
abbrev pub IsWrong : KeyRule → Option Data → ValueFault → Type 0
IsWrong w (Some d) fault = IsFault w.wish d fault
IsWrong w None fault = (w.need ≡ Required) × (fault ≡ Missing)

-- ---- the keys of a table

-- what is at a key of a table is as wanted
abbrev pub IsMet : Members → KeyRule → Type 0
IsMet members w = IsFit w (get_member (key_name w.key) members)

-- a complaint names the place, what is wanted, and the fault of what is there
pub record IsDiagnostic (members : Members) (place : KeyTable) (w : KeyRule) (c : KeyDiagnostic) : Type 0 where
  pub at : c.place ≡ place
  pub wanted : c.wanted ≡ w
  pub found : IsWrong w (get_member (key_name w.key) members) c.fault

-- one complaint for each key that isn't as wanted, in their order
abbrev pub AreDiagnostics : Members → KeyTable → List KeyRule → List KeyDiagnostic → Type 0
AreDiagnostics m place [] all = all ≡ []
AreDiagnostics m place (w ∷ ws) all =
    (IsMet m w × AreDiagnostics m place ws all)
    ⊎ ((c : KeyDiagnostic) × (rest : List KeyDiagnostic) × (all ≡ c ∷ rest) × IsDiagnostic m place w c
    × AreDiagnostics m place ws rest)

-- ---- the keys of a node's settings

abbrev pub always : Key → Expectation → KeyRule
always key wish = record { key = key; need = Required; wish = wish }

abbrev pub maybe : Key → Expectation → KeyRule
maybe key wish = record { key = key; need = Optional; wish = wish }

abbrev pub wishes : List KeyRule
wishes =
    always RoleKey (TextWish RoleName)
    ∷ always Duid (TextWish Identifier)
    ∷ always SkewMs (Number 0 86400000)
    ∷ always Mclt (Number 1 31536000)
    ∷ always Life (Number 1 31536000)
    ∷ maybe TransitMs (Number 0 3600000)
    ∷ always Listen (TextWish Address)
    ∷ maybe Link (TextWish Address)
    ∷ always Workers (Number 1 63)
    ∷ always Pool (Tables 1 16)
    ∷ []
