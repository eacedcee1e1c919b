-- The settings that a TOML document has.
use Rattle.std.specs.Prelude.{◌≡◌, ℕ, ℤ, pos, negsuc, ⊤, List, [], ◌∷◌, codes, Option, Some, None, IsUtf8}
use Rattle.std.specs.Prelude.{bytes_eq, nat_le, if◌then◌else◌, option_map, Result, Ok, Err}
use Rattle.toml.specs.Data.{Data, Items, no_items, item, Members, get_member, as_str, as_integer, as_array, as_table}
use Rattle.toml.specs.Parse.{parse_document}
use Rattle.text_fields.specs.Parsing.{◌>>=◌}
use Rattle.prefix_range.specs.Prefix.{Prefix}
use Rattle.prefix_range.specs.Parsing.{spelled, prefix_spelled}
use Rattle.prefix_range.specs.declared.error.PrefixError.{PrefixError}
use Rattle.client_id.specs.Duid.{duid_word}
use Rattle.binding_rules.specs.declared.role.Role.{Role}
use Rattle.binding_rules.specs.declared.role.Role.TheVariants.{Primary, Secondary}
use Rattle.book_state.specs.declared.pool.Pool.{Pool}
use Rattle.book_state.specs.Places.{AreDisjoint}
use Rattle.server_settings.specs.declared.error.OpenError.{OpenError}
use Rattle.server_settings.specs.declared.error.OpenError.TheVariants.{Settings, Overlap, Memory}
use Rattle.server_settings.specs.Settings.{ServerSettings, settings_of, AreWithin}

-- a text is a TOML document: UTF-8 that spells these members
abbrev pub IsDocument : List ℕ → Members → Type 0
IsDocument text members = IsUtf8 text × (parse_document text ≡ Some members)

unfoldable pub role_of : List ℕ → Option Role
role_of word =
    if bytes_eq word (codes "primary")
    then Some Primary
    else (if bytes_eq word (codes "secondary") then Some Secondary else None)

abbrev pub found_prefix : Result Prefix PrefixError → Option Prefix
found_prefix (Ok p) = Some p
found_prefix (Err e) = None

-- the prefix that a word spells as people write them
unfoldable pub prefix_of : List ℕ → Option Prefix
prefix_of word = found_prefix (prefix_spelled (spelled word))

-- a whole number from 0 to the limit
unfoldable pub up_to : ℕ → ℤ → Option ℕ
up_to most (pos n) = if nat_le n most then Some n else None
up_to most (negsuc n) = None

unfoldable pub text_at : List ℕ → Members → Option (List ℕ)
text_at key members = do
  value ← get_member key members
  as_str value

unfoldable pub number_at : List ℕ → ℕ → Members → Option ℕ
number_at key most members = do
  value ← get_member key members
  n ← as_integer value
  up_to most n

unfoldable pub role_in : Members → Option Role
role_in members = do
  word ← text_at (codes "role") members
  role_of word

unfoldable pub duid_in : Members → Option (List ℕ)
duid_in members = do
  word ← text_at (codes "duid") members
  duid_word word

-- without the key there is no transit
abbrev pub transit_by : Option Data → Members → Option ℕ
transit_by None _ = Some 0
transit_by (Some value) members = number_at (codes "transit_ms") 3600000 members

unfoldable pub transit_in : Members → Option ℕ
transit_in members = transit_by (get_member (codes "transit_ms") members) members

unfoldable pub pool_of : Data → Option Pool
pool_of value = do
  members ← as_table value
  word ← text_at (codes "prefix") members
  prefix ← prefix_of word
  unit ← number_at (codes "unit") 128 members
  Some (record { prefix = prefix; unit_length = unit })

-- the pools of all items, none where one of them is no pool
unfoldable pub pools_of : Items → Option (List Pool)
pools_of no_items = Some []
pools_of (item value items) = do
  pool ← pool_of value
  option_map (λ pools. pool ∷ pools) (pools_of items)

unfoldable pub pools_in : Members → Option (List Pool)
pools_in members = do
  value ← get_member (codes "pool") members
  items ← as_array value
  pools_of items

-- the settings that a document names, whatever other keys it has
unfoldable pub named_in : Members → Option ServerSettings
named_in members = do
  role ← role_in members
  duid ← duid_in members
  skew ← number_at (codes "skew_ms") 86400000 members
  mclt ← number_at (codes "mclt") 31536000 members
  life ← number_at (codes "life") 31536000 members
  transit ← transit_in members
  pools ← pools_in members
  Some (settings_of role duid skew mclt life transit pools)

-- what is read of the settings that are named
abbrev pub AreRead : Result ServerSettings OpenError → Option ServerSettings → Type 0
AreRead (Ok s) named = named ≡ Some s
AreRead (Err Settings) named = (s : ServerSettings) → named ≡ Some s → AreWithin s → ⊥
AreRead (Err Overlap) named =
    (s : ServerSettings) × (named ≡ Some s) × AreWithin s × (AreDisjoint s.pools → ⊥)
AreRead (Err Memory) named = ⊤

-- what a reader found, seen by view, is what parsing gives; where memory ran out nothing is said
abbrev pub Reads : {X Y : Type 0} → (X → Y) → Result X OpenError → Option Y → Type 0
Reads view (Ok x) parsed = parsed ≡ Some (view x)
Reads view (Err Settings) parsed = parsed ≡ None
Reads view (Err Overlap) parsed = ⊥
Reads view (Err Memory) parsed = ⊤
