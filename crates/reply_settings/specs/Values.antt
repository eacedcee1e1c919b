-- Values of a TOML document: numbers, addresses, names, and lists of these.
use Rattle.std.specs.Prelude.{◌≡◌, ◌⊎◌, ◌&&◌, ℕ, ℤ, pos, negsuc, nat_le, nat_lt, List, [], ◌∷◌, ◌++◌, length, codes}
use Rattle.std.specs.Prelude.{Option, Some, None, option_map, Result, Ok, Err, if◌then◌else◌}
use Rattle.toml.specs.Data.{Data, Items, no_items, item, Members, get_member, as_integer, as_array, as_str}
use Rattle.text_fields.specs.Parsing.{◌>>=◌}
use Rattle.prefix_range.specs.Prefix.{Prefix}
use Rattle.prefix_range.specs.declared.error.PrefixError.{PrefixError}
use Rattle.prefix_range.specs.Parsing.{spelled, prefix_spelled}
use Rattle.router_options.specs.declared.error.NameError.{NameError}
use Rattle.router_options.specs.Names.{name_in}
use Rattle.reply_settings.specs.declared.error.ReplyPolicyError.{ReplyPolicyError}
use Rattle.reply_settings.specs.declared.error.ReplyPolicyError.TheVariants.{Memory}

-- an error is this fault, for a reason, or a growth was refused
abbrev pub Misses : ReplyPolicyError → ReplyPolicyError → Type 0 → Type 0
Misses fault e Why = (e ≡ Memory) ⊎ ((e ≡ fault) × Why)

-- ---- numbers

abbrev pub within : ℕ → ℕ → ℤ → Option ℕ
within least most (pos n) = if nat_le least n && nat_le n most then Some n else None
within least most (negsuc n) = None

-- a whole number within these limits
unfoldable pub number_of : ℕ → ℕ → Data → Option ℕ
number_of least most value = as_integer value >>= within least most

abbrev pub number_or_none : ℕ → ℕ → Option Data → Option (Option ℕ)
number_or_none least most None = Some None
number_or_none least most (Some value) = option_map (λ n. Some n) (number_of least most value)

-- the same at a key, which may be left out
unfoldable pub number_at : List ℕ → ℕ → ℕ → Members → Option (Option ℕ)
number_at key least most members = number_or_none least most (get_member key members)

-- ---- addresses

abbrev pub first_of : Result Prefix PrefixError → Option ℕ
first_of (Ok p) = Some p.address
first_of (Err e) = None

-- an address is spelled as in a prefix of all 128 bits (RFC 4291, section 2.2)
unfoldable pub address_word : List ℕ → Option ℕ
address_word word = first_of (prefix_spelled (spelled (word ++ codes "/128")))

unfoldable pub address_of : Data → Option ℕ
address_of value = as_str value >>= address_word

abbrev pub address_or_none : Option Data → Option (Option ℕ)
address_or_none None = Some None
address_or_none (Some value) = option_map (λ a. Some a) (address_of value)

unfoldable pub address_at : List ℕ → Members → Option (Option ℕ)
address_at key members = address_or_none (get_member key members)

-- ---- lists

-- each item, none where one of them is of another kind
unfoldable pub each_of : {A : Type 0} → (Data → Option A) → Items → Option (List A)
each_of parse no_items = Some []
each_of parse (item value items) = parse value >>= λ x. option_map (λ xs. x ∷ xs) (each_of parse items)

-- at most 16 of them
abbrev pub few : {A : Type 0} → List A → Option (List A)
few xs = if nat_lt 16 (length xs) then None else Some xs

abbrev pub list_or_none : {A : Type 0} → (Items → Option (List A)) → Option Data → Option (List A)
list_or_none parse None = Some []
list_or_none parse (Some value) = as_array value >>= λ items. parse items >>= few

abbrev pub addresses_of : Items → Option (List ℕ)
addresses_of items = each_of address_of items

-- the addresses at a key, which may be left out
unfoldable pub addresses_at : List ℕ → Members → Option (List ℕ)
addresses_at key members = list_or_none addresses_of (get_member key members)

-- ---- names

abbrev pub name_found : Result (List ℕ) NameError → Option (List ℕ)
name_found (Ok n) = Some n
name_found (Err e) = None

-- a domain name, by its octets
unfoldable pub name_of : Data → Option (List ℕ)
name_of value = as_str value >>= λ word. name_found (name_in word)

abbrev pub names_of : Items → Option (List (List ℕ))
names_of items = each_of name_of items

unfoldable pub names_at : List ℕ → Members → Option (List (List ℕ))
names_at key members = list_or_none names_of (get_member key members)
