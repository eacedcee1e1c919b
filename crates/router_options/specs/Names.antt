-- Domain names in texts and in octets (RFC 1035, sections 2.3.1, 2.3.4 and 3.1), without compression.
use Rattle.std.specs.Prelude.{◌≡◌, ℕ, ◌||◌, ◌&&◌, ◌==◌, Bool, true, ◌≤◌, List, [], ◌∷◌, ◌++◌, length, nat_lt, nat_le}
use Rattle.std.specs.Prelude.{Result, Ok, Err, not, if◌then◌else◌}
use Rattle.std.specs.List.{list_all, flat_map, AllByRecursion}
use Rattle.text_fields.specs.Cuts.{split}
use Rattle.text_fields.specs.Parsing.{◌>>!◌}
use Rattle.router_options.specs.declared.error.NameError.{NameError}
use Rattle.router_options.specs.declared.error.NameError.TheVariants.{EmptyLabel, LongLabel, Character, TooLong, Memory}

-- ---- which octets are a name's

abbrev pub is_between : ℕ → ℕ → ℕ → Bool
is_between least most octet = nat_le least octet && nat_le octet most

-- a letter, a digit, a hyphen or an underscore
abbrev pub is_name_octet : ℕ → Bool
is_name_octet octet =
    is_between 97 122 octet || (is_between 65 90 octet || (is_between 48 57 octet || (octet == 45 || octet == 95)))

abbrev pub are_name_octets : List ℕ → Bool
are_name_octets label = list_all is_name_octet label

-- 1 to 63 of them
pub record IsLabel (label : List ℕ) : Type 0 where
  pub some : 1 ≤ length label
  pub most : length label ≤ 63
  pub octets : are_name_octets label ≡ true

-- a label behind its length
abbrev pub label_octets : List ℕ → List ℕ
label_octets label = length label ∷ label

-- each label behind its length, and the root's empty one
abbrev pub name_octets : List (List ℕ) → List ℕ
name_octets labels = flat_map label_octets labels ++ 0 ∷ []

-- these are the octets of the name of these labels
pub record IsNameOf (labels : List (List ℕ)) (octets : List ℕ) : Type 0 where
  pub each : AllByRecursion IsLabel labels
  pub spelled : octets ≡ name_octets labels
  pub most : length octets ≤ 255

-- ---- what any text spells

-- one label more behind octets
unfoldable pub with_label : List ℕ → List ℕ → Result (List ℕ) NameError
with_label out label =
    if length label == 0 then Err EmptyLabel
    else if nat_lt 63 (length label) then Err LongLabel
    else if not (are_name_octets label) then Err Character
    else Ok (out ++ label_octets label)

unfoldable pub labels_on : List ℕ → List (List ℕ) → Result (List ℕ) NameError
labels_on out [] = Ok out
labels_on out (label ∷ labels) = with_label out label >>! λ more. labels_on more labels

abbrev pub ended : List ℕ → Result (List ℕ) NameError
ended out = if nat_lt (length out) 255 then Ok (out ++ 0 ∷ []) else Err TooLong

-- the labels between the dots of a text, or the first fault
unfoldable pub name_in : List ℕ → Result (List ℕ) NameError
name_in text = labels_on [] (split 46 text) >>! ended

-- an answer, seen by view, is what parsing gives, unless a growth was refused
abbrev pub Gives : {X Y : Type 0} → (X → Y) → Result X NameError → Result Y NameError → Type 0
Gives view (Ok x) parsed = parsed ≡ Ok (view x)
Gives view (Err EmptyLabel) parsed = parsed ≡ Err EmptyLabel
Gives view (Err LongLabel) parsed = parsed ≡ Err LongLabel
Gives view (Err Character) parsed = parsed ≡ Err Character
Gives view (Err TooLong) parsed = parsed ≡ Err TooLong
Gives view (Err Memory) parsed = Unit {0}
