-- Text in a page (HTML 5, section 13.1.4: character references).
use Rattle.std.specs.Prelude.{◌≡◌, ◌≢◌, ℕ, ◌==◌, if◌then◌else◌, List, [], ◌∷◌, ◌++◌, codes, slice_get, Some}
use Rattle.std.specs.List.{flat_map, AllByRecursion}

-- what stands for an octet: for & < > " and ' a reference, else itself
abbrev pub entity : ℕ → List ℕ
entity octet =
    if octet == 38 then codes "&amp;"
    else if octet == 60 then codes "&lt;"
    else if octet == 62 then codes "&gt;"
    else if octet == 34 then codes "&quot;"
    else if octet == 39 then codes "&#39;"
    else octet ∷ []

abbrev pub escaped : List ℕ → List ℕ
escaped text = flat_map entity text

-- ---- what that is good for

-- the references that it writes
abbrev pub ENTITIES : List (List ℕ)
ENTITIES = codes "&amp;" ∷ codes "&lt;" ∷ codes "&gt;" ∷ codes "&quot;" ∷ codes "&#39;" ∷ []

-- none of < > " and ', which begin and end tags and attributes' values
pub record IsInert (octet : ℕ) : Type 0 where
  pub less : octet ≢ 60
  pub greater : octet ≢ 62
  pub quote : octet ≢ 34
  pub apostrophe : octet ≢ 39

abbrev pub BeginsWithEntity : List ℕ → Type 0
BeginsWithEntity text =
    (which : ℕ) × (name : List ℕ) × (rest : List ℕ) × (slice_get ENTITIES which ≡ Some name) × (text ≡ name ++ rest)

-- each ampersand begins a reference
abbrev pub AmpersandsBegin : List ℕ → Type 0
AmpersandsBegin [] = Unit {0}
AmpersandsBegin (octet ∷ text) = (octet ≡ 38 → BeginsWithEntity (octet ∷ text)) × AmpersandsBegin text

pub record IsHarmless (text : List ℕ) : Type 0 where
  pub inert : AllByRecursion IsInert text
  pub ampersands : AmpersandsBegin text

abbrev pub EscapedIsHarmless : Type 0
EscapedIsHarmless = (text : List ℕ) → IsHarmless (escaped text)
