-- Texts and lists of values, as objects have them.
use Rattle.std.specs.Prelude.{◌≡◌, ◌==◌, ℕ, List, [], ◌∷◌, ⊤, map, if◌then◌else◌}
use Rattle.std.specs.declared.alloc.Global.{Global}
use Rattle.std.specs.declared.vec.Vec.{Vec}
use Rattle.serde_json.specs.Data.{Data, array, Items, no_items, item}
use Rattle.text_fields.specs.Cuts.{split}
use Rattle.report_data.specs.Fields.{IsText}

-- each value stands for one of these, in order
abbrev pub AreEach : {A : Type 0} → (A → Data → Type 0) → List A → Items → Type 0
AreEach form [] no_items = ⊤
AreEach form [] (item d ds) = ⊥
AreEach form (x ∷ xs) no_items = ⊥
AreEach form (x ∷ xs) (item d ds) = form x d × AreEach form xs ds

-- an array of these
abbrev pub IsArrayOf : {A : Type 0} → (A → Data → Type 0) → List A → Data → Type 0
IsArrayOf form xs d = (ds : Items) × AreEach form xs ds × (d ≡ array ds)

abbrev pub AreTexts : List (List ℕ) → Data → Type 0
AreTexts texts d = IsArrayOf IsText texts d

-- the octets of texts
abbrev pub octets_of : List (Vec ℕ Global) → List (List ℕ)
octets_of texts = map (λ t. t.items) texts

-- a text without the line feed that it ends with, if it does
unfoldable pub without_feed : List ℕ → List ℕ
without_feed [] = []
without_feed (b ∷ []) = if b == 10 then [] else b ∷ []
without_feed (b ∷ c ∷ text) = b ∷ without_feed (c ∷ text)

-- what stands between line feeds; nothing of an empty text
abbrev pub cuts_in : List ℕ → List (List ℕ)
cuts_in [] = []
cuts_in (b ∷ text) = split 10 (b ∷ text)

-- the lines of a text
abbrev pub lines_in : List ℕ → List (List ℕ)
lines_in text = cuts_in (without_feed text)
