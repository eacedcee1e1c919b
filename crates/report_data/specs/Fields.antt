-- What stands in the fields of a report as JSON.
use Rattle.std.specs.Prelude.{◌≡◌, ◌⊎◌, ◌≤◌, ◌++◌, ◌∷◌, [], ℕ, List, Some}
use Rattle.serde_json.specs.Data.{Data, Members, string, null, depth, put as with_member}
use Rattle.serde_json.specs.Read.{read, max_depth}
use Rattle.serde_json.specs.View.{view}
use Rattle.serde_json.specs.declared.value.Value.{Value}
use Rattle.std.specs.Str.{IsUtf8}

-- the value is this text; null where it is none of UTF-8, and only there
abbrev pub IsText : List ℕ → Data → Type 0
IsText text d = (IsUtf8 text × (d ≡ string text)) ⊎ ((IsUtf8 text → ⊥) × (d ≡ null))

-- the old fields, and at the name a value that stands for this one
abbrev pub HasField : {V : Type 0} → (gives : V → Value → Type 0) → List ℕ → V → (old new : Members) → Type 0
HasField gives name value old new = (v : Value) × gives value v × (new ≡ with_member name (view v) old)

-- a text, of which a reader makes this value again unless it nests deeper than readers follow, and a line feed
pub record IsLineOf (d : Data) (line : List ℕ) : Type 0 where
  pub text : List ℕ
  pub ended : line ≡ text ++ 10 ∷ []
  pub read_back : depth d ≤ max_depth → read text ≡ Some d
