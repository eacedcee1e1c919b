-- An object as a text, and a line feed.
use Rattle.std.specs.Prelude.{◌≡◌, ◌≤◌, ◌++◌, ◌∷◌, [], ℕ, List, Some, Result, Ok, Err, IsOkAnd}
use Rattle.std.proofs.Common.{subst}
use Rattle.serde_json.specs.Data.{Data, depth}
use Rattle.serde_json.specs.Read.{read, max_depth}
use Rattle.report_data.specs.Fields.{IsLineOf}

pub line_of : {F E : Type 0} (fields : Result F E) (of : F → Data) (d : Data) (text line : List ℕ)
    → IsOkAnd fields (λ f. d ≡ of f) → line ≡ text ++ 10 ∷ [] → (depth d ≤ max_depth → read text ≡ Some d)
    → IsOkAnd fields (λ f. IsLineOf (of f) line)
line_of (Ok f) of d text line is ended reads =
    subst (λ (x : Data). IsLineOf x line) is (record { text = text; ended = ended; read_back = reads })
line_of (Err e) of d text line is ended reads = absurd is
