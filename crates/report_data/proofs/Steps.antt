-- Objects, a member at a time.
use Rattle.std.specs.Prelude.{◌≡◌, ℕ, List, Result, Ok, Err, IfOk, IsOkAnd, MatchResult}
use Rattle.std.proofs.Common.{subst, refl}
use Rattle.serde_json.specs.Data.{Data, Members, object, no_members, put as with_member}
use Rattle.serde_json.specs.View.{view}
use Rattle.serde_json.specs.declared.value.Value.{Value}
use Rattle.report_data.specs.Fields.{IsLineOf}
use Rattle.report_data.specs.Rulings.{With, Any}

-- what is so of the object with a member is so of the one before it with this member
pub stepped : {F E : Type 0} (of : F → Members) (name : List ℕ) (form : Data → Type 0) (so : Members → Type 0)
    (before after : Result F E) (made : Result Value E)
    → IfOk after (λ f. IsOkAnd before (λ b. IsOkAnd made (λ v. of f ≡ with_member name (view v) (of b))))
    → IfOk made (λ v. form (view v)) → IsOkAnd after (λ f. so (of f))
    → IsOkAnd before (λ b. With name form so (of b))
stepped of name form so (Ok b) (Ok f) (Ok v) step is p =
    record { value = view v; is = is; then_so = subst so step p }
stepped of name form so (Ok b) (Ok f) (Err e) step is p = absurd step
stepped of name form so (Err e) (Ok f) made step is p = absurd step
stepped of name form so before (Err e) made step is p = absurd p

-- the same of a member whose value is known by what it gives
pub stepped_by : {F E V : Type 0} (gives : V → Value → Type 0) (of : F → Members) (name : List ℕ) (value : V)
    (form : Data → Type 0) (so : Members → Type 0) (before after : Result F E)
    → IfOk after (λ f. IsOkAnd before (λ b. (v : Value) × gives value v × (of f ≡ with_member name (view v) (of b))))
    → ((v : Value) → gives value v → form (view v)) → IsOkAnd after (λ f. so (of f))
    → IsOkAnd before (λ b. With name form so (of b))
stepped_by gives of name value form so (Ok b) (Ok f) step is p =
    record { value = view step.0; is = is step.0 step.1; then_so = subst so step.2 p }
stepped_by gives of name value form so (Err e) (Ok f) step is p = absurd step
stepped_by gives of name value form so before (Err e) step is p = absurd p

-- an object without a member is where all begins
pub begun : {F E : Type 0} (of : F → Members) (so : Members → Type 0) (first : Result F E)
    → MatchResult first (λ f. of f ≡ no_members) (λ e. ⊥) → IsOkAnd first (λ f. so (of f)) → so no_members
begun of so (Ok f) none p = subst so none p
begun of so (Err e) none p = absurd p

-- a value that is made of all the members
pub finished : {F E : Type 0} (of : F → Members) (Q : Data → Type 0) (fields : Result F E) (result : Result Value E)
    → MatchResult result (λ v. IsOkAnd fields (λ f. view v ≡ object (of f))) (λ e. fields ≡ Err e)
    → ((d : Data) → IsOkAnd fields (λ f. d ≡ object (of f)) → Q d) → IfOk result (λ v. Q (view v))
finished of Q fields (Ok v) is next = next (view v) is
finished of Q fields (Err e) is next = tt

-- any value will do
pub any : {E : Type 0} (made : Result Value E) → IfOk made (λ v. Any (view v))
any (Ok v) = tt
any (Err e) = tt

-- an object that begins with one member
pub begun_with : {F E : Type 0} (of : F → Members) (name : List ℕ) (d : Data) (form : Data → Type 0)
    (so : Members → Type 0) (first : Result F E) → IfOk first (λ f. of f ≡ with_member name d no_members) → form d
    → IsOkAnd first (λ f. so (of f)) → With name form so no_members
begun_with of name d form so (Ok f) one is p = record { value = d; is = is; then_so = subst so one p }
begun_with of name d form so (Err e) one is p = absurd p

line_made : {F E : Type 0} (of : F → Members) (Q : Data → Type 0) (fields : Result F E) (text : List ℕ)
    → IsOkAnd fields (λ f. IsLineOf (object (of f)) text)
    → ((d : Data) → IsOkAnd fields (λ f. d ≡ object (of f)) → Q d) → (d : Data) × Q d × IsLineOf d text
line_made of Q (Ok f) text is next = (object (of f), next (object (of f)) refl, is)
line_made of Q (Err e) text is next = absurd is

-- a line that is made of all the members
pub lined : {F E S : Type 0} (of : F → Members) (octets : S → List ℕ) (Q : Data → Type 0) (fields : Result F E)
    (result : Result S E) → IfOk result (λ line. IsOkAnd fields (λ f. IsLineOf (object (of f)) (octets line)))
    → ((d : Data) → IsOkAnd fields (λ f. d ≡ object (of f)) → Q d)
    → IfOk result (λ line. (d : Data) × Q d × IsLineOf d (octets line))
lined of octets Q fields (Ok line) is next = line_made of Q fields (octets line) is next
lined of octets Q fields (Err e) is next = tt
