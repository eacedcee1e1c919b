-- How many entries a list of a document has.
use Rattle.std.proofs.Common.{arith, ◌≡◌, inr, ℕ, List, [], ◌∷◌, length, Option, Some, None, MatchOption, refl, subst}
use Rattle.toml.specs.Data.{Data, as_array}
use Rattle.toml.specs.View.{items_view}
use Rattle.toml.specs.declared.value.Value.{Value}
use Rattle.settings_diagnostics.specs.declared.key_rule.ValueFault.{ValueFault}
use Rattle.settings_diagnostics.specs.KeyRules.{count_of, IsCount, IsCountFault, AreTables, AreTablesFault}

count_is : (vs : List Value) → length vs ≡ count_of (items_view vs)
count_is [] = refl
count_is (v ∷ vs) = let same = count_is vs in omega (arith, same)

-- the fault of a count is that of the list
pub counted : (vs : List Value) (d : Data) (least most : ℕ) (r : Option ValueFault) → as_array d ≡ Some (items_view vs)
    → MatchOption r (IsCount least most (length vs)) (IsCountFault least most (length vs))
    → MatchOption r (AreTables least most d) (AreTablesFault least most d)
counted vs d least most None at fits = (items_view vs, at, subst (λ (n : ℕ). IsCount least most n) (count_is vs) fits)
counted vs d least most (Some fault) at wrong =
    inr (items_view vs, at, subst (λ (n : ℕ). IsCountFault least most n fault) (count_is vs) wrong)
