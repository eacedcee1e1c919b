-- The complaints about some pools, and about one more.
use Rattle.std.proofs.Common.{◌≡◌, ℕ, ◌+◌, ◌<◌, ◌≤◌, List, [], ◌++◌, length, drop, get_or, refl, sym, subst}
use Rattle.std.proofs.Common.{append_assoc}
use Rattle.std.proofs.lemmas.List.{append-nil, drop_all}
use Rattle.toml.specs.Data.{Items}
use Rattle.toml.specs.View.{view, items_view}
use Rattle.toml.specs.declared.value.Value.{Value}
use Rattle.toml.proofs.Views.{items_view-drop}
use Rattle.settings_diagnostics.specs.declared.key_diagnostic.KeyDiagnostic.{KeyDiagnostic}
use Rattle.settings_diagnostics.specs.Pools.{members_in, AreOfPool, AreOfPools}

-- the complaints about the first i pools: with those about the others they are about all
pub record AreFirst (vs : List Value) (i : ℕ) (more : List KeyDiagnostic) : Type 0 where
  pub on : (tail : List KeyDiagnostic) → AreOfPools i (items_view (drop i vs)) tail
      → AreOfPools 0 (items_view vs) (more ++ tail)

pub none_yet : (vs : List Value) → AreFirst vs 0 []
none_yet vs = record { on = λ tail are. are }

pub one_more_pool : (vs : List Value) (i : ℕ) (v : Value) (more one : List KeyDiagnostic) → i < length vs
    → v ≡ get_or vs i v → AreFirst vs i more
    → AreOfPool i (members_in (view v)) one → AreFirst vs (i + 1) (more ++ one)
one_more_pool vs i v more one lt at first is = record {
  on = λ tail are.
      let here : AreOfPools i (items_view (drop i vs)) (one ++ tail) =
      subst (λ (ds : Items). AreOfPools i ds (one ++ tail)) (sym (items_view-drop vs i v lt))
      (one, tail, refl, subst (λ (w : Value). AreOfPool i (members_in (view w)) one) at is, are) in
      subst (λ (all : List KeyDiagnostic). AreOfPools 0 (items_view vs) all) (sym (append_assoc more one tail))
      (first.on (one ++ tail) here);
}

pub all_pools : (vs : List Value) (i : ℕ) (more : List KeyDiagnostic) → length vs ≤ i → AreFirst vs i more
    → AreOfPools 0 (items_view vs) more
all_pools vs i more le first =
    let done = first.on [] (subst (λ (rest : List Value). AreOfPools i (items_view rest) [])
    (sym (drop_all i vs le)) refl) in
    subst (λ (all : List KeyDiagnostic). AreOfPools 0 (items_view vs) all) (append-nil more) done
