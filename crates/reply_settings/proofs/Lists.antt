-- Lists read item by item.
use Rattle.std.proofs.Common.{◌≡◌, ℕ, ◌+◌, ◌<◌, ◌≤◌, List, [], ◌∷◌, ◌++◌, length, drop, get_or, Option, Some, None}
use Rattle.std.proofs.Common.{option_map, refl, sym, ap, ◌∙◌, inl, inr}
use Rattle.std.proofs.lemmas.List.{append_assoc, append-nil, drop_all}
use Rattle.toml.specs.Data.{Data}
use Rattle.toml.specs.View.{view, items_view}
use Rattle.toml.specs.declared.value.Value.{Value}
use Rattle.toml.proofs.Views.{items_view-drop}
use Rattle.reply_settings.specs.Values.{Misses, each_of}
use Rattle.reply_settings.specs.declared.error.ReplyPolicyError.{ReplyPolicyError}

joined : {A : Type 0} (xs : List A) (x : A) (o : Option (List A))
    → option_map (λ ys. xs ++ ys) (option_map (λ ys. x ∷ ys) o) ≡ option_map (λ ys. (xs ++ x ∷ []) ++ ys) o
joined xs x None = refl
joined xs x (Some ys) = ap Some (sym (append_assoc xs (x ∷ []) ys))

-- those that were read, and those that are left, make all
pub record IsReadOn {A : Type 0} (parse : Data → Option A) (xs : List A) (i : ℕ) (vs : List Value) : Type 0 where
  pub all : option_map (λ ys. xs ++ ys) (each_of parse (items_view (drop i vs))) ≡ each_of parse (items_view vs)

same : {A : Type 0} (o : Option (List A)) → option_map (λ ys. [] ++ ys) o ≡ o
same None = refl
same (Some xs) = refl

pub begins : {A : Type 0} (parse : Data → Option A) (xs : List A) (vs : List Value) → xs ≡ [] → IsReadOn parse xs 0 vs
begins parse xs vs none = record { all = rw none (same (each_of parse (items_view vs))) }

pub goes_on : {A : Type 0} (parse : Data → Option A) (xs more : List A) (i : ℕ) (vs : List Value) (v : Value) (x : A)
    → IsReadOn parse xs i vs → i < length vs → v ≡ get_or vs i v → parse (view v) ≡ Some x → more ≡ xs ++ x ∷ []
    → IsReadOn parse more (i + 1) vs
unfolding each_of
goes_on parse xs more i vs v x h lt at is added = record {
  all = rw added (sym (rw (items_view-drop vs i v lt, ← at, is) (joined xs x (each_of parse (items_view (drop (i + 1) vs)))))
      ∙ h.all);
}

pub misses : {A : Type 0} (parse : Data → Option A) (xs : List A) (i : ℕ) (vs : List Value) (v : Value)
    → IsReadOn parse xs i vs → i < length vs → v ≡ get_or vs i v → parse (view v) ≡ None
    → each_of parse (items_view vs) ≡ None
unfolding each_of
misses parse xs i vs v h lt at is =
    let off : option_map (λ ys. xs ++ ys) (each_of parse (items_view (drop i vs))) ≡ None =
    rw (items_view-drop vs i v lt, ← at, is) refl in
    sym h.all ∙ off

pub ends : {A : Type 0} (parse : Data → Option A) (xs : List A) (i : ℕ) (vs : List Value) → IsReadOn parse xs i vs
    → length vs ≤ i → each_of parse (items_view vs) ≡ Some xs
unfolding each_of
ends parse xs i vs h le =
    let on : option_map (λ ys. xs ++ ys) (each_of parse (items_view (drop i vs))) ≡ Some xs =
    rw (drop_all i vs le) (ap Some (append-nil xs)) in
    sym h.all ∙ on

-- an error of one item is that of all
pub misses_all : {A : Type 0} (parse : Data → Option A) (xs : List A) (i : ℕ) (vs : List Value) (v : Value)
    (fault e : ReplyPolicyError) → IsReadOn parse xs i vs → i < length vs → v ≡ get_or vs i v
    → Misses fault e (parse (view v) ≡ None) → Misses fault e (each_of parse (items_view vs) ≡ None)
misses_all parse xs i vs v fault e h lt at (inl memory) = inl memory
misses_all parse xs i vs v fault e h lt at (inr why) = inr (why.0, misses parse xs i vs v h lt at why.1)
