-- Pools read item by item.
use Rattle.std.proofs.Common.{◌≡◌, ℕ, ◌+◌, ◌<◌, ◌≤◌, List, [], ◌∷◌, ◌++◌, length, drop, get_or, Option, Some, None}
use Rattle.std.proofs.Common.{option_map, refl, sym, ap}
use Rattle.std.proofs.lemmas.List.{append_assoc, append-nil, drop_all}
use Rattle.toml.specs.View.{view, items_view}
use Rattle.toml.specs.declared.value.Value.{Value}
use Rattle.toml.proofs.Views.{items_view-drop}
use Rattle.book_state.specs.declared.pool.Pool.{Pool}
use Rattle.text_fields.specs.Parsing.{Finds}
use Rattle.server_settings.specs.Document.{pool_of, pools_of}

-- what a map of the found gives, the found is
pub finds_mapped : {X Y : Type 0} (view : X → Y) (o : Option X) (read : Option Y) → option_map view o ≡ read
    → Finds view o read
finds_mapped view None read h = sym h
finds_mapped view (Some x) read h = sym h

joined : {A : Type 0} (xs : List A) (x : A) (o : Option (List A))
    → option_map (λ ys. xs ++ ys) (option_map (λ ys. x ∷ ys) o) ≡ option_map (λ ys. (xs ++ x ∷ []) ++ ys) o
joined xs x None = refl
joined xs x (Some ys) = ap Some (sym (append_assoc xs (x ∷ []) ys))

-- one more pool read
pub pools_on : (pools : List Pool) (i : ℕ) (vs : List Value) (v : Value) (p : Pool) → i < length vs → v ≡ get_or vs i v
    → pool_of (view v) ≡ Some p
    → option_map (λ ps. pools ++ ps) (pools_of (items_view (drop i vs)))
    ≡ option_map (λ ps. (pools ++ p ∷ []) ++ ps) (pools_of (items_view (drop (i + 1) vs)))
unfolding pools_of
pools_on pools i vs v p lt at is = rw (items_view-drop vs i v lt, ← at, is)
    (joined pools p (pools_of (items_view (drop (i + 1) vs))))

-- no pool where one should be
pub pools_off : (pools : List Pool) (i : ℕ) (vs : List Value) (v : Value) → i < length vs → v ≡ get_or vs i v
    → pool_of (view v) ≡ None
    → option_map (λ ps. pools ++ ps) (pools_of (items_view (drop i vs))) ≡ None
unfolding pools_of
pools_off pools i vs v lt at is = rw (items_view-drop vs i v lt, ← at, is) refl

-- all pools read
pub pools_end : (pools : List Pool) (i : ℕ) (vs : List Value) → length vs ≤ i
    → option_map (λ ps. pools ++ ps) (pools_of (items_view (drop i vs))) ≡ Some pools
unfolding pools_of
pools_end pools i vs le = rw (drop_all i vs le) (ap Some (append-nil pools))
