-- Pools read one after another.
use Rattle.std.proofs.Common.{◌≡◌, ◌∙◌, ℕ, ◌<◌, List, [], ◌∷◌, ◌++◌, length, Option, Some, None, refl, sym, ap}
use Rattle.std.proofs.Common.{append_assoc, append-nil, arith}
use Rattle.std.specs.Prelude.{option_map}
use Rattle.text_fields.specs.Parsing.{◌>>=◌}
use Rattle.text_fields.proofs.Steps.{map_some}
use Rattle.link_notices.specs.declared.notice.UnitPool.{UnitPool}
use Rattle.link_notices.specs.Parsing.{pool_of, pool_at, pools_of}

-- with these pools in front
unfoldable pub behind_pools : List UnitPool → Option (List UnitPool) → Option (List UnitPool)
behind_pools front o = option_map (λ (pools : List UnitPool). front ++ pools) o

none_before : (o : Option (List UnitPool)) → behind_pools [] o ≡ o
unfolding behind_pools
none_before None = refl
none_before (Some pools) = refl

one_more : (front : List UnitPool) (p : UnitPool) (o : Option (List UnitPool))
    → behind_pools front (option_map (λ (pools : List UnitPool). p ∷ pools) o) ≡ behind_pools (front ++ p ∷ []) o
unfolding behind_pools
one_more front p None = refl
one_more front p (Some pools) = ap (λ (ps : List UnitPool). Some ps) (sym (append_assoc front (p ∷ []) pools))

pool_step : (words rest : List (List ℕ)) (p : UnitPool) → pool_at words ≡ Some (p, rest)
    → (pools_of words ≡ option_map (λ (pools : List UnitPool). p ∷ pools) (pools_of rest))
    × (length rest < length words)
unfolding pool_at pools_of
pool_step [] rest p e = absurd cc
pool_step (a ∷ []) rest p e = absurd cc
pool_step (a ∷ b ∷ words) rest p e =
    let m = map_some (pool_of a b) (λ (q : UnitPool). (q, words)) (p, rest) e in
    let same : m.0 ≡ p = ap (λ x. x.0) m.2 in
    let left : words ≡ rest = ap (λ x. x.1) m.2 in
    (rw (m.1, same, left) refl, omega (arith, ap length left))

-- the words that are left, behind the pools so far, are all words
pub all_left : (words : List (List ℕ)) → behind_pools [] (pools_of words) ≡ pools_of words
all_left words = none_before (pools_of words)

pub one_left : (front : List UnitPool) (words rest : List (List ℕ)) (p : UnitPool) → pool_at words ≡ Some (p, rest)
    → behind_pools front (pools_of words) ≡ behind_pools (front ++ p ∷ []) (pools_of rest)
one_left front words rest p e = ap (behind_pools front) (pool_step words rest p e).0 ∙ one_more front p (pools_of rest)

pub fewer_left : (words rest : List (List ℕ)) (p : UnitPool) → pool_at words ≡ Some (p, rest)
    → length rest < length words
fewer_left words rest p e = (pool_step words rest p e).1

none_at : (words : List (List ℕ)) → (words ≡ [] → ⊥) → pool_at words ≡ None → pools_of words ≡ None
unfolding pool_at pools_of
none_at [] some e = absurd (some refl)
none_at (a ∷ []) some e = refl
none_at (a ∷ b ∷ words) some e = by (pool_of a b) e
  where
    by : (o : Option UnitPool) → option_map {U = UnitPool × List (List ℕ)} (λ p. (p, words)) o ≡ None
        → (o >>= λ p. option_map (λ (pools : List UnitPool). p ∷ pools) (pools_of words)) ≡ None
    by None e = refl
    by (Some p) e = absurd cc

pub none_left : (front : List UnitPool) (words : List (List ℕ)) → pool_at words ≡ None → (words ≡ [] → ⊥)
    → behind_pools front (pools_of words) ≡ None
unfolding behind_pools
none_left front words e some = ap (behind_pools front) (none_at words some e)

pub nothing_left : (front : List UnitPool) (words : List (List ℕ)) → words ≡ []
    → behind_pools front (pools_of words) ≡ Some front
unfolding pools_of behind_pools
nothing_left front words none = ap (λ (ws : List (List ℕ)). behind_pools front (pools_of ws)) none
    ∙ ap (λ (ps : List UnitPool). Some ps) (append-nil front)

pub ruleset pools_left = (all_left, one_left, fewer_left, none_left, nothing_left)
