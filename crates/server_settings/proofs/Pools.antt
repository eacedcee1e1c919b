-- Pools that settings name.
use Rattle.std.proofs.Common.{◌≡◌, ℕ, ◌+◌, ◌<◌, ◌≤◌, List, ◌∷◌, length, take, drop, drop-cons, length-drop, ◌-◌, get_or}
use Rattle.std.proofs.Common.{ap, sym, subst, arith, add-one}
use Rattle.std.specs.Prelude.{suc}
use Rattle.std.proofs.lemmas.List.{take_all, drop_all}
use Rattle.prefix_range.specs.Prefix.{Prefix, Overlaps}
use Rattle.book_state.specs.declared.pool.Pool.{Pool}
use Rattle.book_state.specs.Places.{AreDisjoint}
use Rattle.book_rules.specs.VolumeRules.{AreApart}

-- no two of these have an address in common exactly where no two of the rest do
pub record SameDisjoint (pools rest : List Pool) : Type 0 where
  pub to : AreDisjoint pools → AreDisjoint rest
  pub from : AreDisjoint rest → AreDisjoint pools

pub all_disjoint : (pools : List Pool) → SameDisjoint pools pools
all_disjoint pools = record { to = λ d. d; from = λ d. d }

turned : (p q : Prefix) → Overlaps p q → Overlaps q p
turned p q h = (h.0, h.2, h.1)

pub head_apart : (pool : Pool) (others : List Pool) → AreDisjoint (pool ∷ others) → AreApart others pool.prefix
head_apart pool others d q has meets = d.0 q has (turned q.prefix pool.prefix meets)

pub rest_disjoint : (pools rest others : List Pool) (pool : Pool) → rest ≡ pool ∷ others → SameDisjoint pools rest
    → AreApart others pool.prefix → SameDisjoint pools others
rest_disjoint pools rest others pool is same apart = record {
  to = λ d. (subst AreDisjoint is (same.to d)).1;
  from = λ d. same.from (subst AreDisjoint (sym is) (
    λ q has meets. apart q has (turned pool.prefix q.prefix meets),
    d,
  ));
}

next : (pools : List Pool) (i : ℕ) (pool : Pool) → i < length pools → pool ≡ get_or pools i pool
    → drop i pools ≡ pool ∷ drop (i + 1) pools
next pools i pool lt is = rw (add-one, drop-cons pools i pool) (ap (λ (q : Pool). q ∷ drop (suc i) pools) (sym is))

-- what the code looks at behind a pool
abbrev pub behind : List Pool → ℕ → List Pool
behind pools i = take (length pools - i) (drop i pools)

behind_is : (pools : List Pool) (i : ℕ) → behind pools i ≡ drop i pools
behind_is pools i = take_all (length pools - i) (drop i pools) (omega (arith, length-drop i pools))

pub next_disjoint : (pools : List Pool) (i : ℕ) (pool : Pool) → i < length pools → pool ≡ get_or pools i pool
    → SameDisjoint pools (drop i pools) → AreApart (behind pools (i + 1)) pool.prefix
    → SameDisjoint pools (drop (i + 1) pools)
next_disjoint pools i pool lt is same apart =
    rest_disjoint pools (drop i pools) (drop (i + 1) pools) pool (next pools i pool lt is) same
    (subst (λ ps. AreApart ps pool.prefix) (behind_is pools (i + 1)) apart)

pub next_apart : (pools : List Pool) (i : ℕ) (pool : Pool) → i < length pools → pool ≡ get_or pools i pool
    → SameDisjoint pools (drop i pools) → AreDisjoint pools → AreApart (behind pools (i + 1)) pool.prefix
next_apart pools i pool lt is same d = subst (λ ps. AreApart ps pool.prefix) (sym (behind_is pools (i + 1)))
    (head_apart pool (drop (i + 1) pools) (subst AreDisjoint (next pools i pool lt is) (same.to d)))

pub last_disjoint : (pools : List Pool) (i : ℕ) → length pools ≤ i → SameDisjoint pools (drop i pools)
    → AreDisjoint pools
last_disjoint pools i le same = same.from (rw (drop_all i pools le) tt)
