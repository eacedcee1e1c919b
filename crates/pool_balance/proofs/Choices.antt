-- What is left of the sorted free units is the choice.
use Rattle.std.proofs.Common.{◌≡◌, ℕ, ◌-◌, ◌≤◌, List, length, take, count_by, filter, ◌++◌, drop, ◌∙◌, sym, ap, arith}
use Rattle.std.proofs.Common.{refl, Bool, true, false, cond, ltb, eqb}
use Rattle.std.specs.List.Sorted.{IsPermutation}
use Rattle.std.specs.Ordering.{is_lt, nat_cmp}
use Rattle.std.specs.declared.cmp.Ordering.TheVariants.{Less, Equal, Greater}
use Rattle.std.proofs.lemmas.List.{length-map, length-take-le, take-append-le}
use Rattle.std.proofs.Math.Seq.{take-length}
use Rattle.std.proofs.lemmas.List.Sums.{length-filter}
use Rattle.std.proofs.lemmas.List.Sorted.{length_permutation}
use Rattle.prefix_range.specs.Prefix.{Prefix}
use Rattle.binding_rules.specs.declared.update.Status.{Status}
use Rattle.pool_balance.specs.Balance.{half_of, is_free, is_backup, free_of, lacking, IsDescending, IsChoice}

-- each free unit is in the list once
length-free : (units : List (Prefix × Status)) → length (free_of units) ≡ count_by is_free units
length-free units = length-map (filter is_free units) (λ (u : Prefix × Status). u.0) ∙ length-filter is_free units

pub choice : (units : List (Prefix × Status)) (free ranked chosen : List Prefix) (backup lacks : ℕ)
    → free ≡ free_of units → backup ≡ count_by is_backup units
    → lacks ≡ half_of (length free) backup - backup → IsPermutation free ranked → IsDescending ranked
    → chosen ≡ take lacks ranked
    → IsChoice units chosen × (length chosen ≡ lacking units)
choice units free ranked chosen backup lacks f b n same descending is =
    let many : length free ≡ count_by is_free units = ap length f ∙ length-free units in
    let lack : lacks ≡ lacking units = n ∙ rw (many, b) refl in
    let long : length ranked ≡ length free = length_permutation free ranked same in
    let few : lacks ≤ length ranked = omega arith in (
      record {
        ranked = ranked;
        free = rw f at same;
        descending = descending;
        highest =
            is ∙ ap (λ (k : ℕ). take k ranked) lack;
      },
      ap length is ∙ (length-take-le lacks ranked few ∙ lack),
    )

pub is_lt-nat_cmp : (x y : ℕ) → is_lt (nat_cmp x y) ≡ ltb x y
is_lt-nat_cmp x y = by (ltb x y) (eqb x y) where
  by : (less same : Bool) → is_lt (cond less Less (cond same Equal Greater)) ≡ less
  by true same = refl
  by false true = refl
  by false false = refl

-- a sort through a slice of the whole vector, and the vector cut afterwards
pub kept : (len n : ℕ) (old new out : List Prefix) → IsPermutation old new → len ≡ length old
    → out ≡ take n (take len (new ++ drop (length new) old)) → out ≡ take n new
kept len n old new out same l e =
    let long : length new ≡ length old = length_permutation old new same in
    let k : len ≡ length new = l ∙ sym long in
    let within : length new ≤ length new = omega arith in
    e ∙ ap (λ (w : List Prefix). take n w) (ap (λ (m : ℕ). take m (new ++ drop (length new) old)) k
    ∙ (take-append-le (length new) new (drop (length new) old) within ∙ take-length new))
