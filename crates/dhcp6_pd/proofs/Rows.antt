-- Octets as a row of options.
use Rattle.std.proofs.Common.{◌≡◌, ℕ, zero, suc, ◌+◌, ◌<◌, ◌≤◌, List, [], ◌∷◌, length, take, drop, refl, sym, ap, ◌∙◌}
use Rattle.std.proofs.Common.{arith}
use Rattle.std.proofs.lemmas.List.{drop-drop}
use Rattle.std.proofs.lemmas.Bool.{lt-ltb, le-ltb}
use Rattle.byteorder.specs.Endian.{big_number}
use Rattle.dhcp6_pd.specs.declared.error.PdFault.TheVariants.{Short, OptionLength}
use Rattle.dhcp6_pd.specs.Rows.{Row, Done, Broken, Next, row_behind, row_of}

-- the octets that were passed over do not matter
pub row_drop : (n : ℕ) (octets : List ℕ) → row_behind n octets ≡ row_of (drop n octets)
unfolding row_behind
row_drop zero octets = refl
row_drop (suc n) [] = refl
row_drop (suc n) (x ∷ octets) = row_drop n octets

pub row_done : (octets : List ℕ) → length octets ≡ 0 → row_of octets ≡ Done
unfolding row_behind
row_done [] e = refl
row_done (x ∷ octets) e = absurd (omega arith)

pub row_short : (octets : List ℕ) → 0 < length octets → length octets < 4 → row_of octets ≡ Broken Short
unfolding row_behind
row_short [] some few = absurd (omega arith)
row_short (x ∷ octets) some few = rw (lt-ltb (length octets) 3 (omega arith)) refl

pub row_long : (octets : List ℕ) → 4 ≤ length octets → length (drop 4 octets) < big_number 2 (drop 2 octets)
    → row_of octets ≡ Broken OptionLength
unfolding row_behind
row_long [] some few = absurd (omega arith)
row_long (x ∷ octets) some few = rw (
  le-ltb (length octets) 3 (omega arith),
  lt-ltb (length (drop 3 octets)) (big_number 2 (drop 1 octets)) few,
) refl

pub row_next : (octets : List ℕ) → 4 ≤ length octets → big_number 2 (drop 2 octets) ≤ length (drop 4 octets)
    → row_of octets ≡ Next (record {
      code = big_number 2 octets;
      octets =
          take (big_number 2 (drop 2 octets)) (drop 4 octets);
    })
    (row_of (drop (big_number 2 (drop 2 octets)) (drop 4 octets)))
unfolding row_behind
row_next [] some few = absurd (omega arith)
row_next (x ∷ octets) some few =
    rw (le-ltb (length octets) 3 (omega arith), le-ltb (length (drop 3 octets)) (big_number 2 (drop 1 octets)) few)
    (ap (λ (r : Row). Next (record {
      code = big_number 2 (x ∷ octets);
      octets =
          take (big_number 2 (drop 1 octets)) (drop 3 octets);
    }) r)
    (row_drop (3 + big_number 2 (drop 1 octets)) octets
    ∙ ap row_of (sym (drop-drop (big_number 2 (drop 1 octets)) 3 octets))))
