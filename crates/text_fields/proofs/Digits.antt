-- What the loops over digits keep, and how they end.
use Rattle.std.proofs.Common.{◌≡◌, ℕ, suc, ◌+◌, ◌*◌, ◌%◌, ◌<◌, ◌≤◌, List, [], ◌∷◌, ◌++◌, length, get_or, set, take}
use Rattle.std.proofs.Common.{drop, Option, Some, None, refl, sym, ap, ◌∙◌, append_assoc, arith, add-one}
use Rattle.std.specs.Prelude.{option_map}
use Rattle.std.proofs.Math.Seq.{drop-cons}
use Rattle.std.proofs.lemmas.List.{drop_all, take_all, append-nil}
use Rattle.std.proofs.lemmas.Grind.{take-set_at}
use Rattle.text_fields.specs.Parsing.{◌>>=◌}
use Rattle.text_fields.specs.Number.{with_digit, digits_of}
use Rattle.text_fields.specs.Octets.{octet_of, octets_of}

-- ---- digits

-- one more digit, or no number
pub digits_step : (word : List ℕ) (n i : ℕ) → i < length word
    → digits_of n (drop i word) ≡ (with_digit n (get_or word i 0) >>= λ m. digits_of m (drop (i + 1) word))
unfolding digits_of
digits_step word n i lt = rw (drop-cons word i 0 lt, add-one) refl

pub digits_end : (word : List ℕ) (n i : ℕ) → length word ≤ i → digits_of n (drop i word) ≡ Some n
unfolding digits_of
digits_end word n i le = rw (drop_all i word le) refl

-- ---- octets

abbrev pub octets_front : List ℕ → Option (List ℕ) → Option (List ℕ)
octets_front xs o = option_map (λ ys. xs ++ ys) o

front_more : (xs : List ℕ) (x : ℕ) (o : Option (List ℕ)) → octets_front xs (option_map (λ ys. x ∷ ys) o)
    ≡ octets_front (xs ++ x ∷ []) o
front_more xs x None = refl
front_more xs x (Some ys) = ap (λ (zs : List ℕ). Some zs) (sym (append_assoc xs (x ∷ []) ys))

-- an octet of two more digits, or no octets
pub octets_step : (word : List ℕ) (i : ℕ) → 2 * i + 1 < length word
    → octets_of (drop (2 * i) word) ≡ (octet_of (get_or word (2 * i) 0) (get_or word (2 * i + 1) 0)
    >>= λ x. option_map (λ xs. x ∷ xs) (octets_of (drop (2 * (i + 1)) word)))
unfolding octets_of
octets_step word i lt =
    let next : suc (suc (2 * i)) ≡ 2 * (i + 1) = omega arith in
    let pair : drop (2 * i) word ≡ get_or word (2 * i) 0 ∷ get_or word (2 * i + 1) 0 ∷ drop (2 * (i + 1)) word =
    drop-cons word (2 * i) 0 (omega arith) ∙ ap (λ (xs : List ℕ). get_or word (2 * i) 0 ∷ xs)
    (drop-cons word (suc (2 * i)) 0 (omega arith)
    ∙ ap (λ (n : ℕ). get_or word n 0 ∷ drop (suc (suc (2 * i))) word) (sym (add-one (2 * i)))
    ∙ ap (λ (n : ℕ). get_or word (2 * i + 1) 0 ∷ drop n word) next) in
    rw pair refl

octets_end : (word : List ℕ) (i : ℕ) → length word ≤ 2 * i → octets_of (drop (2 * i) word) ≡ Some []
unfolding octets_of
octets_end word i le = rw (drop_all (2 * i) word le) refl

-- what the loop keeps
pub octets_kept : (word out : List ℕ) (i x : ℕ) (total : Option (List ℕ)) → 2 * i + 1 < length word → i < length out
    → octet_of (get_or word (2 * i) 0) (get_or word (2 * i + 1) 0) ≡ Some x
    → octets_front (take i out) (octets_of (drop (2 * i) word)) ≡ total
    → octets_front (take (i + 1) (set out i x)) (octets_of (drop (2 * (i + 1)) word)) ≡ total
octets_kept word out i x total lt within e so_far =
    let step : octets_front (take i out) (octets_of (drop (2 * i) word))
    ≡ octets_front (take i out) (option_map (λ xs. x ∷ xs) (octets_of (drop (2 * (i + 1)) word))) =
    ap (octets_front (take i out)) (octets_step word i lt ∙ rw e refl) in
    rw (take-set_at out i (i + 1) x refl within) (sym (front_more (take i out) x (octets_of (drop (2 * (i + 1)) word)))
    ∙ (sym step ∙ so_far))

pub octets_done : (word out : List ℕ) (i : ℕ) (total : Option (List ℕ)) → length word ≡ 2 * length out → length out ≤ i
    → octets_front (take i out) (octets_of (drop (2 * i) word)) ≡ total → total ≡ Some out
octets_done word out i total fits le so_far =
    sym so_far ∙ rw (octets_end word i (omega arith), take_all i out le)
    (ap (λ (xs : List ℕ). Some xs) (append-nil out))

pub octets_odd : (word : List ℕ) → length word % 2 ≡ 1 → octets_of word ≡ None
unfolding octets_of
octets_odd [] e = absurd (omega arith)
octets_odd (a ∷ []) e = refl
octets_odd (a ∷ b ∷ word) e = odd (octet_of a b) (octets_odd word (omega arith))
  where
    odd : (o : Option ℕ) → octets_of word ≡ None → (o >>= λ x. option_map (λ xs. x ∷ xs) (octets_of word)) ≡ None
    odd None h = refl
    odd (Some x) h = rw h refl
