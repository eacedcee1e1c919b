-- The octets that are read of a word are spelled so, and octets that are spelled are read again.
use Rattle.std.proofs.Common.{◌≡◌, ◌≢◌, ℕ, zero, suc, ◌+◌, ◌*◌, ◌/◌, ◌%◌, ◌<◌, List, [], ◌∷◌, length, get_or, Some}
use Rattle.std.proofs.Common.{refl, ap, subst, ◌∙◌, arith, lit<}
use Rattle.std.specs.Prelude.{option_map}
use Rattle.std.specs.Int.{w32, to_be_bytes}
use Rattle.std.proofs.lemmas.Bool.Decides.{nat_tests}
use Rattle.text_fields.specs.Parsing.{◌>>=◌}
use Rattle.text_fields.specs.Cuts.{Lacks}
use Rattle.text_fields.specs.Octets.{hex_digit, hex, AreOctets, hex_value, octet_of, octets_of}
use Rattle.text_fields.proofs.Steps.{bind_some, map_some, some_is}

digit_takes : (b n : ℕ) → hex_value b ≡ Some n → (b ≡ hex_digit n) × (n < 16)
unfolding hex_value
digit_takes b n e = grind (arith, nat_tests)

digit_again : (n : ℕ) → n < 16 → hex_value (hex_digit n) ≡ Some n
unfolding hex_value
digit_again n lt = grind (arith, nat_tests)

digit_lacks : (n stop : ℕ) → stop < 48 → hex_digit n ≢ stop
digit_lacks n stop low e = grind (arith, nat_tests)

octet_takes : (a b x : ℕ) → octet_of a b ≡ Some x → (a ≡ hex_digit (x / 16)) × (b ≡ hex_digit (x % 16)) × (x < 256)
unfolding octet_of
octet_takes a b x e =
    let h = bind_some (hex_value a) (λ high. hex_value b >>= λ low. Some (16 * high + low)) x e in
    let l = bind_some (hex_value b) (λ low. Some (16 * h.0 + low)) x h.2 in
    let high = digit_takes a h.0 h.1 in
    let low = digit_takes b l.0 l.1 in
    let whole : 16 * h.0 + l.0 ≡ x = some_is _ _ l.2 in
    let q : h.0 ≡ x / 16 = omega arith in
    let r : l.0 ≡ x % 16 = omega arith in
    (high.0 ∙ ap hex_digit q, low.0 ∙ ap hex_digit r, omega arith)

octet_again : (x : ℕ) → x < 256 → octet_of (hex_digit (x / 16)) (hex_digit (x % 16)) ≡ Some x
unfolding octet_of
octet_again x lt =
    let whole : 16 * (x / 16) + x % 16 ≡ x = omega arith in
    rw (digit_again (x / 16) (omega arith), digit_again (x % 16) (omega arith)) (ap (λ (k : ℕ). Some k) whole)

pub octets_take : (word xs : List ℕ) → octets_of word ≡ Some xs → (word ≡ hex xs) × AreOctets xs
unfolding octets_of
octets_take [] xs e = let none : [] ≡ xs = some_is _ _ e in
    subst (λ (ys : List ℕ). ([] ≡ hex ys) × AreOctets ys) none (refl, tt)
octets_take (a ∷ []) xs e = absurd cc
octets_take (a ∷ b ∷ word) xs e =
    let x = bind_some (octet_of a b) (λ y. option_map (λ ys. y ∷ ys) (octets_of word)) xs e in
    let m = map_some (octets_of word) (λ ys. x.0 ∷ ys) xs x.2 in
    let one = octet_takes a b x.0 x.1 in
    let more = octets_take word m.0 m.1 in
    subst (λ (ys : List ℕ). (a ∷ b ∷ word ≡ hex ys) × AreOctets ys) m.2 (
      rw (← one.0, ← one.1, ← more.0) refl,
      (one.2, more.1),
    )

pub octets_again : (xs : List ℕ) → AreOctets xs → octets_of (hex xs) ≡ Some xs
unfolding octets_of
octets_again [] h = refl
octets_again (x ∷ xs) h = rw (octet_again x h.0, octets_again xs h.1) refl

pub length-hex : (xs : List ℕ) → length (hex xs) ≡ 2 * length xs
length-hex [] = refl
length-hex (x ∷ xs) = omega (arith, length-hex xs)

pub hex_lacks : (stop : ℕ) (xs : List ℕ) → stop < 48 → Lacks stop (hex xs)
hex_lacks stop [] low = tt
hex_lacks stop (x ∷ xs) low = (digit_lacks (x / 16) stop low, (digit_lacks (x % 16) stop low, hex_lacks stop xs low))

pub octets_are_bytes : (xs : List ℕ) → AreOctets xs → (i : ℕ) → get_or xs i 0 < 256
octets_are_bytes [] h i = lit< tt
octets_are_bytes (x ∷ xs) h zero = h.0
octets_are_bytes (x ∷ xs) h (suc i) = octets_are_bytes xs h.1 i

-- the four octets of a number
pub are_octets : (n : ℕ) → AreOctets (to_be_bytes w32 n)
are_octets n = (omega arith, (omega arith, (omega arith, (omega arith, tt))))

-- no digit is a colon
colon_lacks : (n : ℕ) → n < 16 → hex_digit n ≢ 58
colon_lacks n lt e = grind (arith, nat_tests)

pub hex_lacks_colon : (xs : List ℕ) → AreOctets xs → Lacks 58 (hex xs)
hex_lacks_colon [] h = tt
hex_lacks_colon (x ∷ xs) h = (
  colon_lacks (x / 16) (omega (arith, h.0)),
  (colon_lacks (x % 16) (omega arith), hex_lacks_colon xs h.1),
)
