-- A word of digits spells octets where it has an even number of them.
use Rattle.std.proofs.Common.{◌≡◌, ℕ, suc, ◌+◌, ◌*◌, ◌%◌, ◌&&◌, eqb, Bool, true, false, List, [], ◌∷◌, length, Option}
use Rattle.std.proofs.Common.{Some, None, refl, sym, ap, ◌∙◌, arith}
use Rattle.std.specs.Prelude.{is_some, option_map}
use Rattle.std.specs.List.{list_all}
use Rattle.text_fields.specs.Parsing.{◌>>=◌}
use Rattle.text_fields.specs.Octets.{hex_value, octet_of, octets_of}

digits : List ℕ → Bool
digits word = list_all (λ b. is_some (hex_value b)) word

even : ℕ → Bool
even n = eqb (n % 2) 0

even-more : (n : ℕ) → even (suc (suc n)) ≡ even n
unfolding even
even-more n = let e : suc (suc n) % 2 ≡ n % 2 = omega arith in ap (λ k. eqb k 0) e

octet_some : (a b : ℕ) → is_some (octet_of a b) ≡ (is_some (hex_value a) && is_some (hex_value b))
unfolding octet_of
octet_some a b = by (hex_value a) (hex_value b)
  where
    by : (h l : Option ℕ) → is_some (h >>= λ high. l >>= λ low. Some (16 * high + low)) ≡ (is_some h && is_some l)
    by (Some h) (Some l) = refl
    by (Some h) None = refl
    by None l = refl

mapped : {A B : Type 0} (f : A → B) (o : Option A) → is_some (option_map f o) ≡ is_some o
mapped f (Some x) = refl
mapped f None = refl

bound : (o : Option ℕ) (rest : Option (List ℕ)) → is_some (o >>= λ x. option_map (λ xs. x ∷ xs) rest)
    ≡ (is_some o && is_some rest)
bound (Some x) rest = mapped (λ xs. x ∷ xs) rest
bound None rest = refl

regroup : (a b c d : Bool) → ((a && b) && (c && d)) ≡ (c && (a && (b && d)))
regroup true true c d = refl
regroup true false true d = refl
regroup true false false d = refl
regroup false b true d = refl
regroup false b false d = refl

by_pairs : (word : List ℕ) → is_some (octets_of word) ≡ (even (length word) && digits word)
unfolding octets_of digits even
by_pairs [] = refl
by_pairs (a ∷ []) = refl
by_pairs (a ∷ b ∷ word) =
    bound (octet_of a b) (octets_of word)
    ∙ (ap (λ (x : Bool). x && is_some (octets_of word)) (octet_some a b)
    ∙ (ap (λ (x : Bool). (is_some (hex_value a) && is_some (hex_value b)) && x) (by_pairs word)
    ∙ (regroup (is_some (hex_value a)) (is_some (hex_value b)) (even (length word)) (digits word)
    ∙ ap (λ (x : Bool). x && (is_some (hex_value a) && (is_some (hex_value b) && digits word)))
    (sym (even-more (length word))))))

pub spells_octets : (word : List ℕ) → is_some (octets_of word)
    ≡ (eqb (length word % 2) 0 && list_all (λ b. is_some (hex_value b)) word)
unfolding digits even
spells_octets word = by_pairs word
