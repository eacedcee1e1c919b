-- The identifier that is read of a text is spelled so, and an identifier that is spelled is read again.
use Rattle.std.proofs.Common.{◌≡◌, ℕ, ◌-◌, ◌<◌, ◌≤◌, ◌≢◌, ◌^◌, take, Bool, true, false, cond, eqb, ltb, List, length}
use Rattle.std.proofs.Common.{[], ◌∷◌, ◌/◌, ◌%◌, inl, inr, zero, suc, get_or, Option, Some, None, Result, Ok, Err, refl}
use Rattle.std.proofs.Common.{sym, ap, subst, ◌∙◌, arith}
use Rattle.std.proofs.Math.Seq.{take-append_seam}
use Rattle.std.specs.Prelude.{option_map, is_some, replicate}
use Rattle.std.specs.Int.{w32, to_be_bytes, from_be_bytes}
use Rattle.std.proofs.lemmas.Bool.{cases_lt, eqb-true, ltb-false, le-ltb, lt-ltb}
use Rattle.std.proofs.lemmas.Nat.{be_bytes_4, from_be_bytes-to_be_bytes_4}
use Rattle.hex.specs.Hex.{lower_digits, encode_with, encode_lower}
use Rattle.text_fields.specs.Octets.{AreOctets, hex_digit, hex, octets_of}
use Rattle.text_fields.proofs.Steps.{map_some, chosen}
use Rattle.text_fields.proofs.OctetLaws.{octets_take, octets_again, length-hex, octets_are_bytes, are_octets}
use Rattle.client_id.specs.declared.error.ClientIdError.{ClientIdError}
use Rattle.client_id.specs.declared.error.ClientIdError.TheVariants.{TooShort, TooLong, Hex}
use Rattle.client_id.specs.Octets.{IsPadded, padded}
use Rattle.client_id.proofs.Filling.{is_padded}
use Rattle.client_id.specs.Duid.{IsDuid, IsHex, iaid_text, duid_in, duid_by, duid_of, found_duid, duid_word, iaid_word}

-- ---- lengths

chosen_length : (a b : Bool) (octets d : List ℕ) → cond a (Err TooShort) (cond b (Err TooLong) (Ok octets)) ≡ Ok d
    → (a ≡ false) × (b ≡ false) × (octets ≡ d)
chosen_length true b octets d e = absurd cc
chosen_length false true octets d e = absurd cc
chosen_length false false octets d e = (refl, refl, cc)

in_ok : (octets d : List ℕ) → AreOctets octets → duid_in octets ≡ Ok d → (octets ≡ d) × IsDuid d
in_ok octets d fits e =
    let c = chosen_length (ltb (length octets) 3) (ltb 130 (length octets)) octets d e in
    (c.2, subst IsDuid c.2 (record { fits = fits; least = ltb-false _ _ c.0; most = ltb-false _ _ c.1 }))

in_again : (octets : List ℕ) → IsDuid octets → duid_in octets ≡ Ok octets
in_again octets h = rw (le-ltb (length octets) 3 h.least, le-ltb 130 (length octets) h.most) refl

not_hex : (a b : Bool) (octets : List ℕ) → cond a (Err TooShort) (cond b (Err TooLong) (Ok octets)) ≡ Err Hex → ⊥
not_hex true b octets e = cc
not_hex false true octets e = cc
not_hex false false octets e = cc

-- ---- DUIDs

by_takes : (o : Option (List ℕ)) (d : List ℕ) → duid_by o ≡ Ok d
    → (octets : List ℕ) × (o ≡ Some octets) × (duid_in octets ≡ Ok d)
by_takes None d e = absurd cc
by_takes (Some octets) d e = (octets, refl, e)

pub duid_takes : (text d : List ℕ) → duid_of text ≡ Ok d → (text ≡ hex d) × IsDuid d
unfolding duid_of
duid_takes text d e =
    let b = by_takes (octets_of text) d e in
    let o = octets_take text b.0 b.1 in
    let i = in_ok b.0 d o.1 b.2 in
    (o.0 ∙ ap hex i.0, i.1)

pub duid_again : (d : List ℕ) → IsDuid d → duid_of (hex d) ≡ Ok d
unfolding duid_of
duid_again d h = rw (octets_again d h.fits) (in_again d h)

-- the fault of the digits comes exactly where they spell no octets
by_hex : (o : Option (List ℕ)) → duid_by o ≡ Err Hex → o ≡ None
by_hex None e = refl
by_hex (Some octets) e = absurd (not_hex (ltb (length octets) 3) (ltb 130 (length octets)) octets e)

none_is : {A : Type 0} (x : A) → None ≡ Some x → ⊥
none_is x e = cc

spells : (text : List ℕ) → IsHex text → (octets : List ℕ) × (octets_of text ≡ Some octets)
spells text h = (h.0, ap octets_of h.2 ∙ octets_again h.0 h.1)

some_spells : (text : List ℕ) (o : Option (List ℕ)) → octets_of text ≡ o → (IsHex text → ⊥) → duid_by o ≡ Err Hex
some_spells text None e h = refl
some_spells text (Some octets) e h = let t = octets_take text octets e in absurd (h (octets, t.1, t.0))

pub hex_fault : (text : List ℕ) → (duid_of text ≡ Err Hex → IsHex text → ⊥)
    × ((IsHex text → ⊥) → duid_of text ≡ Err Hex)
unfolding duid_of
hex_fault text = (
  λ e h. (let s = spells text h in none_is s.0 (sym (by_hex (octets_of text) e) ∙ s.1)),
  λ h. some_spells text (octets_of text) refl h,
)

-- a word that spells one, as other texts have it
word_by : (r : Result (List ℕ) ClientIdError) (d : List ℕ) → found_duid r ≡ Some d → r ≡ Ok d
word_by (Ok x) d e = cc
word_by (Err x) d e = absurd cc

pub duid_word_takes : (word d : List ℕ) → duid_word word ≡ Some d → (word ≡ hex d) × IsDuid d
duid_word_takes word d e = duid_takes word d (word_by (duid_of word) d e)

pub duid_word_again : (d : List ℕ) → IsDuid d → duid_word (hex d) ≡ Some d
duid_word_again d h = ap found_duid (duid_again d h)

-- ---- what the reader meets

no_hex : (text : List ℕ) → octets_of text ≡ None → duid_of text ≡ Err Hex
unfolding duid_of
no_hex text e = rw e refl

some_of : (o : Option (List ℕ)) → is_some o ≡ true → (octets : List ℕ) × (o ≡ Some octets)
some_of None e = absurd cc
some_of (Some x) e = (x, refl)

duid_found : (text octets : List ℕ) → octets_of text ≡ Some octets → duid_of text ≡ duid_in octets
unfolding duid_of
duid_found text octets e = rw e refl

long_hex : (text : List ℕ) → is_some (octets_of text) ≡ true → 260 < length text → duid_of text ≡ Err TooLong
long_hex text e lt =
    let s = some_of (octets_of text) e in
    let o = octets_take text s.0 s.1 in
    let long : 130 < length s.0 = omega (arith, ap length o.0, length-hex s.0) in
    duid_found text s.0 s.1 ∙ rw (le-ltb (length s.0) 3 (omega arith), lt-ltb 130 (length s.0) long) refl

short_hex : (text : List ℕ) → is_some (octets_of text) ≡ true → length text < 6 → duid_of text ≡ Err TooShort
short_hex text e lt =
    let s = some_of (octets_of text) e in
    let o = octets_take text s.0 s.1 in
    let short : length s.0 < 3 = omega (arith, ap length o.0, length-hex s.0) in
    duid_found text s.0 s.1 ∙ rw (lt-ltb (length s.0) 3 short) refl

none_of : (o : Option (List ℕ)) → is_some o ≡ false → o ≡ None
none_of None e = refl
none_of (Some x) e = absurd cc

pub hex_fault_is : (text : List ℕ) → is_some (octets_of text) ≡ false → Err Hex ≡ duid_of text
hex_fault_is text e = sym (no_hex text (none_of (octets_of text) e))

pub short_fault : (text : List ℕ) → is_some (octets_of text) ≡ true → length text < 6 → Err TooShort ≡ duid_of text
short_fault text e lt = sym (short_hex text e lt)

-- octets that are no identifier, and not too few, are too many
pub long_fault : (text : List ℕ) → is_some (octets_of text) ≡ true → 6 ≤ length text → duid_word text ≡ None
    → Err TooLong ≡ duid_of text
long_fault text e least none =
    let s = some_of (octets_of text) e in
    let o = octets_take text s.0 s.1 in
    let long = ap length o.0 ∙ length-hex s.0 in
    elim (cases_lt 130 (length s.0)) [
      | inl lt ↦ sym (long_hex text e (omega (arith, long, lt)))
      | inr le ↦ (let is : duid_of text ≡ Ok s.0 = duid_found text s.0 s.1
          ∙ in_again s.0 (record { fits = o.1; least = omega (arith, long); most = le }) in
          let some = ap found_duid is in absurd cc)
    ]

-- the lengths of words that spell identifiers
none_found : (o : Option (List ℕ)) → ((d : List ℕ) → o ≡ Some d → ⊥) → o ≡ None
none_found None h = refl
none_found (Some d) h = absurd (h d refl)

pub wrong_length : (word : List ℕ) → (6 ≤ length word → length word ≤ 260 → length word % 2 ≢ 0) → duid_word word ≡ None
wrong_length word wrong = none_found (duid_word word) (λ d e. let t = duid_word_takes word d e in
    let long = ap length t.0 ∙ length-hex d in
    wrong (omega (arith, long, t.1.least)) (omega (arith, long, t.1.most)) (omega (arith, long)))

pub word_found : (r : Result (List ℕ) ClientIdError) (d : List ℕ) → found_duid r ≡ Some d → Ok d ≡ r
word_found r d e = sym (word_by r d e)

-- what was read into an array of zeros
pub no_digits : (text : List ℕ) → option_map padded (octets_of text) ≡ None → duid_word text ≡ None
no_digits text e = ap found_duid (no_hex text (unmapped (octets_of text) e))
  where
    unmapped : (o : Option (List ℕ)) → option_map padded o ≡ None → o ≡ None
    unmapped None e = refl
    unmapped (Some x) e = absurd cc

pub read_octets : (text bytes : List ℕ) → 6 ≤ length text → length text ≤ 260
    → option_map padded (octets_of text) ≡ Some bytes → (IsPadded bytes (length text / 2))
    × (duid_word text ≡ Some (take (length text / 2) bytes))
read_octets text bytes least most e =
    let m = map_some (octets_of text) padded bytes e in
    let o = octets_take text m.0 m.1 in
    let count : length text / 2 ≡ length m.0 = omega (arith, ap length o.0, length-hex m.0) in
    let fits = is_padded m.0 o.1 (omega (arith, count)) (omega (arith, count)) in
    let front : take (length text / 2) bytes ≡ m.0 = ap (λ (n : ℕ). take n bytes) count
    ∙ (ap (λ (b : List ℕ). take (length m.0) b) (sym m.2) ∙ take-append_seam m.0 (replicate (130 - length m.0) 0))
    in (
      subst (λ (n : ℕ). IsPadded bytes n) (sym count) (subst (λ (b : List ℕ). IsPadded b (length m.0)) m.2 fits),
      ap found_duid (duid_found text m.0 m.1 ∙ in_again m.0 (record {
        fits = o.1;
        least = omega (arith, count);
        most = omega (arith, count);
      })) ∙ ap (λ (x : List ℕ). Some x) (sym front),
    )

-- ---- IAIDs

pub iaid_takes : (word : List ℕ) (n : ℕ) → iaid_word word ≡ Some n → (word ≡ iaid_text n) × (n < 2 ^ 32)
unfolding iaid_word
iaid_takes word n e =
    let c = chosen (eqb (length word) 8) (option_map (from_be_bytes w32) (octets_of word)) n e in
    let m = map_some (octets_of word) (from_be_bytes w32) n c.1 in
    let o = octets_take word m.0 m.1 in
    let fits = octets_are_bytes m.0 o.1 in
    let len : length m.0 ≡ 4 = omega (arith, ap length o.0, length-hex m.0, eqb-true _ _ c.0) in
    let back : to_be_bytes w32 n ≡ m.0 = be_bytes_4 m.0 n len fits (sym m.2) in
    let below : from_be_bytes w32 m.0 < 2 ^ 32 = omega (arith, fits 0, fits 1, fits 2, fits 3) in
    (o.0 ∙ ap hex (sym back), omega (arith, below, m.2))

pub iaid_again : (n : ℕ) → n < 2 ^ 32 → iaid_word (iaid_text n) ≡ Some n
unfolding iaid_word
iaid_again n lt = rw (octets_again (to_be_bytes w32 n) (are_octets n), from_be_bytes-to_be_bytes_4 n lt) refl

-- ---- as the library writes digits

encode_digit : (n : ℕ) → n < 16 → get_or lower_digits n 0 ≡ hex_digit n
encode_digit zero lt = refl
encode_digit (suc zero) lt = refl
encode_digit (suc (suc zero)) lt = refl
encode_digit (suc (suc (suc zero))) lt = refl
encode_digit (suc (suc (suc (suc zero)))) lt = refl
encode_digit (suc (suc (suc (suc (suc zero))))) lt = refl
encode_digit (suc (suc (suc (suc (suc (suc zero)))))) lt = refl
encode_digit (suc (suc (suc (suc (suc (suc (suc zero))))))) lt = refl
encode_digit (suc (suc (suc (suc (suc (suc (suc (suc zero)))))))) lt = refl
encode_digit (suc (suc (suc (suc (suc (suc (suc (suc (suc zero))))))))) lt = refl
encode_digit (suc (suc (suc (suc (suc (suc (suc (suc (suc (suc zero)))))))))) lt = refl
encode_digit (suc (suc (suc (suc (suc (suc (suc (suc (suc (suc (suc zero))))))))))) lt = refl
encode_digit (suc (suc (suc (suc (suc (suc (suc (suc (suc (suc (suc (suc zero)))))))))))) lt = refl
encode_digit (suc (suc (suc (suc (suc (suc (suc (suc (suc (suc (suc (suc (suc zero))))))))))))) lt = refl
encode_digit (suc (suc (suc (suc (suc (suc (suc (suc (suc (suc (suc (suc (suc (suc zero)))))))))))))) lt = refl
encode_digit (suc (suc (suc (suc (suc (suc (suc (suc (suc (suc (suc (suc (suc (suc (suc zero))))))))))))))) lt = refl
encode_digit (suc (suc (suc (suc (suc (suc (suc (suc (suc (suc (suc (suc (suc (suc (suc (suc n)))))))))))))))) lt =
    absurd (omega arith)

pub encoded : (octets : List ℕ) → AreOctets octets → encode_lower octets ≡ hex octets
unfolding encode_with
encoded [] h = refl
encoded (x ∷ octets) h = rw (
  encode_digit (x / 16) (omega arith),
  encode_digit (x % 16) (omega arith),
  encoded octets h.1,
) refl
