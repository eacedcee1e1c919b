-- Octets that are options and nothing else.
use Rattle.std.proofs.Common.{◌≡◌, ℕ, zero, suc, ◌+◌, ◌*◌, ◌/◌, ◌%◌, ◌<◌, ◌≤◌, Bool, true, false, List, [], ◌∷◌, ◌++◌}
use Rattle.std.proofs.Common.{length, take, drop, Result, Ok, refl, sym, ap, subst, ◌∙◌, arith, le-ltb, length-append}
use Rattle.std.specs.Prelude.{nat_lt, if◌then◌else◌}
use Rattle.std.specs.List.{flat_map, AllByRecursion}
use Rattle.std.proofs.lemmas.Bool.{ltb-false}
use Rattle.std.proofs.lemmas.List.{take-append-drop, length-take, drop-drop}
use Rattle.std.proofs.Math.Seq.{drop-append_seam, take-append_seam}
use Rattle.byteorder.specs.Endian.{big_bytes, big_number}
use Rattle.byteorder.specs.Numbers.{big_number-reads_back}
use Rattle.text_fields.specs.Octets.{AreOctets}
use Rattle.dhcp6_pd.specs.declared.error.PdFault.{PdFault}
use Rattle.dhcp6_pd.specs.declared.error.PdFault.TheVariants.{Short, OptionLength}
use Rattle.dhcp6_pd.specs.Layout.{option_octets}
use Rattle.dhcp6_pd.specs.Options.{DhcpOption, IsOption, AreOptions}
use Rattle.dhcp6_pd.specs.Rows.{Row, Done, Broken, Next, row_behind, row_of, folded}
use Rattle.dhcp6_pd.proofs.Binds.{bind_ok}
use Rattle.dhcp6_pd.proofs.Rows.{row_drop, row_next}

-- the row of options behind which nothing is left
abbrev pub whole : List DhcpOption → Row
whole [] = Done
whole (o ∷ options) = Next o (whole options)

-- what was folded to its end was whole
pub folded_whole : {S : Type 0} (step : S → DhcpOption → Result S PdFault) (s t : S) (row : Row)
    → folded step s row ≡ Ok t → (options : List DhcpOption) × (row ≡ whole options)
unfolding folded
folded_whole step s t Done e = ([], refl)
folded_whole step s t (Broken fault) e = absurd cc
folded_whole step s t (Next o row) e =
    let b = bind_ok (step s o) _ t e in
    let more = folded_whole step b.0 t row b.2 in
    (o ∷ more.0, ap (λ (r : Row). Next o r) more.1)

-- ---- from octets to options

-- octets that were taken and left are octets
pub octets_take : (n : ℕ) (octets : List ℕ) → AreOctets octets → AreOctets (take n octets)
octets_take zero octets h = tt
octets_take (suc n) [] h = tt
octets_take (suc n) (x ∷ octets) h = (h.0, octets_take n octets h.1)

pub octets_drop : (n : ℕ) (octets : List ℕ) → AreOctets octets → AreOctets (drop n octets)
octets_drop zero octets h = h
octets_drop (suc n) [] h = tt
octets_drop (suc n) (x ∷ octets) h = octets_drop n octets h.1

pub two_octets : (a b : ℕ) → a < 256 → b < 256 → big_bytes 2 (a * 256 + (b * 1 + 0)) ≡ a ∷ b ∷ []
two_octets a b ha hb =
    let high : (a * 256 + (b * 1 + 0)) / 256 % 256 ≡ a = omega (arith, ha, hb) in
    let low : (a * 256 + (b * 1 + 0)) % 256 ≡ b = omega (arith, ha, hb) in
    ap (λ (x : ℕ). x ∷ (a * 256 + (b * 1 + 0)) % 256 ∷ []) high ∙ ap (λ (x : ℕ). a ∷ x ∷ []) low

two_number : (a b : ℕ) (rest : List ℕ) → big_number 2 (a ∷ b ∷ rest) ≡ a * 256 + (b * 1 + 0)
two_number a b rest = refl

-- the octets of an option and of what follows it
spelled : (a b c d : ℕ) (rest : List ℕ) → AreOctets (a ∷ b ∷ c ∷ d ∷ rest) → big_number 2 (c ∷ d ∷ rest) ≤ length rest
    → a ∷ b ∷ c ∷ d ∷ rest ≡ option_octets (big_number 2 (a ∷ b ∷ c ∷ d ∷ rest))
    (take (big_number 2 (c ∷ d ∷ rest)) rest) ++ drop (big_number 2 (c ∷ d ∷ rest)) rest
spelled a b c d rest h few =
    let n = big_number 2 (c ∷ d ∷ rest) in
    let first = two_octets a b h.0 h.1.0 in
    let second = two_octets c d h.1.1.0 h.1.1.1.0 in
    let size : length (take n rest) ≡ n = omega (arith, length-take n rest, few) in
    let tail = sym (take-append-drop n rest) in
    ap (λ (xs : List ℕ). a ∷ b ∷ c ∷ d ∷ xs) tail
    ∙ (ap (λ (xs : List ℕ). a ∷ b ∷ (xs ++ (take n rest ++ drop n rest))) (sym second)
    ∙ (ap (λ (xs : List ℕ). xs ++ (big_bytes 2 n ++ (take n rest ++ drop n rest))) (sym first)
    ∙ ap (λ (k : ℕ). big_bytes 2 (a * 256 + (b * 1 + 0)) ++ (big_bytes 2 k ++ (take n rest ++ drop n rest)))
    (sym size)))

is_option : (a b c d : ℕ) (rest : List ℕ) → AreOctets (a ∷ b ∷ c ∷ d ∷ rest)
    → IsOption (record { code = big_number 2 (a ∷ b ∷ c ∷ d ∷ rest); octets = take (big_number 2 (c ∷ d ∷ rest)) rest })
is_option a b c d rest h = record {
  code = omega (arith, h.0, h.1.0);
  size = omega (arith, h.1.1.0, h.1.1.1.0, length-take (c * 256 + (d * 1 + 0)) rest);
  octets = octets_take (big_number 2 (c ∷ d ∷ rest)) rest h.1.1.1.1;
}

went_on : (t : Bool) (o p : DhcpOption) (row left : Row) → (if t then Broken OptionLength else Next p left)
    ≡ Next o row → (t ≡ false) × (p ≡ o) × (left ≡ row)
went_on true o p row left e = absurd cc
went_on false o p row left e = (refl, cc, cc)

-- the first option of a row, and the octets behind it
pub record Begins (octets : List ℕ) (o : DhcpOption) (row : Row) : Type 0 where
  pub is : IsOption o
  pub rest : List ℕ
  pub spelled : octets ≡ option_octets o.code o.octets ++ rest
  pub fits : AreOctets rest
  pub row_is : row_of rest ≡ row

pub row_begins : (octets : List ℕ) (o : DhcpOption) (row : Row) → AreOctets octets → row_of octets ≡ Next o row
    → Begins octets o row
unfolding row_behind
row_begins [] o row h e = absurd cc
row_begins (a ∷ []) o row h e = absurd cc
row_begins (a ∷ b ∷ []) o row h e = absurd cc
row_begins (a ∷ b ∷ c ∷ []) o row h e = absurd cc
row_begins (a ∷ b ∷ c ∷ d ∷ rest) o row h e =
    let n = big_number 2 (c ∷ d ∷ rest) in
    let p : DhcpOption = record { code = big_number 2 (a ∷ b ∷ c ∷ d ∷ rest); octets = take n rest } in
    let long : 3 ≤ length (b ∷ c ∷ d ∷ rest) = omega arith in
    let on = rw (le-ltb (length (b ∷ c ∷ d ∷ rest)) 3 long) at e in
    let w = went_on (nat_lt (length rest) n) o p row (row_behind (3 + n) (b ∷ c ∷ d ∷ rest)) on in
    let few : n ≤ length rest = ltb-false (length rest) n w.0 in
    record {
      is = subst IsOption w.1 (is_option a b c d rest h);
      rest = drop n rest;
      spelled = spelled a b c d rest h few ∙ ap (λ (x : DhcpOption). option_octets x.code x.octets ++ drop n rest) w.1;
      fits = octets_drop n rest h.1.1.1.1;
      row_is = ap row_of (drop-drop n 3 (b ∷ c ∷ d ∷ rest)) ∙ (sym (row_drop (3 + n) (b ∷ c ∷ d ∷ rest)) ∙ w.2);
    }

nothing : (t : Bool) (u : Bool) (o : DhcpOption) (row : Row)
    → (if t then Broken Short else if u then Broken OptionLength else Next o row) ≡ Done → ⊥
nothing true u o row e = cc
nothing false true o row e = cc
nothing false false o row e = cc

row_empty : (octets : List ℕ) → row_of octets ≡ Done → octets ≡ []
unfolding row_behind
row_empty [] e = refl
row_empty (x ∷ octets) e = absurd (nothing _ _ _ _ e)

pub are_options : (options : List DhcpOption) (octets : List ℕ) → AreOctets octets → row_of octets ≡ whole options
    → AreOptions octets options
are_options [] octets h e = record { each = tt; spelled = row_empty octets e }
are_options (o ∷ options) octets h e =
    let b = row_begins octets o (whole options) h e in
    let more = are_options options b.rest b.fits b.row_is in
    record {
      each = (b.is, more.each);
      spelled =
          b.spelled ∙ ap (λ (xs : List ℕ). option_octets o.code o.octets ++ xs) more.spelled;
    }

-- ---- from options to octets

-- a row by its first option's numbers
abbrev row_by : ℕ → ℕ → List ℕ → Row
row_by code n octets = Next (record { code = code; octets = take n octets }) (row_of (drop n octets))

pub row_of_option : (o : DhcpOption) (rest : List ℕ) → IsOption o
    → row_of (option_octets o.code o.octets ++ rest) ≡ Next o (row_of rest)
row_of_option o rest h =
    let octets = option_octets o.code o.octets ++ rest in
    let body = o.octets ++ rest in
    let code : big_number 2 octets ≡ o.code =
    big_number-reads_back 2 o.code (big_bytes 2 (length o.octets) ++ body) h.code in
    let size : big_number 2 (drop 2 octets) ≡ length o.octets = big_number-reads_back 2 (length o.octets) body h.size in
    row_next octets (omega arith) (omega (arith, size, length-append o.octets rest))
    ∙ (ap (λ (k : ℕ). row_by k (big_number 2 (drop 2 octets)) body) code
    ∙ (ap (λ (n : ℕ). row_by o.code n body) size
    ∙ (ap (λ (xs : List ℕ). Next (record { code = o.code; octets = xs }) (row_of (drop (length o.octets) body)))
    (take-append_seam o.octets rest)
    ∙ ap (λ (xs : List ℕ). Next o (row_of xs)) (drop-append_seam o.octets rest))))

pub row_again : (options : List DhcpOption) → AllByRecursion IsOption options
    → row_of (flat_map (λ o. option_octets o.code o.octets) options) ≡ whole options
unfolding row_behind
row_again [] h = refl
row_again (o ∷ options) h = row_of_option o (flat_map (λ o. option_octets o.code o.octets) options) h.0
    ∙ ap (λ (r : Row). Next o r) (row_again options h.1)

pub row_is : (octets : List ℕ) (options : List DhcpOption) → AreOptions octets options → row_of octets ≡ whole options
row_is octets options h = ap row_of h.spelled ∙ row_again options h.each
