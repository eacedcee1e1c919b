-- The canonical text at its offsets: four digits of each group, a colon behind each but the last, a slash, the length.
use Rattle.std.proofs.Common.{◌≡◌, ◌≢◌, ℕ, suc, ◌+◌, ◌-◌, ◌*◌, ◌<◌, ◌≤◌, ◌^◌, List, [], ◌∷◌, ◌++◌, length, get_or, take}
use Rattle.std.proofs.Common.{drop, Option, Some, None, refl, sym, ap, ◌∙◌, arith, lit<, take-append-drop, take_all}
use Rattle.std.proofs.Common.{length-append, length-drop, get_or-drop, drop-drop, append-nil}
use Rattle.std.proofs.Math.Seq.{drop-cons, drop-append-add, take-append_seam, get_or-append_seam}
use Rattle.std.proofs.lemmas.List.Concat.{flat_map-cons}
use Rattle.std.specs.Prelude.{option_map}
use Rattle.std.specs.Fmt.{decimal}
use Rattle.std.specs.Int.{w16, to_be_bytes, from_be_bytes}
use Rattle.std.proofs.lemmas.List.{take_rest}
use Rattle.std.proofs.lemmas.Bool.{lt-ltb, lt-leb}
use Rattle.std.proofs.lemmas.Fmt.{decimal_nonempty}
use Rattle.text_fields.specs.Parsing.{◌>>=◌}
use Rattle.text_fields.specs.Cuts.{joined, behind, split}
use Rattle.text_fields.specs.Octets.{octet_of, octets_of}
use Rattle.text_fields.specs.Number.{number_of}
use Rattle.text_fields.proofs.Steps.{bind_some}
use Rattle.text_fields.proofs.CutLaws.{split-cons, split-last, joined-split, joined-behind}
use Rattle.text_fields.proofs.NumberLaws.{number_takes, number_again, decimal_lacks}
use Rattle.text_fields.proofs.OctetLaws.{hex_lacks_colon}
use Rattle.prefix_range.specs.Prefix.{Prefix}
use Rattle.prefix_range.specs.Text.{groups_of, group_text, address_text, group_of, with_group, address_on, address_of}
use Rattle.prefix_range.specs.Text.{made, parts_prefix, prefix_word}
use Rattle.prefix_range.proofs.TextLaws.{group_octets, group_takes, group_again, text_takes, text_again, address_lacks}
use Rattle.prefix_range.proofs.TextLaws.{prefix_takes}
use Rattle.prefix_range.proofs.Rows.{power_most, fits_more}

-- ---- one group

pub group_is : (a b c d : ℕ) → group_of (a ∷ b ∷ c ∷ d ∷ [])
    ≡ (octet_of a b >>= λ high. octet_of c d >>= λ low. Some (256 * high + low))
unfolding group_of octets_of
group_is a b c d = by (octet_of a b) (octet_of c d)
  where
    by : (h l : Option ℕ) → option_map (from_be_bytes w16) (h >>= λ x.
        option_map (λ xs. x ∷ xs) (l >>= λ y. option_map (λ ys. y ∷ ys) (Some [])))
        ≡ (h >>= λ x. l >>= λ y. Some (256 * x + y))
    by (Some x) (Some y) = let e : from_be_bytes w16 (x ∷ y ∷ []) ≡ 256 * x + y = omega arith in
        ap (λ (n : ℕ). Some n) e
    by (Some x) None = refl
    by None l = refl

-- ---- groups in front of the others

none_by : (o : Option ℕ) → ((y : ℕ) → o ≡ Some y → ⊥) → o ≡ None
none_by None h = refl
none_by (Some y) h = absurd (h y refl)

first_of : (n x : ℕ) (words : List (List ℕ)) (y : ℕ) → address_on (suc n) x words ≡ Some y
    → (g : ℕ) × (more : List (List ℕ)) × (joined 58 words ≡ group_text g ++ behind 58 more)
    × (group_of (group_text g) ≡ Some g)
unfolding address_on
first_of n x [] y e = absurd cc
first_of n x (word ∷ words) y e =
    let g = bind_some (group_of word) (λ g. with_group x g >>= λ m. address_on n m words) y e in
    let t = group_takes word g.0 g.1 in
    (g.0, words, joined-behind 58 word words ∙ ap (λ (w : List ℕ). w ++ behind 58 words) t.0, group_again g.0 t.1)

-- a text that is read begins with a group
begins_with : (n x : ℕ) (text : List ℕ) (y : ℕ) → address_on (suc n) x (split 58 text) ≡ Some y
    → (g : ℕ) × (more : List (List ℕ)) × (text ≡ group_text g ++ behind 58 more) × (group_of (group_text g) ≡ Some g)
begins_with n x text y e =
    let f = first_of n x (split 58 text) y e in
    (f.0, f.1, sym (joined-split 58 text) ∙ f.2, f.3)

group_lacks : (n x : ℕ) (text : List ℕ) → group_of (take 4 text) ≡ None → address_on (suc n) x (split 58 text) ≡ None
group_lacks n x text none = none_by _ (λ y e. let b = begins_with n x text y e in
    let same : take 4 text ≡ group_text b.0 = ap (take 4) b.2 in
    let some : group_of (take 4 text) ≡ Some b.0 = ap group_of same ∙ b.3 in cc)

colon_behind : (text word : List ℕ) (more : List (List ℕ)) → length word ≡ 4 → 5 ≤ length text
    → text ≡ word ++ behind 58 more → get_or text 4 0 ≡ 58
colon_behind text word [] four long e = absurd (omega (arith, ap length (e ∙ append-nil word)))
colon_behind text word (next ∷ more) four long e =
    let cut : text ≡ word ++ 58 ∷ (next ++ behind 58 more) =
    e ∙ ap (λ (w : List ℕ). word ++ w) (flat_map-cons (λ (p : List ℕ). 58 ∷ p) next more) in
    rw (cut, ← four) (get_or-append_seam word 58 (next ++ behind 58 more) 0)

colon_lacks : (n x : ℕ) (text : List ℕ) → 5 ≤ length text → get_or text 4 0 ≢ 58
    → address_on (suc n) x (split 58 text) ≡ None
colon_lacks n x text long other = none_by _ (λ y e. let b = begins_with n x text y e in
    other (colon_behind text (group_text b.0) b.1 refl long b.2))

group_more : (n x g : ℕ) (text : List ℕ) → 5 ≤ length text → group_of (take 4 text) ≡ Some g → get_or text 4 0 ≡ 58
    → address_on (suc n) x (split 58 text) ≡ (with_group x g >>= λ m. address_on n m (split 58 (drop 5 text)))
unfolding address_on
group_more n x g text long e colon =
    let t = group_takes (take 4 text) g e in
    let cut : text ≡ group_text g ++ 58 ∷ drop 5 text = sym (take-append-drop 4 text)
    ∙ (ap (λ (w : List ℕ). w ++ drop 4 text) t.0
    ∙ ap (λ (w : List ℕ). group_text g ++ w) (drop-cons text 4 0 (omega arith)
    ∙ ap (λ (b : ℕ). b ∷ drop 5 text) colon)) in
    let words : split 58 text ≡ group_text g ∷ split 58 (drop 5 text) =
    ap (split 58) cut ∙ split-cons 58 (group_text g) (drop 5 text)
    (hex_lacks_colon (to_be_bytes w16 g) (group_octets g t.1)) in
    rw (words, group_again g t.1) refl

group_last : (x g : ℕ) (text : List ℕ) → length text ≡ 4 → group_of (take 4 text) ≡ Some g
    → address_on 1 x (split 58 text) ≡ with_group x g
unfolding address_on
group_last x g text long e =
    let t = group_takes (take 4 text) g e in
    let cut : text ≡ group_text g = sym (take_all 4 text (omega arith)) ∙ t.0 in
    let words : split 58 text ≡ group_text g ∷ [] = ap (split 58) cut
    ∙ split-last 58 (group_text g) (hex_lacks_colon (to_be_bytes w16 g) (group_octets g t.1)) in
    rw (words, group_again g t.1) (by (with_group x g))
  where
    by : (o : Option ℕ) → (o >>= λ m. Some m) ≡ o
    by (Some m) = refl
    by None = refl

length-address : (a : ℕ) → length (address_text a) ≡ 39
unfolding address_text groups_of
length-address a = refl

-- ---- what the loop over groups keeps, and how it ends

-- the groups so far and those that are left make the address
pub record IsSoFar (text : List ℕ) (i address : ℕ) : Type 0 where
  pub left : address_on (8 - i) address (split 58 (drop (5 * i) text)) ≡ address_of text
  pub fits : address < 65536 ^ i

pub begun : (text : List ℕ) → IsSoFar text 0 0
begun text = record { left = refl; fits = lit< tt }

-- as it is left with a count of its own
left_of : (text : List ℕ) (i n address : ℕ) → i + suc n ≡ 8 → IsSoFar text i address
    → address_of text ≡ address_on (suc n) address (split 58 (drop (5 * i) text))
left_of text i n address e h = let k : 8 - i ≡ suc n = omega arith in
    sym h.left ∙ ap (λ (m : ℕ). address_on m address (split 58 (drop (5 * i) text))) k

with_fits : (i address g : ℕ) → i ≤ 7 → address < 65536 ^ i → g < 65536
    → with_group address g ≡ Some (65536 * address + g)
unfolding with_group
with_fits i address g le fits lt =
    rw (lt-ltb (65536 * address + g) (2 ^ 128)
    (omega (
      arith,
      fits_more i address g (record { few = omega arith; fits = fits }) (omega arith) lt,
      power_most (i + 1) (omega arith),
    ))) refl

pub grows : (text : List ℕ) (i address g : ℕ) → IsSoFar text i address → i ≤ 7 → g < 65536
    → address * 65536 + g < 2 ^ 128
grows text i address g h le lt = omega (
  arith,
  fits_more i address g (record { few = omega arith; fits = h.fits }) (omega arith) lt,
  power_most (i + 1) (omega arith),
)

pub no_group : (text : List ℕ) (i address : ℕ) → length text ≡ 39 → i ≤ 7 → IsSoFar text i address
    → group_of (take 4 (drop (5 * i) text)) ≡ None → address_of text ≡ None
no_group text i address long le h none = left_of text i (7 - i) address (omega arith) h
    ∙ group_lacks (7 - i) address (drop (5 * i) text) none

pub no_colon : (text : List ℕ) (i address : ℕ) → length text ≡ 39 → i < 7 → IsSoFar text i address
    → get_or text (5 * i + 4) 0 ≢ 58 → address_of text ≡ None
no_colon text i address long lt h other =
    let at : get_or (drop (5 * i) text) 4 0 ≡ get_or text (5 * i + 4) 0 = get_or-drop (5 * i) text 4 0 in
    left_of text i (7 - i) address (omega arith) h
    ∙ colon_lacks (7 - i) address (drop (5 * i) text) (omega (arith, length-drop (5 * i) text))
    (λ e. other (sym at ∙ e))

pub next_group : (text : List ℕ) (i address g : ℕ) → length text ≡ 39 → i < 7 → IsSoFar text i address → g < 65536
    → group_of (take 4 (drop (5 * i) text)) ≡ Some g → get_or text (5 * i + 4) 0 ≡ 58
    → IsSoFar text (i + 1) (address * 65536 + g)
next_group text i address g long lt h fits e colon =
    let at : get_or (drop (5 * i) text) 4 0 ≡ 58 = get_or-drop (5 * i) text 4 0 ∙ colon in
    let more : address_on (suc (7 - i)) address (split 58 (drop (5 * i) text))
    ≡ (with_group address g >>= λ m. address_on (7 - i) m (split 58 (drop 5 (drop (5 * i) text)))) =
    group_more (7 - i) address g (drop (5 * i) text) (omega (arith, length-drop (5 * i) text)) e at in
    let next : address_of text ≡ address_on (7 - i) (65536 * address + g) (split 58 (drop 5 (drop (5 * i) text))) =
    left_of text i (7 - i) address (omega arith) h
    ∙ (more ∙ rw (with_fits i address g (omega arith) h.fits fits) refl) in
    let value : 65536 * address + g ≡ address * 65536 + g = omega arith in
    let count : 7 - i ≡ 8 - (i + 1) = omega arith in
    let place : drop 5 (drop (5 * i) text) ≡ drop (5 * (i + 1)) text =
    drop-drop 5 (5 * i) text ∙ ap (λ (n : ℕ). drop n text) {x = 5 * i + 5} {y = 5 * (i + 1)} (omega arith) in
    record {
      left = rw (count, place, value) at (sym next);
      fits = rw value at (fits_more i address g (record { few = omega arith; fits = h.fits }) (omega arith) fits);
    }

pub last_group : (text : List ℕ) (i address g : ℕ) → length text ≡ 39 → i ≡ 7 → IsSoFar text i address → g < 65536
    → group_of (take 4 (drop 35 text)) ≡ Some g → address_of text ≡ Some (address * 65536 + g)
last_group text i address g long e h fits group =
    let seven : IsSoFar text 7 address = rw e at h in
    let value : 65536 * address + g ≡ address * 65536 + g = omega arith in
    left_of text 7 0 address refl seven ∙ (group_last address g (drop 35 text)
    (omega (arith, length-drop 35 text)) group
    ∙ (with_fits 7 address g (omega arith) seven.fits fits ∙ ap (λ (n : ℕ). Some n) value))

-- ---- the whole text

Spells : List ℕ → Prefix → Type 0
Spells word p = (40 < length word) × (get_or word 39 0 ≡ 47) × (address_of (take 39 word) ≡ Some p.address)
    × (number_of (drop 40 word) ≡ Some p.length)

seam : (front back : List ℕ) (a n : ℕ) → length front ≡ 39 → address_of front ≡ Some a → number_of back ≡ Some n
    → 0 < length back → Spells (front ++ 47 ∷ back) (record { address = a; length = n })
unfolding Spells
seam front back a n long address number some =
    let whole = length-append front (47 ∷ back) in
    let first : take 39 (front ++ 47 ∷ back) ≡ front = rw (← long) (take-append_seam front (47 ∷ back)) in
    let last : drop 40 (front ++ 47 ∷ back) ≡ back =
    ap (λ (n : ℕ). drop n (front ++ 47 ∷ back)) {x = 40} {y = length front + 1} (omega arith)
    ∙ drop-append-add front (47 ∷ back) 1 in (
      omega (arith, whole),
      rw (← long) (get_or-append_seam front 47 back 0),
      ap address_of first ∙ address,
      ap number_of last ∙ number,
    )

-- what a word has where it spells a prefix
spells : (word : List ℕ) (p : Prefix) → prefix_word word ≡ Some p → Spells word p
unfolding Spells
spells word p e =
    let t = prefix_takes word p e in
    let lt : p.length < 2 ^ 64 = omega (arith, t.1.short) in
    rw t.0 (seam (address_text p.address) (decimal p.length) p.address p.length (length-address p.address)
    (text_again p.address t.1.address) (number_again p.length lt) (decimal_nonempty p.length lt))

none_found : (o : Option Prefix) → ((p : Prefix) → o ≡ Some p → ⊥) → o ≡ None
none_found None h = refl
none_found (Some p) h = absurd (h p refl)

pub too_short : (word : List ℕ) → length word ≤ 40 → prefix_word word ≡ None
unfolding Spells
too_short word le = none_found _ (λ p e. let s = spells word p e in absurd (omega arith))

pub no_slash : (word : List ℕ) → get_or word 39 0 ≢ 47 → prefix_word word ≡ None
unfolding Spells
no_slash word other = none_found _ (λ p e. other (spells word p e).1)

pub no_address : (word : List ℕ) → address_of (take 39 word) ≡ None → prefix_word word ≡ None
unfolding Spells
no_address word none = none_found _ (λ p e. let some = (spells word p e).2 in absurd cc)

pub no_length : (word : List ℕ) → number_of (take (length word - 40) (drop 40 word)) ≡ None → prefix_word word ≡ None
unfolding Spells
no_length word none = none_found _ (λ p e. let some = (spells word p e).3 in
    let same = ap number_of (take_rest word 40) in absurd cc)

pub both_read : (word : List ℕ) (a n : ℕ) → 40 < length word → get_or word 39 0 ≡ 47
    → address_of (take 39 word) ≡ Some a → number_of (take (length word - 40) (drop 40 word)) ≡ Some n
    → prefix_word word ≡ made a n
unfolding prefix_word
both_read word a n long slash address number =
    let front = text_takes (take 39 word) a address in
    let back = number_takes (drop 40 word) n (rw take_rest at number) in
    let cut : word ≡ address_text a ++ 47 ∷ decimal n = sym (take-append-drop 39 word)
    ∙ (ap (λ (w : List ℕ). w ++ drop 39 word) front.0
    ∙ ap (λ (w : List ℕ). address_text a ++ w) (drop-cons word 39 0 (omega arith)
    ∙ (ap (λ (b : ℕ). b ∷ drop 40 word) slash ∙ ap (λ (w : List ℕ). 47 ∷ w) back.0))) in
    let words : split 47 word ≡ address_text a ∷ decimal n ∷ [] = ap (split 47) cut
    ∙ (split-cons 47 (address_text a) (decimal n) (address_lacks 47 a (lit< tt))
    ∙ ap (λ (ws : List (List ℕ)). address_text a ∷ ws)
    (split-last 47 (decimal n) (decimal_lacks 47 n (lit< tt) back.1))) in
    ap parts_prefix words ∙ rw (text_again a front.1, number_again n back.1) refl

-- a length past 128
pub too_long : (a n : ℕ) → 128 < n → made a n ≡ None
too_long a n lt = rw (lt-leb n 128 lt) refl
