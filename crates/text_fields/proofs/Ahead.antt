-- A number whose digits stand in front of a text, up to the stop.
use Rattle.std.proofs.Common.{◌≡◌, ◌≢◌, ℕ, suc, ◌+◌, ◌-◌, ◌*◌, ◌<◌, ◌≤◌, ◌^◌, ◌&&◌, true, false, ltb, leb, List, []}
use Rattle.std.proofs.Common.{◌∷◌, ◌++◌, length, get_or, take, drop, Option, Some, None, refl, sym, ap, ◌∙◌, arith}
use Rattle.std.proofs.Common.{lit<, take-append-drop, take_all, add-one, length-take}
use Rattle.std.proofs.Math.Seq.{drop-cons}
use Rattle.std.proofs.Math.Nat.{pow-succ', pow-le-pow_right}
use Rattle.std.proofs.lemmas.Bool.{lt-ltb, leb-true, ne_eqb}
use Rattle.std.proofs.lemmas.List.{take_more, take_rest, get_or-take}
use Rattle.std.specs.Char.{is_ascii_digit}
use Rattle.text_fields.specs.Parsing.{◌>>=◌, first_word}
use Rattle.text_fields.specs.Cuts.{split, Lacks}
use Rattle.text_fields.specs.Number.{with_digit, digits_of, number_of}
use Rattle.text_fields.proofs.Steps.{bind_some, both, chosen}
use Rattle.text_fields.proofs.CutLaws.{split-cons, split-last}

-- ---- what the loop keeps

-- the first digits of a text make this number, and there are so few that it fits
pub record AreRead (text : List ℕ) (count number : ℕ) : Type 0 where
  pub value : digits_of 0 (take count text) ≡ Some number
  pub below : number < 10 ^ count

pub none_read : (text : List ℕ) → AreRead text 0 0
unfolding digits_of
none_read text = record { value = refl; below = lit< tt }

digits_push : (word : List ℕ) (n b : ℕ) → digits_of n (word ++ b ∷ []) ≡ (digits_of n word >>= λ m. with_digit m b)
unfolding digits_of
digits_push [] n b = alone (with_digit n b)
  where
    alone : (o : Option ℕ) → (o >>= λ m. Some m) ≡ o
    alone (Some m) = refl
    alone None = refl
digits_push (a ∷ word) n b = by (with_digit n a) (λ m. digits_push word m b)
  where
    by : (o : Option ℕ) → ((m : ℕ) → digits_of m (word ++ b ∷ []) ≡ (digits_of m word >>= λ k. with_digit k b))
        → (o >>= λ m. digits_of m (word ++ b ∷ [])) ≡ ((o >>= λ m. digits_of m word) >>= λ m. with_digit m b)
    by (Some m) h = h m
    by None h = refl

pub digit_below : (b : ℕ) → is_ascii_digit b ≡ true → b < 58
digit_below b e = let r = both (leb 48 b) (leb b 57) e in omega (arith, leb-true b 57 r.1)

pub one_more : (text : List ℕ) (i n : ℕ) → i < length text → i < 19 → is_ascii_digit (get_or text i 0) ≡ true
    → AreRead text i n → AreRead text (i + 1) (10 * n + (get_or text i 0 - 48))
unfolding with_digit
one_more text i n lt few digit h =
    let high = digit_below (get_or text i 0) digit in
    let next : 10 ^ (i + 1) ≡ 10 * 10 ^ i = rw add-one (pow-succ' 10 i) in
    let below : 10 * n + (get_or text i 0 - 48) < 10 ^ (i + 1) = omega (arith, next, h.below, high) in
    let most : 10 ^ (i + 1) ≤ 10 ^ 19 = pow-le-pow_right {n = 10} (lit< tt) {i = i + 1} {j = 19} (omega arith) in
    let fits : ltb (10 * n + (get_or text i 0 - 48)) (2 ^ 64) ≡ true = lt-ltb _ _ (omega (arith, below, most)) in
    record {
      value = ap (digits_of 0) (take_more text i 0 lt)
          ∙ (digits_push (take i text) 0 (get_or text i 0) ∙ rw (h.value, digit, fits) refl);
      below = below;
    }

pub grows : (text : List ℕ) (i n : ℕ) → i < 19 → AreRead text i n → 10 * n + 9 < 2 ^ 64
grows text i n few h =
    let next : 10 ^ (i + 1) ≡ 10 * 10 ^ i = rw add-one (pow-succ' 10 i) in
    let most : 10 ^ (i + 1) ≤ 10 ^ 19 = pow-le-pow_right {n = 10} (lit< tt) {i = i + 1} {j = 19} (omega arith) in
    omega (arith, next, h.below, most)

-- ---- what was read is a number, and its cut ends there

spelled : (word : List ℕ) (n : ℕ) → digits_of 0 word ≡ Some n → 0 < length word
    → (1 < length word → get_or word 0 0 ≢ 48) → number_of word ≡ Some n
unfolding number_of
spelled [] n e some lead = absurd (omega arith)
spelled (b ∷ []) n e some lead = e
spelled (b ∷ c ∷ word) n e some lead = rw (ne_eqb b 48 (lead (omega arith))) e

-- digits lack a stop that is no digit
digits_lack : (stop : ℕ) (word : List ℕ) (n m : ℕ) → is_ascii_digit stop ≡ false → digits_of n word ≡ Some m
    → Lacks stop word
unfolding digits_of with_digit
digits_lack stop [] n m none e = tt
digits_lack stop (b ∷ word) n m none e =
    let s = bind_some (with_digit n b) (λ k. digits_of k word) m e in
    let c = chosen (is_ascii_digit b && ltb (10 * n + (b - 48)) (2 ^ 64)) (Some (10 * n + (b - 48))) s.0 s.1 in
    let digit = (both (is_ascii_digit b) (ltb (10 * n + (b - 48)) (2 ^ 64)) c.0).0 in
    let other : b ≢ stop = λ same. let no : is_ascii_digit b ≡ false = ap is_ascii_digit same ∙ none in absurd cc in
    (other, digits_lack stop word s.0 m none s.2)

-- digits in front of a text, of which no zero leads others
pub record IsAhead (stop : ℕ) (text : List ℕ) (count n : ℕ) : Type 0 where
  pub value : digits_of 0 (take count text) ≡ Some n
  pub within : count ≤ length text
  pub some : 0 < count
  pub lead : 1 < count → get_or text 0 0 ≢ 48
  pub other : is_ascii_digit stop ≡ false

number_is : (stop : ℕ) (text : List ℕ) (count n : ℕ) → IsAhead stop text count n → number_of (take count text) ≡ Some n
number_is stop text count n h =
    let long = length-take count text in
    spelled (take count text) n h.value (omega (arith, h.some, h.within, long))
    (λ lt. rw (get_or-take count text 0 0 h.some) (h.lead (omega (arith, long))))

pub is_last : (stop : ℕ) (text : List ℕ) (count n : ℕ) → IsAhead stop text count n → count ≡ length text
    → first_word number_of (split stop text) ≡ Some (n, [])
unfolding first_word
is_last stop text count n h e =
    let whole : take count text ≡ text = take_all count text (omega arith) in
    let number : number_of text ≡ Some n = rw whole at (number_is stop text count n h) in
    rw (split-last stop text (digits_lack stop text 0 n h.other (rw whole at h.value)), number) refl

pub is_first : (stop : ℕ) (text : List ℕ) (count n : ℕ) → IsAhead stop text count n → count ≢ length text
    → get_or text count 0 ≡ stop
    → first_word number_of (split stop text)
    ≡ Some (n, split stop (take (length text - (count + 1)) (drop (count + 1) text)))
unfolding first_word
is_first stop text count n h more e =
    let lt : count < length text = omega (arith, h.within) in
    let cut : text ≡ take count text ++ stop ∷ drop (count + 1) text = sym (take-append-drop count text)
    ∙ ap (λ (w : List ℕ). take count text ++ w) (drop-cons text count 0 lt
    ∙ (ap (λ (b : ℕ). b ∷ drop (suc count) text) e ∙ ap (λ (i : ℕ). stop ∷ drop i text) (sym (add-one count)))) in
    let cuts : split stop text ≡ take count text ∷ split stop (drop (count + 1) text) =
    ap (split stop) cut ∙ split-cons stop (take count text) (drop (count + 1) text)
    (digits_lack stop (take count text) 0 n h.other h.value) in
    rw (cuts, number_is stop text count n h, take_rest text (count + 1)) refl
