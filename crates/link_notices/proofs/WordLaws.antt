-- The value that is read of a word is spelled so, and a value that is spelled is read again.
use Rattle.std.proofs.Common.{◌≡◌, ℕ, ◌<◌, ◌≤◌, ◌^◌, cond, leb, Bool, true, false, List, [], ◌∷◌, Option, Some, None}
use Rattle.std.proofs.Common.{refl, ap, ◌∙◌, arith}
use Rattle.std.specs.Fmt.{decimal}
use Rattle.std.specs.List.{list_all}
use Rattle.std.specs.Str.{bytes_eq}
use Rattle.std.proofs.lemmas.Bool.{leb-true, le-leb}
use Rattle.std.proofs.lemmas.Slice.Eq.{bytes_eq-Decides}
use Rattle.text_fields.specs.Number.{number_of}
use Rattle.text_fields.specs.Parsing.{◌>>=◌, alone, first_word}
use Rattle.text_fields.specs.Cuts.{Lacks}
use Rattle.text_fields.proofs.Steps.{bind_some, both, chosen, some_is}
use Rattle.text_fields.proofs.NumberLaws.{number_takes, number_again}
use Rattle.text_fields.proofs.WordLaws.{word_takes, word_again}
use Rattle.link_notices.specs.Words.{number_within, number_at}

pub within_takes : (limit : ℕ) (word : List ℕ) (n : ℕ) → number_within limit word ≡ Some n
    → (word ≡ decimal n) × (n ≤ limit) × (n < 2 ^ 64)
unfolding number_within
within_takes limit word n e =
    let m = bind_some (number_of word) (λ m. cond (leb m limit) (Some m) None) n e in
    let c = chosen (leb m.0 limit) (Some m.0) n m.2 in
    let same : m.0 ≡ n = some_is _ _ c.1 in
    let t = number_takes word m.0 m.1 in
    (t.0 ∙ ap decimal same, omega (arith, leb-true m.0 limit c.0, same), omega (arith, t.1, same))

pub within_again : (limit n : ℕ) → n ≤ limit → n < 2 ^ 64 → number_within limit (decimal n) ≡ Some n
unfolding number_within
within_again limit n le lt = rw (number_again n lt, le-leb n limit le) refl

pub number_at_again : (limit n : ℕ) (rest : List (List ℕ)) → n ≤ limit → n < 2 ^ 64
    → number_at limit (decimal n ∷ rest) ≡ Some (n, rest)
number_at_again limit n rest le lt = word_again (number_within limit) (decimal n) rest n (within_again limit n le lt)

-- ---- one word, and what is parsed behind it

pub word_then : {A B : Type 0} (parse : List ℕ → Option A) (words : List (List ℕ)) (f : A × List (List ℕ)
    → Option B) (y : B) → (first_word parse words >>= f) ≡ Some y
    → (x : A × List (List ℕ)) × (word : List ℕ) × (words ≡ word ∷ x.1) × (parse word ≡ Some x.0) × (f x ≡ Some y)
word_then parse words f y e =
    let s = bind_some (first_word parse words) f y e in
    let w = word_takes parse words s.0.0 s.0.1 s.1 in
    (s.0, w.0, w.1, w.2, s.2)

pub number_then : {B : Type 0} (limit : ℕ) (words : List (List ℕ)) (f : ℕ × List (List ℕ) → Option B) (y : B)
    → (number_at limit words >>= f) ≡ Some y
    → (x : ℕ × List (List ℕ)) × (words ≡ decimal x.0 ∷ x.1) × (x.0 ≤ limit) × (x.0 < 2 ^ 64) × (f x ≡ Some y)
number_then limit words f y e =
    let s = word_then (number_within limit) words f y e in
    let t = within_takes limit s.1 s.0.0 s.3 in
    (s.0, s.2 ∙ ap (λ (word : List ℕ). word ∷ s.0.1) t.0, t.1, t.2, s.4)

-- a word and what the words behind it are
pub next : {word : List ℕ} {words rest tail : List (List ℕ)} → words ≡ word ∷ rest → rest ≡ tail → words ≡ word ∷ tail
next {word = word} here behind = here ∙ ap (λ (ws : List (List ℕ)). word ∷ ws) behind

-- a value behind which nothing is left
pub alone_takes : {A : Type 0} (x : A) (words : List (List ℕ)) (y : A) → alone x words ≡ Some y → (words ≡ []) × (x ≡ y)
alone_takes x [] y e = (refl, some_is x y e)
alone_takes x (word ∷ words) y e = absurd cc

-- ---- names

-- the word is this name, or another is tried
pub tried : {A P : Type 0} (word name : List ℕ) (o other y : A) → (word ≡ name → o ≡ y → P) → (other ≡ y → P)
    → cond (bytes_eq word name) o other ≡ y → P
tried {P = P} word name o other y here later e = by (bytes_eq word name) ((bytes_eq-Decides word name).0) e
  where
    by : (b : Bool) → (b ≡ true → word ≡ name) → cond b o other ≡ y → P
    by true is e = here (is refl) e
    by false is e = later e

-- each octet is above a space
pub name_lacks : (word : List ℕ) → list_all (λ b. leb 33 b) word ≡ true → Lacks 32 word
name_lacks [] h = tt
name_lacks (b ∷ word) h =
    let t = both (leb 33 b) (list_all (λ b. leb 33 b) word) h in
    (λ e. absurd (omega (arith, leb-true 33 b t.0)), name_lacks word t.1)
