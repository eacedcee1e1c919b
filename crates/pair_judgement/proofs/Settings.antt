-- The settings of two journals, a line at a time, and lines that say no more than a skew and a transit.
use Rattle.std.specs.Prelude.{◌≡◌, ◌↔◌, ◌+◌, ◌≤◌, ◌<◌, ℕ, List, [], ◌∷◌, Some, IsTrue, length, if◌then◌else◌, slice_get}
use Rattle.std.specs.Prelude.{Bool, true, false}
use Rattle.std.proofs.Common.{drop, take, get_or, add-one, ap, sym, ◌∙◌, drop-cons, subst, refl, inl, inr, suc, arith}
use Rattle.std.proofs.lemmas.Bool.{cases_lt}
use Rattle.std.proofs.lemmas.Bool.Decides.{Decides-eqb}
use Rattle.std.specs.Prelude.{nat_eq}
use Rattle.std.proofs.lemmas.List.{drop_all, take_all}
use Rattle.std.proofs.lemmas.List.Elements.{All-more}
use Rattle.std.proofs.lemmas.Option.{slice_get-get_or}
use Rattle.journal_lines.specs.declared.event.Event.{Event}
use Rattle.journal_lines.specs.declared.line.Line.{Line}
use Rattle.pair_judgement.specs.Ties.{is_setting, settings_of, IsWithin, AreWithin, IsNotedUnless, unless}

pub one_more : (lines : List Line) (skew transit i : ℕ) (d : Line) → i < length lines
    → AreWithin (take i lines) skew transit
    → IsWithin (get_or lines i d).event skew transit → AreWithin (take (i + 1) lines) skew transit
one_more lines skew transit i d lt before one =
    record { each = All-more (λ line. IsWithin line.event skew transit) lines i d lt before.each one }

pub in_all : (lines : List Line) (skew transit i : ℕ) (d : Line) → i < length lines → AreWithin lines skew transit
    → IsWithin (get_or lines i d).event skew transit
in_all lines skew transit i d lt all = all.each i d lt

pub all_seen : (lines : List Line) (skew transit i : ℕ) → length lines ≤ i → AreWithin (take i lines) skew transit
    → AreWithin lines skew transit
all_seen lines skew transit i past = subst (λ ls. AreWithin ls skew transit) (take_all i lines past)

kept : (ls : List Line) (i : ℕ) (x : Line) → i < length ls → IsTrue (is_setting (get_or ls i x).event)
    → settings_of (drop i ls) ≡ (get_or ls i x).event ∷ settings_of (drop (i + 1) ls)
kept ls i x lt set =
    ap settings_of (drop-cons ls i x lt)
    ∙ (ap (λ b. if b then (get_or ls i x).event ∷ settings_of (drop (suc i) ls) else settings_of (drop (suc i) ls)) set
    ∙ ap (λ (n : ℕ). (get_or ls i x).event ∷ settings_of (drop n ls)) (sym (add-one i)))

abbrev pub Found : List Line → ℕ → Type 0
Found ls i = (line : Line) → slice_get ls i ≡ Some line → IsTrue (is_setting line.event)

at : (ls : List Line) (i : ℕ) (x : Line) → i < length ls → Found ls i
    → settings_of (drop i ls) ≡ (get_or ls i x).event ∷ settings_of (drop (i + 1) ls)
at ls i x lt found = kept ls i x lt (found (get_or ls i x) (slice_get-get_or ls i x lt))

some_of : (ls : List Line) (i : ℕ) → i < length ls → Line
some_of [] i lt = absurd (omega arith)
some_of (l ∷ ls) i lt = l

-- at the end of one, the other is at its end exactly where what is left of both is the same
module _ (ls ms : List Line) (i j : ℕ) (past : length ls ≤ i) (found : Found ms j) where
  left_none : settings_of (drop i ls) ≡ []
  left_none = ap settings_of (drop_all i ls past)

  at_its_end : length ms ≤ j → settings_of (drop i ls) ≡ settings_of (drop j ms)
  at_its_end end = left_none ∙ sym (ap settings_of (drop_all j ms end))

  not_before : j < length ms → settings_of (drop i ls) ≡ settings_of (drop j ms) → ⊥
  not_before lt same =
      let none : 0 ≡ suc (length (settings_of (drop (j + 1) ms))) =
      ap length (sym left_none ∙ (same ∙ at ms j (some_of ms j lt) lt found)) in
      omega arith

  behind : settings_of (drop i ls) ≡ settings_of (drop j ms) → length ms ≤ j
  behind same = elim (cases_lt j (length ms)) [ inl lt ↦ absurd (not_before lt same) | inr ge ↦ ge ]

  pub ends : (W : Type 0) → j ≤ length ms → ((settings_of (drop i ls) ≡ settings_of (drop j ms)) ↔ W)
      → IsTrue (nat_eq j (length ms)) ↔ W
  ends W most is = (
    λ t. let e : j ≡ length ms = (Decides-eqb j (length ms)).0 t in is.0 (at_its_end (omega arith)),
    λ w. let b : length ms ≤ j = behind (is.1 w) in let e : j ≡ length ms = omega arith in
        (Decides-eqb j (length ms)).1 e,
  )

-- past two lines that say settings
module _ (ls ms : List Line) (i j : ℕ) (x y : Line) (i-in : i < length ls) (j-in : j < length ms)
    (found-i : Found ls i) (found-j : Found ms j)
    (x-is : x ≡ get_or ls i x) (y-is : y ≡ get_or ms j y) where
  here-i : settings_of (drop i ls) ≡ x.event ∷ settings_of (drop (i + 1) ls)
  here-i = at ls i x i-in found-i ∙ ap (λ (l : Line). l.event ∷ settings_of (drop (i + 1) ls)) (sym x-is)

  here-j : settings_of (drop j ms) ≡ y.event ∷ settings_of (drop (j + 1) ms)
  here-j = at ms j y j-in found-j ∙ ap (λ (l : Line). l.event ∷ settings_of (drop (j + 1) ms)) (sym y-is)

  pub same_heads : settings_of (drop i ls) ≡ settings_of (drop j ms) → x.event ≡ y.event
  same_heads same = ap (λ (es : List Event). get_or es 0 x.event) (sym here-i ∙ (same ∙ here-j))

  same_tails : settings_of (drop i ls) ≡ settings_of (drop j ms)
      → settings_of (drop (i + 1) ls) ≡ settings_of (drop (j + 1) ms)
  same_tails same = ap (λ (es : List Event). drop 1 es) (sym here-i ∙ (same ∙ here-j))

  same_whole : x.event ≡ y.event → settings_of (drop (i + 1) ls) ≡ settings_of (drop (j + 1) ms)
      → settings_of (drop i ls) ≡ settings_of (drop j ms)
  same_whole head rest =
      here-i
      ∙ (ap (λ (e : Event). e ∷ settings_of (drop (i + 1) ls)) head
      ∙ (ap (λ (es : List Event). y.event ∷ es) rest ∙ sym here-j))

  pub goes_on : (W : Type 0) (k m : ℕ) → x.event ≡ y.event → ((settings_of (drop i ls) ≡ settings_of (drop j ms)) ↔ W)
      → settings_of (drop (i + 1) ls) ≡ settings_of (drop k ls) → settings_of (drop (j + 1) ms)
      ≡ settings_of (drop m ms)
      → (settings_of (drop k ls) ≡ settings_of (drop m ms)) ↔ W
  goes_on W k m head is first second =
      (λ same. is.0 (same_whole head (first ∙ (same ∙ sym second))), λ w. sym first ∙ (same_tails (is.1 w) ∙ second))

  pub differs : (W : Type 0) → (x.event ≡ y.event → ⊥) → ((settings_of (drop i ls) ≡ settings_of (drop j ms)) ↔ W)
      → IsTrue false ↔ W
  differs W no-head is = (λ f. absurd (cc), λ w. absurd (no-head (same_heads (is.1 w))))

-- the note is there exactly where what it is of doesn't hold
pub noted : (P : Type 0) (note : List ℕ) (holds : Bool) → (IsTrue holds ↔ P) → IsNotedUnless P note (unless holds note)
noted P note true is = inl (is.0 refl, refl)
noted P note false is = inr ((λ p. let f = is.1 p in absurd (cc)), refl)
