-- How long texts are that have a form.
use Rattle.std.proofs.Common.{◌≡◌, ℕ, ◌≤◌, List, length, drop, inl, inr, arith, length-drop}
use Rattle.time_text.specs.Time.{IsOneOf, IsTail, IsTimeForm}
use Rattle.time_text.specs.declared.calendar.Date.{Date}
use Rattle.time_text.specs.declared.clock.Clock.{Clock}
use Rattle.time_text.specs.declared.clock.Offset.{Offset}
use Rattle.time_text.specs.Calendar.{IsShownAt}

one_of : (utc ahead behind text : List ℕ) → 1 ≤ length utc → 1 ≤ length ahead → 1 ≤ length behind
    → IsOneOf utc ahead behind text → 1 ≤ length text
one_of utc ahead behind text a b c h = elim h [
  | inl is ↦ omega (arith, is.long)
  | inr more ↦ elim more [ inl is ↦ omega (arith, is.long) | inr is ↦ omega (arith, is.long) ]
]

tail_long : (tail : List ℕ) → IsTail tail → 1 ≤ length tail
tail_long tail h = elim h [
  | inl is ↦ one_of _ _ _ tail (omega arith) (omega arith) (omega arith) is
  | inr more ↦ elim more [
    | inl is ↦ one_of _ _ _ tail (omega arith) (omega arith) (omega arith) is
    | inr last ↦ elim last [
      | inl is ↦ one_of _ _ _ tail (omega arith) (omega arith) (omega arith) is
      | inr is ↦ one_of _ _ _ tail (omega arith) (omega arith) (omega arith) is
    ]
  ]
]

pub form_long : (text : List ℕ) → IsTimeForm text → 20 ≤ length text
form_long text h = omega (arith, tail_long (drop 19 text) h.1, length-drop 19 text)

-- what equal dates, clocks and offsets show
pub same_shown : (d e : Date) (c k : Clock) (o f : Offset) (m : ℕ) → d ≡ e → c ≡ k → o ≡ f → IsShownAt d c o m
    → IsShownAt e k f m
same_shown d e c k o f m ed ec eo h = rw (← ed, ← ec, ← eo) h
