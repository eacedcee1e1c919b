-- A journal that its last line closes has one close reading.
use Rattle.std.specs.Prelude.{◌≡◌, ℕ, ◌+◌, ◌-◌, ◌≤◌, ◌↔◌, IsTrue, Bool, true, List, length, Some, slice_get}
use Rattle.std.proofs.Common.{sym, ◌∙◌, ap, refl, arith, get_or}
use Rattle.std.proofs.lemmas.Option.{slice_get-get_or}
use Rattle.journal_lines.specs.declared.event.Event.{Event}
use Rattle.journal_lines.specs.declared.event.Event.TheVariants.{Close}
use Rattle.journal_lines.specs.declared.line.Line.{Line}
use Rattle.journal_lines.specs.Close.{is_close}
use Rattle.attribution.specs.Acceptance.{ClosesFrom}
use Rattle.journal_text.specs.Closed.{IsClosed}
use Rattle.auditor.specs.Closing.{ClosesAt}
use Rattle.auditor.proofs.Given.{Contains-get, get-Contains}

close_is : (e : Event) → is_close e ≡ true → e ≡ Close
close_is Close h = refl
close_is _ h = cc

closing_line : (lines : List Line) (l : Line) → IsClosed lines → slice_get lines (length lines - 1) ≡ Some l
    → ClosesAt lines l.reading
closing_line lines l h e = record {
  some = (
    l,
    Contains-get lines (length lines - 1) l e,
    close_is l.event ((h.last (length lines - 1) l e).1 (let some = h.some in
        let z : length lines - 1 + 1 ≡ length lines = omega arith in z)),
  );
  each = λ m has c.
      let g = get-Contains lines m has in
      let place = (h.last g.0 m g.2).0 (ap is_close c) in
      let at : g.0 ≡ length lines - 1 = omega arith in
      let same : Some m ≡ Some l = sym g.2 ∙ (ap (slice_get lines) at ∙ e) in
      let is : m ≡ l = cc in
      ap (λ (x : Line). x.reading) is;
}

pub last_closes : (lines : List Line) (d : Line) → IsClosed lines
    → ClosesAt lines (get_or lines (length lines - 1) d).reading
last_closes lines d h = closing_line lines (get_or lines (length lines - 1) d) h
    (slice_get-get_or lines (length lines - 1) d (let some = h.some in omega arith))

pub reaches_by_reading : (lines : List Line) (reading limit : ℕ) (b : Bool) → ClosesAt lines reading → IsTrue b
    ↔ limit ≤ reading → IsTrue b ↔ ClosesFrom lines limit
reaches_by_reading lines reading limit b h d = (
  λ t. (h.some.0, h.some.1, h.some.2, (let le = d.0 t in let is = h.each h.some.0 h.some.1 h.some.2 in omega arith)),
  λ x. d.1 (let is = h.each x.0 x.1 x.2 in let le = x.3 in omega arith),
)
