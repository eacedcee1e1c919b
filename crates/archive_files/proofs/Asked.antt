-- What a volume shows is what acceptance asks of its open line and its close line.
use Rattle.std.specs.Prelude.{◌≡◌, ℕ, ◌+◌, ◌-◌, ◌<◌, ◌≤◌, Bool, true, false, List, [], ◌∷◌, Some, slice_get}
use Rattle.std.specs.Prelude.{length, nat_le, if◌then◌else◌, Contains as Has}
use Rattle.std.proofs.Common.{zero, suc, arith, sym, ◌∙◌, ap, subst, refl, leb-true, leb-false}
use Rattle.std.proofs.lemmas.Option.{slice_get_read}
use Rattle.binding_rules.specs.declared.role.Role.{Role}
use Rattle.journal_lines.specs.declared.event.Event.{Event}
use Rattle.journal_lines.specs.declared.event.Event.TheVariants.{Close}
use Rattle.journal_lines.specs.declared.line.Line.{Line}
use Rattle.journal_lines.specs.Close.{is_close}
use Rattle.journal_text.specs.Closed.{IsClosed}
use Rattle.causal_order.specs.Journals.{Journals, journal_of, volume_of}
use Rattle.causal_order.specs.declared.certificate.Certificate.{Certificate}
use Rattle.journal_archive.specs.declared.outline.VolumeOutline.{VolumeOutline}
use Rattle.archive_files.specs.Laws.{IsOutlineOf, IsAskedOf, ShowsAll, ShowsWhatIsAsked}

is_closing : (e : Event) → is_close e ≡ true → e ≡ Close
is_closing Close h = refl
is_closing _ h = absurd (cc)

has_next : (x v : Line) (xs : List Line) → Has xs v → Has (x ∷ xs) v
has_next x v xs h = (suc h.0, (let lt = h.1 in omega arith), h.2)

has_at : (ls : List Line) (k : ℕ) (l : Line) → slice_get ls k ≡ Some l → Has ls l
has_at [] k l h = absurd (cc)
has_at (x ∷ xs) zero l h = (zero, omega arith, (let e : x ≡ l = cc in e))
has_at (x ∷ xs) (suc k) l h = has_next x l xs (has_at xs k l h)

-- the moment from which it shows, by whether there are earlier volumes
from_first : (number opened skew transit from : ℕ) (b : Bool) → nat_le number 1 ≡ b
    → (1 < number → opened + skew + transit ≤ from) → (if b then 0 else opened + skew + transit) ≤ from
from_first number opened skew transit from true e h = omega arith
from_first number opened skew transit from false e h = h (leb-false number 1 e)

first_from : (number opened skew transit from : ℕ) (b : Bool) → nat_le number 1 ≡ b
    → (if b then 0 else opened + skew + transit) ≤ from → 1 < number → opened + skew + transit ≤ from
first_from number opened skew transit from true e h lt = let le = leb-true number 1 e in absurd (omega arith)
first_from number opened skew transit from false e h lt = h

module _ (js : Journals) (side : Role) (v : VolumeOutline) (skew transit : ℕ) (c : Certificate) (some : c.from < c.to)
    (closed : IsClosed (journal_of js side)) (of : IsOutlineOf (volume_of js side) (journal_of js side) v) where
  asked : ShowsAll skew transit c v → IsAskedOf js skew transit c side
  asked shows =
      let long = closed.some in
      let is = is_closing of.closing.event
      ((closed.last (length (journal_of js side) - 1) of.closing of.is_last).1 (omega arith)) in
      let until = shows.1 in
      let last = of.last in (
        (
          of.closing,
          has_at (journal_of js side) (length (journal_of js side) - 1) of.closing of.is_last,
          is,
          omega arith,
        ),
        λ earlier. (
            let number = of.numbered in
            let opened = of.opened in
            let after = first_from v.number v.opened skew transit c.from (nat_le v.number 1) refl shows.0 (omega arith) in
            (of.first, (omega arith, of.is_first), omega arith)),
      )

  shown : IsAskedOf js skew transit c side → ShowsAll skew transit c v
  shown asks =
      let r = asks.0 in
      let lines = journal_of js side in
      let at = slice_get_read lines (length lines) r.1.0 r.0 refl r.1.1 (sym r.1.2) in
      let place = (closed.last r.1.0 r.0 at).0 (ap is_close r.2) in
      let e : r.1.0 ≡ length lines - 1 = omega arith in
      let there : slice_get lines (length lines - 1) ≡ Some r.0 = subst (λ n. slice_get lines n ≡ Some r.0) e at in
      let own = of.is_last in
      let same : of.closing ≡ r.0 = cc in
      let read : v.last ≡ r.0.reading = of.last ∙ ap (λ (z : Line). z.reading) same in
      let late = r.3 in (
        from_first v.number v.opened skew transit c.from (nat_le v.number 1) refl (λ lt. (
            let number = of.numbered in
            let after = asks.1 (omega arith) in
            let first : slice_get lines 0 ≡ Some after.0 = after.1.1 in
            let mine = of.is_first in
            let one : of.first ≡ after.0 = cc in
            let opened : v.opened ≡ after.0.reading = of.opened ∙ ap (λ (z : Line). z.reading) one in
            let le = after.2 in
            omega arith)),
        omega arith,
      )

pub shows_what_is_asked : ShowsWhatIsAsked
shows_what_is_asked js side v skew transit c some closed of =
    (asked js side v skew transit c some closed of, shown js side v skew transit c some closed of)
