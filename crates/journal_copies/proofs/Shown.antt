-- A copy up to the lines that a shown journal uses is what was shown.
use Rattle.std.specs.Prelude.{◌≡◌, ℕ, ◌≤◌, Bool, true, false, List, [], ◌∷◌, ◌++◌, length, take, if◌then◌else◌}
use Rattle.std.proofs.Common.{zero, suc, arith, sym, ◌∙◌, ap, subst, refl}
use Rattle.std.proofs.Math.Seq.{take-append_seam}
use Rattle.binding_rules.specs.declared.role.Role.{Role}
use Rattle.journal_lines.specs.declared.volume.Head.{Head}
use Rattle.journal_lines.specs.declared.line.Line.{Line}
use Rattle.journal_lines.specs.declared.line.Journal.{Journal}
use Rattle.journal_text.specs.Position.{Position, start, behind_line}
use Rattle.open_volume.specs.declared.volume.Phase.TheVariants.{GoingOn, Ended}
use Rattle.open_volume.specs.declared.volume.VolumeSoFar.{VolumeSoFar}
use Rattle.open_volume.specs.Spelling.{behind_all, volume_text, IsPhaseAt, IsWrittenSoFar, OnlyLastCloses}
use Rattle.open_volume.specs.Laws.{GivesTheVolumeItSpells}
use Rattle.open_volume.proofs.LinesFrom.{AreNext}
use Rattle.open_volume.proofs.WrittenLaws.{written, next_of}
use Rattle.volume_join.specs.Laws.{JoinedIsLegal}
use Rattle.attribution.specs.Snapshot.{closed_now}
use Rattle.journal_archive.specs.Messages.{takes_beyond, lines_within}
use Rattle.journal_archive.specs.Shown.{borne_out, shown_of}
use Rattle.journal_copies.specs.Used.{lines_before_put, lines_used}
use Rattle.journal_copies.specs.Text.{ending_of, volume_up_to, text_up_to}
use Rattle.journal_copies.specs.Laws.{IsCopyOfShown, CopiesAreWhatWasShown}
use Rattle.journal_copies.proofs.UsedLaws.{before_put, closed_begins, only_first}
use Rattle.journal_copies.proofs.Written.{written_together}

append_of : (xs ys zs : List Line) → (xs ++ ys) ++ zs ≡ xs ++ (ys ++ zs)
append_of [] ys zs = refl
append_of (x ∷ xs) ys zs = ap (λ ls. x ∷ ls) (append_of xs ys zs)

long_of : (xs ys : List Line) → length xs ≤ length (xs ++ ys)
long_of [] ys = omega arith
long_of (x ∷ xs) ys = omega (arith, long_of xs ys)

within_begins : (serial : ℕ) (ls : List Line) → (rest : List Line) × (ls ≡ lines_within serial ls ++ rest)
within_begins serial [] = ([], refl)
within_begins serial (l ∷ ls) = by_test (takes_beyond serial l.event) (within_begins serial ls) where
  by_test : (t : Bool) → ((rest : List Line) × (ls ≡ lines_within serial ls ++ rest))
      → (rest : List Line) × (l ∷ ls ≡ (if t then [] else l ∷ lines_within serial ls) ++ rest)
  by_test true h = (l ∷ ls, refl)
  by_test false h = (h.0, ap (λ xs. l ∷ xs) h.1)

-- ---- lines that the desk closed

-- the lines that are used of lines, closed: the first of them, which the desk closes the same
record AreUsed (ls : List Line) : Type 0 where
  rest : List Line
  more : List Line
  front : ls ≡ lines_before_put (closed_now ls) ++ rest
  shown : closed_now ls ≡ lines_before_put (closed_now ls) ++ more
  again : closed_now (lines_before_put (closed_now ls)) ≡ closed_now ls

are_used : (ls : List Line) → OnlyLastCloses ls → AreUsed ls
are_used [] only = record { rest = []; more = []; front = refl; shown = refl; again = refl }
are_used (l ∷ ls) only =
    let h = before_put l ls only in
    let b = closed_begins l h.mid in record {
      rest = h.rest;
      more = b.0;
      front = ap (λ xs. l ∷ xs) h.front ∙ ap (λ xs. xs ++ h.rest) (sym h.before);
      shown = sym h.again ∙ b.1 ∙ ap (λ xs. xs ++ b.0) (sym h.before);
      again = ap closed_now h.before ∙ h.again;
    }

-- ---- the first lines of a volume

next_first : (count : ℕ) (lines : List Line) (at : Position) → AreNext at lines → AreNext at (take count lines)
next_first zero lines at h = tt
next_first (suc count) [] at h = tt
next_first (suc count) (l ∷ lines) at h = (h.0, next_first count lines (behind_line l) h.1)

ends_so : (at : Position) → IsPhaseAt at (if at.is_closed then Ended else GoingOn)
ends_so at = by_test at.is_closed refl where
  by_test : (t : Bool) → at.is_closed ≡ t → IsPhaseAt at (if t then Ended else GoingOn)
  by_test true e = rw e refl
  by_test false e = rw e refl

first_written : (count : ℕ) (v : VolumeSoFar) → IsWrittenSoFar v → IsWrittenSoFar (volume_up_to count v.journal)
first_written count v h = written (volume_up_to count v.journal) h.head
    (next_first count v.journal.lines start (next_of v h))
    (ends_so (behind_all start (take count v.journal.lines)))

-- ---- the copy

abbrev text_by : Role → Head → List Line → List ℕ
text_by role head ls =
    volume_text (record { journal = record { role = role; head = head; lines = ls }; phase = ending_of ls })

abbrev closed_by : Role → Head → List Line → Journal
closed_by role head ls = record { role = role; head = head; lines = ls }

copy_shows : GivesTheVolumeItSpells → (v : VolumeSoFar) (other : Journal) → IsWrittenSoFar v
    → IsCopyOfShown v.journal (shown_of v.journal other)
copy_shows law v other h =
    let own = v.journal in
    let ls = borne_out own other in
    let w = within_begins _ own.lines in
    let u = are_used ls (only_first ls w.0 (subst OnlyLastCloses w.1 h.closing)) in
    let us = lines_before_put (closed_now ls) in
    let count = lines_used (closed_now ls) in
    let whole : own.lines ≡ us ++ (u.rest ++ w.0) =
    w.1 ∙ ap (λ xs. xs ++ w.0) u.front ∙ append_of us u.rest w.0 in
    let of_own : take count own.lines ≡ us = ap (take count) whole ∙ take-append_seam us (u.rest ++ w.0) in
    let of_shown : take count (closed_now ls) ≡ us = ap (take count) u.shown ∙ take-append_seam us u.more in record {
      few = subst (λ xs. count ≤ length xs) (sym whole) (long_of us (u.rest ++ w.0));
      same = ap (text_by own.role own.head) (of_own ∙ sym of_shown);
      volume = volume_up_to count own;
      read = (law (text_up_to count own) (volume_up_to count own)).1 (first_written count v h, refl);
      shows = ap (closed_by own.role own.head) (ap closed_now of_own ∙ u.again);
    }

pub copies_show : JoinedIsLegal → GivesTheVolumeItSpells → CopiesAreWhatWasShown
copies_show joined law primary secondary shown p s is =
    let a = is.0 in
    let b = is.1 in
    let pair = is.4 in
    let v = written_together joined primary a p is.2 in
    let w = written_together joined secondary b s is.3 in
    let first : IsCopyOfShown a (shown_of a b) =
    subst (λ j. IsCopyOfShown j (shown_of j b)) v.2 (copy_shows law v.0 b v.1) in
    let second : IsCopyOfShown b (shown_of b a) =
    subst (λ j. IsCopyOfShown j (shown_of j a)) w.2 (copy_shows law w.0 a w.1) in (
      (a, is.2, subst (λ q. IsCopyOfShown a q.primary) (sym pair) first),
      (b, is.3, subst (λ q. IsCopyOfShown b q.secondary) (sym pair) second),
    )
