-- That the lines of volumes which are one journal can be counted: it has no more than a journal may have.
use Rattle.std.specs.Prelude.{◌≡◌, ℕ, ◌+◌, ◌^◌, ◌≤◌, Bool, true, false, List, [], ◌∷◌, ◌++◌, length, map, if◌then◌else◌}
use Rattle.std.proofs.Common.{suc, arith, ap, subst, refl}
use Rattle.journal_lines.specs.declared.line.Line.{Line}
use Rattle.journal_lines.specs.Close.{is_close}
use Rattle.volume_join.specs.Joined.{unclosed, behind_head, numbered, going_on}
use Rattle.volume_join.specs.Joining.{Joining, one, with_next}
use Rattle.volume_join.proofs.Counts.{length_going}
use Rattle.joined_runs.specs.PutTogether.{AreLetIn}
use Rattle.volume_spans.specs.declared.reading.ReadVolume.{ReadVolume}
use Rattle.volume_spans.specs.Reading.{journal_in, AreWritten}
use Rattle.line_origins.specs.Parts.{lines_in, AllFitBehind, AreTogether}

pub open_within : (ls : List Line) → length (unclosed ls) ≤ length ls
open_within [] = omega arith
open_within (l ∷ ls) = by_test (is_close l.event) (open_within ls) where
  by_test : (t : Bool) → length (unclosed ls) ≤ length ls
      → length (if t then [] else l ∷ unclosed ls) ≤ length (l ∷ ls)
  by_test true h = omega arith
  by_test false h = omega arith

-- lines that none closes before others
open_both : (xs ys : List Line) → unclosed (unclosed xs ++ ys) ≡ unclosed xs ++ unclosed ys
open_both [] ys = refl
open_both (x ∷ xs) ys = by_test (is_close x.event) refl (open_both xs ys) where
  by_test : (t : Bool) → is_close x.event ≡ t → unclosed (unclosed xs ++ ys) ≡ unclosed xs ++ unclosed ys
      → unclosed ((if t then [] else x ∷ unclosed xs) ++ ys) ≡ (if t then [] else x ∷ unclosed xs) ++ unclosed ys
  by_test true e h = refl
  by_test false e h = rw e (ap (λ zs. x ∷ zs) h)

open_numbered : (n : ℕ) (ls : List Line) → length (unclosed (numbered n ls)) ≡ length (unclosed ls)
open_numbered n [] = refl
open_numbered n (l ∷ ls) = by_test (is_close l.event) (open_numbered (n + 1) ls) where
  by_test : (t : Bool) → length (unclosed (numbered (n + 1) ls)) ≡ length (unclosed ls)
      → length (if t then [] else (record l { number = n }) ∷ unclosed (numbered (n + 1) ls))
      ≡ length (if t then [] else l ∷ unclosed ls)
  by_test true h = refl
  by_test false h = ap suc h

length_both : (xs ys : List Line) → length (xs ++ ys) ≡ length xs + length ys
length_both [] ys = omega arith
length_both (x ∷ xs) ys = let h = length_both xs ys in omega arith

-- what stands before the close line of a journal that goes on
pub open_going : (ls next : List Line)
    → length (unclosed (going_on ls next)) ≡ length (unclosed ls) + length (unclosed (behind_head next))
open_going ls next =
    let n = length (unclosed ls) + 1 in
    let a = ap length (open_both ls (numbered n (behind_head next))) in
    let b = length_both (unclosed ls) (unclosed (numbered n (behind_head next))) in
    let c = open_numbered n (behind_head next) in
    omega arith

all_fit : (j : Joining) (rs : List ReadVolume) → AreLetIn j (map journal_in rs)
    → AllFitBehind (length (unclosed j.lines)) rs
all_fit j [] h = tt
all_fit j (r ∷ rs) h =
    let few = h.0.head.few in
    let room = h.1 in
    let going = length_going j.lines (lines_in r) in (
      record { head = omega arith; lines = omega arith },
      subst (λ n. AllFitBehind n rs) (open_going j.lines (lines_in r)) (all_fit (with_next j (journal_in r)) rs h.2),
    )

pub together_fit : (r : ReadVolume) (rs : List ReadVolume) → AreTogether (r ∷ rs)
    → AllFitBehind (length (unclosed (lines_in r))) rs
together_fit r [] h = tt
together_fit r (s ∷ rs) h = all_fit (one (journal_in r)) (s ∷ rs) h.1.0.let_in

pub written_few : (r : ReadVolume) (rs : List ReadVolume) → AreWritten (r ∷ rs) → length (lines_in r) ≤ 2 ^ 20
written_few r [] h = let few = h.few in omega arith
written_few r (s ∷ rs) h = let few = h.0.few in omega arith
