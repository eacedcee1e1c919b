-- A book's reading is that of its last line.
use Rattle.std.proofs.Common.{◌≡◌, ℕ, ◌+◌, ◌-◌, ◌≤◌, List, [], ◌∷◌, length, refl, ap, sym, ◌∙◌, arith}
use Rattle.std.specs.Prelude.{zero, suc, Some, slice_get}
use Rattle.journal_lines.specs.declared.line.Line.{Line}
use Rattle.journal_lines.specs.declared.line.Journal.{Journal}
use Rattle.journal_lines.specs.Head.{volume_number}
use Rattle.book_state.specs.Book.{BookState, blank}
use Rattle.book_state.specs.Effects.{after}
use Rattle.book_rules.specs.Volumes.{book_after}
use Rattle.order_book.specs.Replayed.{state_of}

reading_at : (ls : List Line) (b : BookState) (n : ℕ) (l : Line) → slice_get ls n ≡ Some l → length ls ≤ n + 1
    → (book_after b ls).reading ≡ l.reading
reading_at [] b n l e few = absurd (cc)
reading_at (y ∷ []) b zero l e few = let same : y ≡ l = cc in rw same refl
reading_at (y ∷ z ∷ zs) b zero l e few = absurd (omega arith)
reading_at (y ∷ ys) b (suc n) l e few = reading_at ys (after b y) n l e (omega arith)

-- the reading where a journal has these lines
abbrev reading_by : Journal → List Line → ℕ
reading_by j ls = (book_after (blank j.role (volume_number j.head)) ls).reading

pub reading_of_last : (j : Journal) (ls : List Line) (l : Line) → ls ≡ j.lines → Some l ≡ slice_get ls (length ls - 1)
    → (state_of j).reading ≡ l.reading
reading_of_last j ls l is e =
    sym (ap (reading_by j) is)
    ∙ reading_at ls (blank j.role (volume_number j.head)) (length ls - 1) l (sym e) (omega arith)
