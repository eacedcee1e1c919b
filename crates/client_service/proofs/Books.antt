-- The receipts of a book that nobody else serves.
use Rattle.std.specs.Prelude.{◌≡◌, ℕ, zero, suc, ◌+◌, ◌-◌, List, [], ◌∷◌, ◌++◌, length, slice_get, Option, Some, None}
use Rattle.std.proofs.Common.{refl, ap, ◌∙◌, arith}
use Rattle.journal_lines.specs.declared.line.Line.{Line}
use Rattle.journal_lines.specs.declared.line.Journal.{Journal}
use Rattle.journal_lines.specs.Head.{volume_number}
use Rattle.book_state.specs.Book.{BookState, blank}
use Rattle.book_state.specs.Effects.{after}
use Rattle.book_rules.specs.Volumes.{book_after}
use Rattle.order_book.specs.Answer.{reply_to}
use Rattle.order_book.specs.Replayed.{state_of, with_line}
use Rattle.locked_book.specs.declared.receipt.Receipt.{Receipt}
use Rattle.locked_book.specs.Serving.{line_at, last_receipt, ReceiptStands}
use Rattle.client_service.specs.Lines.{receipts_from, receipts_of}

-- the receipt at a place is that of the line there
at_place : (count : ℕ) (b : BookState) (ls : List Line) (i : ℕ) (r : Receipt)
    → slice_get (receipts_from count b ls) i ≡ Some r
    → (r.number ≡ count + i + 1) × (slice_get ls i ≡ Some r.line)
at_place count b [] i r h = absurd cc
at_place count b (l ∷ ls) zero r h =
    let same : record { number = count + 1; line = l; reply = reply_to b l.reading l.event } ≡ r = cc in
    let number : count + 1 ≡ r.number = ap (λ (x : Receipt). x.number) same in
    (omega (arith, number), ap (λ (x : Receipt). Some x.line) same)
at_place count b (l ∷ ls) (suc i) r h =
    let rest = at_place (count + 1) (after b l) ls i r h in
    let number = rest.0 in
    (omega (arith, number), rest.1)

stands_if : (ls : List Line) (found : Option Receipt)
    → ((r : Receipt) → found ≡ Some r → line_at ls r.number ≡ Some r.line)
    → ReceiptStands ls found
stands_if ls None h = tt
stands_if ls (Some r) h = h r refl

-- the last of them stands
pub last_stands : (j : Journal) → ReceiptStands j.lines (last_receipt (receipts_of j))
last_stands j =
    let all = receipts_of j in
    stands_if j.lines (last_receipt all) (λ r h.
    let at = at_place 0 (blank j.role (volume_number j.head)) j.lines (length all - 1) r h in
    let number = at.0 in
    let place : r.number ≡ suc (length all - 1) = omega (arith, number) in
    ap (λ n. line_at j.lines n) place ∙ at.1)

further : (count n : ℕ) (b : BookState) (ls : List Line) (l : Line) → n ≡ count + length ls + 1
    → receipts_from count b (ls ++ l ∷ [])
    ≡ receipts_from count b ls ++ record { number = n; line = l; reply = reply_to (book_after b ls) l.reading l.event }
    ∷ []
further count n b [] l is =
    let same : count + 1 ≡ n = omega (arith, is) in
    ap (λ k. record { number = k; line = l; reply = reply_to b l.reading l.event } ∷ []) same
further count n b (x ∷ ls) l is =
    ap (λ rs. record { number = count + 1; line = x; reply = reply_to b x.reading x.event } ∷ rs)
    (further (count + 1) n (after b x) ls l (omega (arith, is)))

-- one line more is one receipt more
pub one_more : (j : Journal) (l : Line) (n : ℕ) → n ≡ length j.lines + 1
    → receipts_of (with_line j l)
    ≡ receipts_of j ++ record { number = n; line = l; reply = reply_to (state_of j) l.reading l.event } ∷ []
one_more j l n is = further 0 n (blank j.role (volume_number j.head)) j.lines l (omega (arith, is))
