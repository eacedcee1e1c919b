-- When a receipt is of a line of the journal.
use Rattle.std.specs.Prelude.{◌≡◌, ℕ, ◌+◌, ◌-◌, ◌<◌, ◌≤◌, ◌↔◌, IsTrue, Bool, List, [], ◌∷◌, ◌++◌, length, slice_get}
use Rattle.std.specs.Prelude.{Option, Some}
use Rattle.std.proofs.Common.{ap, subst, sym, ◌∙◌, arith, length-append}
use Rattle.binding_rules.specs.declared.taking.Outcome.{Outcome}
use Rattle.journal_lines.specs.declared.line.Line.{Line}
use Rattle.journal_lines.specs.declared.line.Journal.{Journal}
use Rattle.book_state.specs.Book.{BookState}
use Rattle.order_book.specs.declared.order.Order.{Order}
use Rattle.order_book.specs.declared.reply.Reply.{Reply}
use Rattle.order_book.specs.Answer.{reply_to, IsAnswer}
use Rattle.order_book.specs.Replayed.{IsLegal, state_of, with_line}
use Rattle.locked_book.specs.declared.receipt.Receipt.{Receipt}
use Rattle.locked_book.specs.Closing.{AreAbove, IsReceiptOf}
use Rattle.locked_book.specs.Serving.{ReceiptStands, last_receipt}
use Rattle.locked_book.specs.Replies.{AreOutcomes, outcome_in, reply_behind, first_lines}
use Rattle.locked_book.proofs.Legal.{counted, stands_below, told_more}
use Rattle.locked_book.proofs.Lists.{get_last}
use Rattle.locked_book.proofs.Rising.{above_more}

-- ---- of a line that stands

module _ (j : Journal) (opened : ℕ) (r : Receipt) (l : Line) (at : slice_get j.lines (r.number - 1) ≡ Some l) where
  -- another line stands there
  pub receipt_isnt : (l ≡ r.line → ⊥) → IsReceiptOf j opened r → ⊥
  receipt_isnt differs h = let line = h.line in differs (cc)

  module _ (told : List (Option Outcome)) (h : AreOutcomes j opened told) (added : opened < r.number)
      (same : l ≡ r.line) where
    reply_there : (o : Option Outcome) (reply : Reply) → slice_get told (r.number - 1 - opened) ≡ Some o
        → ((b : BookState) → o ≡ outcome_in (reply_to b l.reading l.event) → reply ≡ reply_to b l.reading l.event)
        → reply ≡ reply_behind j (r.number - 1) l
    reply_there o reply there gives =
        let place : opened + (r.number - 1 - opened) ≡ r.number - 1 = omega (arith, added) in
        let here : slice_get j.lines (opened + (r.number - 1 - opened)) ≡ Some l =
        ap (λ k. slice_get j.lines k) place ∙ at in
        let known = h.each (r.number - 1 - opened) l here in
        let outcome : o ≡ outcome_in (reply_behind j (opened + (r.number - 1 - opened)) l) = cc in
        gives (state_of (first_lines j (r.number - 1))) (outcome ∙ ap (λ k. outcome_in (reply_behind j k l)) place)

    pub receipt_is : (o : Option Outcome) (reply : Reply) (result : Bool) → r.number ≤ length j.lines
        → slice_get told (r.number - 1 - opened) ≡ Some o
        → ((b : BookState) → o ≡ outcome_in (reply_to b l.reading l.event) → reply ≡ reply_to b l.reading l.event)
        → (IsTrue result ↔ (r.reply ≡ reply)) → IsTrue result ↔ IsReceiptOf j opened r
    receipt_is o reply result within there gives tells =
        let is = reply_there o reply there gives in
        let swap : reply_behind j (r.number - 1) l ≡ reply_behind j (r.number - 1) r.line =
        ap (λ k. reply_behind j (r.number - 1) k) same in (
          λ y. record { added = added; within = within; line = at ∙ ap Some same; reply = tells.0 y ∙ (is ∙ swap) },
          λ x. tells.1 (x.reply ∙ sym (is ∙ swap)),
        )

-- ---- of the line that was added last

module _ (j new : Journal) (l : Line) (r : Receipt) (reply : Reply) (now : ℕ) (order : Order)
    (legal : IsLegal j) (is : new ≡ with_line j l) (answer : IsAnswer (state_of j) now order l reply)
    (line : slice_get new.lines (length new.lines - 1) ≡ Some r.line) (number : r.number ≡ r.line.number)
    (told : r.reply ≡ reply) where
  newest_line : r.line ≡ l
  newest_line =
      let more : length (j.lines ++ l ∷ []) - 1 ≡ length j.lines = let a = length-append j.lines (l ∷ []) in
      omega (arith, a) in
      let last : slice_get (with_line j l).lines (length (with_line j l).lines - 1) ≡ Some l =
      ap (λ k. slice_get (with_line j l).lines k) more ∙ get_last j.lines l in
      let there : slice_get new.lines (length new.lines - 1) ≡ Some l =
      subst (λ (x : Journal). slice_get x.lines (length x.lines - 1) ≡ Some l) (sym is) last in
      cc

  pub newest_number : r.number ≡ length j.lines + 1
  newest_number =
      let count = counted j legal in
      let next = answer.line.number in
      let same : r.line.number ≡ l.number = ap (λ (x : Line). x.number) newest_line in
      omega (arith, count, next, same, number)

  pub newest_answer : IsAnswer (state_of j) now order r.line r.reply
  newest_answer = subst (λ (p : Line × Reply). IsAnswer (state_of j) now order p.0 p.1)
      (λ i. (sym newest_line i, sym told i)) answer

  pub newest_journal : new ≡ record j { lines = j.lines ++ r.line ∷ [] }
  newest_journal = is ∙ ap (λ x. with_line j x) (sym newest_line)

  pub newest_above : (rs : List Receipt) → AreAbove 0 rs → ReceiptStands j.lines (last_receipt rs)
      → AreAbove 0 (rs ++ r ∷ [])
  newest_above rs above stands =
      above_more rs r above (let n = newest_number in omega (arith, n))
      (stands_below j.lines (last_receipt rs) r.number stands newest_number)

  pub newest_told : (opened : ℕ) (tolds : List (Option Outcome)) (o : Option Outcome) → AreOutcomes j opened tolds
      → o ≡ outcome_in reply → AreOutcomes new opened (tolds ++ o ∷ [])
  newest_told opened tolds o h e =
      subst (λ (x : Journal). AreOutcomes x opened (tolds ++ o ∷ [])) (sym is)
      (told_more j l opened tolds h o (e ∙ ap outcome_in answer.told))
