-- The receipts of a book's lines, one by one.
use Rattle.std.specs.Prelude.{◌≡◌, ℕ, ◌+◌, ◌<◌, ◌≤◌, List, [], ◌∷◌, ◌++◌, length, suc}
use Rattle.std.proofs.Common.{ap, sym, subst, ◌∙◌, drop, get_or, drop-cons, add-one, arith, append_assoc, append-nil}
use Rattle.std.proofs.lemmas.List.{drop_all}
use Rattle.journal_lines.specs.declared.line.Line.{Line}
use Rattle.book_state.specs.Book.{BookState}
use Rattle.book_state.specs.Effects.{after}
use Rattle.book_rules.specs.declared.rule.Rule.TheVariants.{Sequence}
use Rattle.book_rules.specs.VolumeRules.{KeepsSequence}
use Rattle.book_rules.specs.Rules.{IsStep}
use Rattle.book_rules.specs.Volumes.{AreSteps}
use Rattle.order_book.specs.declared.reply.Reply.{Reply}
use Rattle.order_book.specs.Answer.{reply_to}
use Rattle.locked_book.specs.declared.receipt.Receipt.{Receipt}
use Rattle.client_service.specs.Lines.{receipts_from}

-- The lines from a place on break no rule behind a book that has so many, and with their receipts behind those so far
-- all are there.
pub record IsAt (all : List Receipt) (lines : List Line) (place : ℕ) (b : BookState) (rs : List Receipt) : Type 0 where
  pub steps : AreSteps b (drop place lines)
  pub counted : b.count ≡ place
  pub rest : rs ++ receipts_from place b (drop place lines) ≡ all

module _ (all : List Receipt) (lines : List Line) (place : ℕ) (b : BookState) (rs : List Receipt)
    (at : IsAt all lines place b rs) where
  module _ (l : Line) (within : place < length lines) (is : l ≡ get_or lines place l) where
    here : drop place lines ≡ l ∷ drop (suc place) lines
    here = drop-cons lines place l within ∙ ap (λ x. x ∷ drop (suc place) lines) (sym is)

    pub step : IsStep b l
    step = let steps = subst (λ ls. AreSteps b ls) here at.steps in steps.0

    more : List Line
    more = drop (suc place) lines

    made : Reply → Receipt
    made reply = record { number = l.number; line = l; reply = reply }

    first : Receipt
    first = record { number = place + 1; line = l; reply = reply_to b l.reading l.event }

    rest : rs ++ first ∷ receipts_from (place + 1) (after b l) more ≡ all
    unfolding first more
    rest = subst (λ ls. rs ++ receipts_from place b ls ≡ all) here at.rest

    its_number : l.number ≡ place + 1
    its_number =
        let kept : KeepsSequence b l = step Sequence in
        let number = kept.number in
        let counted = at.counted in
        omega (arith, number, counted)

    all_same : (c : BookState) (reply : Reply) → c ≡ after b l → reply ≡ reply_to b l.reading l.event
        → rs ++ made reply ∷ receipts_from (suc place) c more
        ≡ rs ++ first ∷ receipts_from (place + 1) (after b l) more
    unfolding made first
    all_same c reply entered told =
        let place_is : suc place ≡ place + 1 = sym (add-one place) in
        λ i. rs ++ record { number = its_number i; line = l; reply = told i }
        ∷ receipts_from (place_is i) (entered i) more

    pub one_more : (c : BookState) (reply : Reply) → c ≡ after b l → reply ≡ reply_to b l.reading l.event
        → IsAt all lines (suc place) c (rs ++ record { number = l.number; line = l; reply = reply } ∷ [])
    unfolding made more
    one_more c reply entered told =
        let steps : AreSteps b (l ∷ drop (suc place) lines) = subst (λ ls. AreSteps b ls) here at.steps in
        let number = its_number in
        record {
          steps = subst (λ x. AreSteps x (drop (suc place) lines)) (sym entered) steps.1;
          counted = ap (λ (x : BookState). x.count) entered ∙ omega (arith, number);
          rest = append_assoc rs (made reply ∷ []) (receipts_from (suc place) c more)
              ∙ (all_same c reply entered told ∙ rest);
        }

  pub at_end : length lines ≤ place → rs ≡ all
  at_end done =
      let rest = at.rest in
      sym (append-nil rs) ∙ (ap (λ ls. rs ++ receipts_from place b ls) (sym (drop_all place lines done)) ∙ rest)
