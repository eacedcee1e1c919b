-- What is so of a book's lines.
use Rattle.std.specs.Prelude.{◌≡◌, ℕ, ◌+◌, ◌^◌, ◌<◌, ◌≤◌, List, [], ◌∷◌, ◌++◌, length, slice_get}
use Rattle.std.specs.Prelude.{Option, Some, None, IfSome}
use Rattle.std.proofs.Common.{ap, sym, ◌∙◌, arith, zero, suc, inl, inr, length-append}
use Rattle.std.proofs.lemmas.Bool.{cases_lt}
use Rattle.std.proofs.lemmas.Option.{slice_get_within}
use Rattle.binding_rules.specs.declared.taking.Outcome.{Outcome}
use Rattle.journal_lines.specs.declared.line.Line.{Line}
use Rattle.journal_lines.specs.declared.line.Journal.{Journal}
use Rattle.journal_lines.specs.Head.{volume_number}
use Rattle.book_rules.specs.declared.rule.Rule.TheVariants.{Sequence}
use Rattle.book_state.specs.Book.{BookState, blank}
use Rattle.book_state.specs.Effects.{after}
use Rattle.book_rules.specs.VolumeRules.{KeepsSequence}
use Rattle.book_rules.specs.Volumes.{AreSteps, book_after}
use Rattle.order_book.specs.declared.reply.Reply.{Reply}
use Rattle.order_book.specs.Answer.{reply_to}
use Rattle.order_book.specs.Replayed.{IsLegal, state_of, with_line}
use Rattle.locked_book.specs.declared.receipt.Receipt.{Receipt}
use Rattle.locked_book.specs.Serving.{line_at, ReceiptStands}
use Rattle.locked_book.specs.Replies.{AreOutcomes, outcome_in, reply_behind}
use Rattle.locked_book.proofs.Lists.{get_front, get_last, take_front, take_all}

-- ---- lines are counted, and few

counted_from : (ls : List Line) (b : BookState) → AreSteps b ls → (book_after b ls).count ≡ b.count + length ls
counted_from [] b steps = omega arith
counted_from (l ∷ ls) b steps =
    let s : KeepsSequence b l = steps.0 Sequence in
    let n = s.number in
    let rest = counted_from ls (after b l) steps.1 in
    omega arith

pub counted : (j : Journal) → IsLegal j → (state_of j).count ≡ length j.lines
counted j legal = let h = counted_from j.lines (blank j.role (volume_number j.head)) legal in omega (arith, h)

few_more : (ls : List Line) (b : BookState) → AreSteps b ls → b.count ≤ 2 ^ 20 → b.count + length ls ≤ 2 ^ 20
few_more [] b steps few = omega arith
few_more (l ∷ ls) b steps few =
    let s : KeepsSequence b l = steps.0 Sequence in
    let n = s.number in
    let m = s.few in
    let rest = few_more ls (after b l) steps.1 m in
    omega arith

pub few : (j : Journal) → IsLegal j → length j.lines < 2 ^ 32
few j legal = let h = few_more j.lines (blank j.role (volume_number j.head)) legal (omega arith) in omega arith

-- ---- a receipt whose line stands is of a line of the journal

number_within : (ls : List Line) (n : ℕ) (l : Line) → line_at ls n ≡ Some l → n ≤ length ls
number_within ls zero l h = omega arith
number_within ls (suc n) l h = let w = slice_get_within ls n l h in omega arith

pub stands_below : (ls : List Line) (last : Option Receipt) (n : ℕ) → ReceiptStands ls last → n ≡ length ls + 1
    → IfSome last (λ r. r.number < n)
stands_below ls None n h e = tt
stands_below ls (Some r) n h e = let w = number_within ls r.number r.line h in omega (arith, e)

-- ---- what was told, with one line more

module _ (j : Journal) (l : Line) where
  abbrev reply_by : (ls : List Line) (m : Line) → Reply
  reply_by ls m = reply_to (state_of (record j { lines = ls })) m.reading m.event

  earlier : (m : Line) (n : ℕ) → n ≤ length j.lines → reply_behind (with_line j l) n m ≡ reply_behind j n m
  earlier m n le = ap (λ ls. reply_by ls m) (take_front j.lines (l ∷ []) n le)

  at_end : (m : Line) → reply_behind (with_line j l) (length j.lines) m ≡ reply_to (state_of j) m.reading m.event
  at_end m = ap (λ ls. reply_by ls m) (take_front j.lines (l ∷ []) (length j.lines) (omega arith) ∙ take_all j.lines)

  module _ (opened : ℕ) (told : List (Option Outcome)) (h : AreOutcomes j opened told) where
    before_end : (o : Option Outcome) (i : ℕ) (m : Line) → i < length told
        → slice_get (with_line j l).lines (opened + i) ≡ Some m
        → slice_get (told ++ o ∷ []) i ≡ Some (outcome_in (reply_behind (with_line j l) (opened + i) m))
    before_end o i m lt at =
        let all = h.all in
        let old : slice_get j.lines (opened + i) ≡ Some m = sym (get_front j.lines (l ∷ []) (opened + i) (omega arith))
        ∙ at in
        get_front told (o ∷ []) i lt ∙ (h.each i m old
        ∙ ap (λ r. Some (outcome_in r)) (sym (earlier m (opened + i) (omega arith))))

    at_last : (o : Option Outcome) (i : ℕ) (m : Line) → o ≡ outcome_in (reply_to (state_of j) l.reading l.event)
        → i ≡ length told → slice_get (with_line j l).lines (opened + i) ≡ Some m
        → slice_get (told ++ o ∷ []) i ≡ Some (outcome_in (reply_behind (with_line j l) (opened + i) m))
    at_last o i m e is at =
        let all = h.all in
        let place : opened + i ≡ length j.lines = omega (arith, is) in
        let last : slice_get (with_line j l).lines (opened + i) ≡ Some l =
        ap (λ n. slice_get (with_line j l).lines n) place ∙ get_last j.lines l in
        let same : l ≡ m = cc in
        let read : slice_get (told ++ o ∷ []) i ≡ Some o = ap (λ n. slice_get (told ++ o ∷ []) n) is
        ∙ get_last told o in
        let behind : reply_behind (with_line j l) (opened + i) m ≡ reply_to (state_of j) m.reading m.event =
        ap (λ n. reply_behind (with_line j l) n m) place ∙ at_end m in
        let known : o ≡ outcome_in (reply_to (state_of j) m.reading m.event) =
        e ∙ ap (λ (x : Line). outcome_in (reply_to (state_of j) x.reading x.event)) same in
        read ∙ ap Some (known ∙ ap outcome_in (sym behind))

    pub told_more : (o : Option Outcome) → o ≡ outcome_in (reply_to (state_of j) l.reading l.event)
        → AreOutcomes (with_line j l) opened (told ++ o ∷ [])
    told_more o e = record {
      all = let all = h.all in let a = length-append j.lines (l ∷ []) in let b = length-append told (o ∷ []) in
          omega (arith, a, b);
      each = λ i m at. elim (cases_lt i (length told)) [
        | inl lt ↦ before_end o i m lt at
        | inr le ↦
            let all = h.all in
            let w = slice_get_within (with_line j l).lines (opened + i) m at in
            let a = length-append j.lines (l ∷ []) in
            at_last o i m e (omega (arith, a, w)) at
      ];
    }
