-- The last message that receipts take, and the last that they send.
use Rattle.std.specs.Prelude.{◌≡◌, ◌<◌, ◌≤◌, ◌-◌, ℕ, List, [], ◌∷◌, ◌++◌, refl, length}
use Rattle.std.proofs.Common.{ap, sym, ◌∙◌, take, get_or, suc, arith}
use Rattle.std.proofs.Math.Seq.{take-suc}
use Rattle.binding_rules.specs.declared.message.PartnerMessage.{PartnerMessage}
use Rattle.journal_lines.specs.declared.event.Event.{Event}
use Rattle.journal_lines.specs.declared.event.Event.TheVariants.{Base, Send, Take as TakeLine}
use Rattle.locked_book.specs.declared.receipt.Receipt.{Receipt}
use Rattle.failover_session.specs.Receipts.{taken_by, taken_after, last_taken, sent_by, sent_after, last_sent}
use Rattle.journal_lines.specs.declared.kept.BookNumbers.{BookNumbers}
use Rattle.failover_session.proofs.Taken.{taken_after-append}

one_more : (rs : List Receipt) (i : ℕ) (d : Receipt) → i < length rs
    → last_taken (take (suc i) rs) ≡ taken_by (last_taken (take i rs)) (get_or rs i d).line.event
one_more rs i d within =
    ap (λ xs. taken_after 0 xs) (take-suc rs i d within) ∙ taken_after-append 0 (take i rs) (get_or rs i d ∷ [])

by_other : (last : ℕ) (e : Event) → ((m : PartnerMessage) → e ≡ TakeLine m → ⊥) → taken_by last e ≡ last
by_other last (TakeLine m) other = absurd (other m refl)
by_other last _ other = refl

module _ (rs : List Receipt) (i : ℕ) (d : Receipt) (some : 0 < i) (within : i ≤ length rs)
    (all : last_taken (take i rs) ≡ last_taken rs) where
  one_back : last_taken (take i rs) ≡ taken_by (last_taken (take (i - 1) rs)) (get_or rs (i - 1) d).line.event
  one_back =
      let before : suc (i - 1) ≡ i = omega (arith, some) in
      ap (λ k. last_taken (take k rs)) (sym before) ∙ one_more rs (i - 1) d (omega (arith, some, within))

  pub found : (m : PartnerMessage) → (get_or rs (i - 1) d).line.event ≡ TakeLine m → m.serial ≡ last_taken rs
  found m takes = sym (ap (λ e. taken_by (last_taken (take (i - 1) rs)) e) takes) ∙ (sym one_back ∙ all)

  pub passed : ((m : PartnerMessage) → (get_or rs (i - 1) d).line.event ≡ TakeLine m → ⊥)
      → last_taken (take (i - 1) rs) ≡ last_taken rs
  passed other =
      sym (by_other (last_taken (take (i - 1) rs)) (get_or rs (i - 1) d).line.event other) ∙ (sym one_back ∙ all)

-- ---- the last that they send

sent_after-append : (last : ℕ) (a b : List Receipt) → sent_after last (a ++ b) ≡ sent_after (sent_after last a) b
sent_after-append last [] b = refl
sent_after-append last (r ∷ rs) b = sent_after-append (sent_by last r.line.event) rs b

one_more_sent : (rs : List Receipt) (i : ℕ) (d : Receipt) → i < length rs
    → last_sent (take (suc i) rs) ≡ sent_by (last_sent (take i rs)) (get_or rs i d).line.event
one_more_sent rs i d within =
    ap (λ xs. sent_after 0 xs) (take-suc rs i d within) ∙ sent_after-append 0 (take i rs) (get_or rs i d ∷ [])

sent_by_other : (last : ℕ) (e : Event) → ((m : PartnerMessage) → e ≡ Send m → ⊥)
    → ((n : BookNumbers) → e ≡ Base n → ⊥) → sent_by last e ≡ last
sent_by_other last (Send m) other others = absurd (other m refl)
sent_by_other last (Base n) other others = absurd (others n refl)
sent_by_other last _ other others = refl

module _ (rs : List Receipt) (i : ℕ) (d : Receipt) (some : 0 < i) (within : i ≤ length rs)
    (all : last_sent (take i rs) ≡ last_sent rs) where
  sent_back : last_sent (take i rs) ≡ sent_by (last_sent (take (i - 1) rs)) (get_or rs (i - 1) d).line.event
  sent_back =
      let before : suc (i - 1) ≡ i = omega (arith, some) in
      ap (λ k. last_sent (take k rs)) (sym before) ∙ one_more_sent rs (i - 1) d (omega (arith, some, within))

  pub found_sent : (m : PartnerMessage) → (get_or rs (i - 1) d).line.event ≡ Send m → m.serial ≡ last_sent rs
  found_sent m sends = sym (ap (λ e. sent_by (last_sent (take (i - 1) rs)) e) sends) ∙ (sym sent_back ∙ all)

  pub found_base : (n : BookNumbers) → (get_or rs (i - 1) d).line.event ≡ Base n → n.serial ≡ last_sent rs
  found_base n base = sym (ap (λ e. sent_by (last_sent (take (i - 1) rs)) e) base) ∙ (sym sent_back ∙ all)

  pub passed_sent : ((m : PartnerMessage) → (get_or rs (i - 1) d).line.event ≡ Send m → ⊥)
      → ((n : BookNumbers) → (get_or rs (i - 1) d).line.event ≡ Base n → ⊥)
      → last_sent (take (i - 1) rs) ≡ last_sent rs
  passed_sent other others =
      sym (sent_by_other (last_sent (take (i - 1) rs)) (get_or rs (i - 1) d).line.event other others)
      ∙ (sym sent_back ∙ all)
