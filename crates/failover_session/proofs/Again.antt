-- What was sent above a serial.
use Rattle.std.specs.Prelude.{◌≡◌, ◌<◌, ◌≤◌, nat_lt, ℕ, Bool, true, false, Option, Some, None, option_map, List, []}
use Rattle.std.specs.Prelude.{◌∷◌, ◌++◌, cond, length, filter}
use Rattle.std.specs.List.{cons_option}
use Rattle.std.proofs.Common.{ap, sym, ◌∙◌, subst, append-nil, take, get_or, suc}
use Rattle.std.proofs.Math.Seq.{take-suc}
use Rattle.std.proofs.lemmas.Bool.{lt-ltb, le-ltb}
use Rattle.std.proofs.lemmas.List.Elements.{filter_map-append, filter-append}
use Rattle.binding_rules.specs.declared.message.Body.{Body}
use Rattle.binding_rules.specs.declared.message.PartnerMessage.{PartnerMessage}
use Rattle.failover_message.specs.declared.frame.Frame.{Frame}
use Rattle.locked_book.specs.declared.receipt.Receipt.{Receipt}
use Rattle.failover_session.specs.declared.outbox.OutboundFrame.{OutboundFrame}
use Rattle.failover_session.specs.OutboundFrames.{Sends, meaning_as, meaning_in, meanings_of, meaning_of_receipt, sends_of, is_above, sends_above}
use Rattle.failover_session.specs.Messages.{body_in, message_in}

-- ---- one receipt

module _ (last : ℕ) (r : Receipt) where
  pub above_none : sends_of (r ∷ []) ≡ [] → sends_above last (r ∷ []) ≡ []
  above_none none = ap (λ xs. filter (is_above last) xs) none

  module _ (h : OutboundFrame) (m : PartnerMessage) (carries : message_in h.frame ≡ Some m)
      (its : sends_of (r ∷ []) ≡ meanings_of (h ∷ [])) where
    says : meaning_in h ≡ Some (Sends h.number m)
    says = ap (λ x. meaning_as h x) carries

    above_by : (keeps : Bool) → nat_lt last m.serial ≡ keeps
        → sends_above last (r ∷ []) ≡ cond keeps (Sends h.number m ∷ []) []
    above_by keeps test =
        ap (λ xs. filter (is_above last) xs) (its ∙ ap (λ x. cons_option x []) says)
        ∙ ap (λ t. cond t (Sends h.number m ∷ []) []) test

    its_serial : h.frame.serial ≡ m.serial
    its_serial = serial_in h.frame (body_in h.frame.kind) carries
      where
        serial_in : (f : Frame) (x : Option Body)
            → option_map (λ body. record { term = f.term; serial = f.serial; body = body }) x ≡ Some m
            → f.serial ≡ m.serial
        serial_in f None is = absurd cc
        serial_in f (Some body) is = cc

    pub above_some : last < h.frame.serial → sends_above last (r ∷ []) ≡ meanings_of (h ∷ [])
    above_some over =
        above_by true (lt-ltb last m.serial (subst (λ s. last < s) its_serial over))
        ∙ sym (ap (λ x. cons_option x []) says)

    pub above_word : h.frame.serial ≤ last → sends_above last (r ∷ []) ≡ []
    above_word under = above_by false (le-ltb last m.serial (subst (λ s. s ≤ last) its_serial under))

-- ---- one receipt more

module _ (last : ℕ) (rs : List Receipt) (i : ℕ) (r : Receipt) (within : i < length rs) (its_item : r ≡ get_or rs i r)
  where
    one_more : sends_above last (take (suc i) rs) ≡ sends_above last (take i rs) ++ sends_above last (r ∷ [])
    one_more =
        ap (λ xs. sends_above last xs)
        (take-suc rs i r within ∙ ap (λ x. take i rs ++ x ∷ []) (sym its_item))
        ∙ (ap (λ xs. filter (is_above last) xs) (filter_map-append meaning_of_receipt (take i rs) (r ∷ []))
        ∙ filter-append (is_above last) (sends_of (take i rs)) (sends_of (r ∷ [])))

    module _ (o : List OutboundFrame) (so_far : meanings_of o ≡ sends_above last (take i rs)) where
      pub again_some : (h : OutboundFrame) → sends_above last (r ∷ []) ≡ meanings_of (h ∷ [])
          → meanings_of (o ++ h ∷ []) ≡ sends_above last (take (suc i) rs)
      again_some h its =
          filter_map-append meaning_in o (h ∷ [])
          ∙ (ap (λ xs. xs ++ meanings_of (h ∷ [])) so_far
          ∙ (ap (λ xs. sends_above last (take i rs) ++ xs) (sym its) ∙ sym one_more))

      pub again_none : sends_above last (r ∷ []) ≡ [] → meanings_of o ≡ sends_above last (take (suc i) rs)
      again_none none =
          so_far
          ∙ (sym (append-nil (sends_above last (take i rs)))
          ∙ (ap (λ xs. sends_above last (take i rs) ++ xs) (sym none) ∙ sym one_more))

pub ruleset one_receipt = (above_some, above_none, above_word)
