-- What one datagram adds to the answers that are held back.
use Rattle.std.specs.Prelude.{◌≡◌, ◌⊎◌, ℕ, List, [], ◌∷◌, ◌++◌}
use Rattle.std.specs.List.{AllByRecursion}
use Rattle.std.proofs.Common.{inl, inr, refl, sym, ◌∙◌, ap, subst, append-nil}
use Rattle.client_service.specs.declared.permit.Permit.{Permit}
use Rattle.client_service.specs.declared.permit.DropReason.{DropReason}
use Rattle.dhcp6_pd.specs.declared.message.ClientMessage.{ClientMessage}
use Rattle.journal_lines.specs.declared.line.Journal.{Journal}
use Rattle.locked_book.specs.declared.receipt.Receipt.{Receipt}
use Rattle.server_book.specs.declared.reply_policy.ReplyPolicy.{ReplyPolicy}
use Rattle.client_service.specs.declared.terms.ReuseTerms.{ReuseTerms}
use Rattle.server_clocks.specs.declared.clocks.Moment.{Moment}
use Rattle.server_core.specs.DatagramHandling.{IsHandled, IsInformed}
use Rattle.server_core.specs.ServerStates.{CoreState}
use Rattle.server_core.specs.VolumeWriters.{WriterState, Grows}
use Rattle.server_core.specs.declared.committed_output.HeldAnswer.{HeldAnswer}
use Rattle.server_core.specs.declared.datagram_outcome.DatagramOutcome.{DatagramOutcome}
use Rattle.server_core.specs.declared.datagram_outcome.DatagramOutcome.TheVariants.{Answered, Unanswered, AnsweredInformation, UnansweredInformation, TooMany}
use Rattle.server_core.specs.declared.datagram_outcome.DatagramOutcome.TheVariants.{LeftToPartner, EarlyRelease, Malformed}
use Rattle.daemon_endpoints.specs.declared.arrival.Arrival.{Arrival}
use Rattle.daemon_endpoints.specs.Receiving.{HasHeard, IsHeardNow}

module _ {P : Type 0} (gives : Moment → Type 0) where
  -- answers that were heard now are held back behind those before
  abbrev HoldsMore : List (HeldAnswer (Arrival P)) → List (HeldAnswer (Arrival P)) → Type 0
  HoldsMore was held =
      (added : List (HeldAnswer (Arrival P))) × (held ≡ was ++ added) × AllByRecursion (IsHeardNow gives) added

  no_more : (was held : List (HeldAnswer (Arrival P))) → held ≡ was → HoldsMore was held
  no_more was held is = ([], is ∙ sym (append-nil was), tt)

  module _ (arrival : Arrival P) (gave : gives arrival.heard) where
    peer_gave : (h : HeldAnswer (Arrival P)) → h.answer.peer ≡ arrival → h.read ≡ arrival.heard.reading
        → IsHeardNow gives h
    peer_gave h is read = (
      subst (λ (a : Arrival P). gives a.heard) (sym is) gave,
      read ∙ ap (λ (a : Arrival P). a.heard.reading) (sym is),
    )

    informed : (own : List ℕ) (manner : ReplyPolicy) (datagram : List ℕ) (was held : List (HeldAnswer (Arrival P)))
        (outcome : DatagramOutcome)
        → IsInformed own manner arrival datagram arrival.heard.reading was held outcome → HoldsMore was held
    informed own manner datagram was held AnsweredInformation is =
        let h : HeldAnswer (Arrival P) = record { answer = is.1; read = arrival.heard.reading } in
        (h ∷ [], is.6, (peer_gave h is.4 refl, tt))
    informed own manner datagram was held (UnansweredInformation why) is = no_more was held is.4
    informed own manner datagram was held (Malformed e) is = no_more was held is.1
    informed own manner datagram was held other is = absurd is

    handled : (Lets : Journal → ℕ → ClientMessage → List Permit → Type 0)
        (Drops : Journal → ℕ → ClientMessage → DropReason → Type 0) (own : List ℕ) (manner : ReplyPolicy)
        (t : ReuseTerms) (datagram : List ℕ) (old new : WriterState) (was held : List (HeldAnswer (Arrival P)))
        (outcome : DatagramOutcome)
        → IsHandled Lets Drops own manner t arrival datagram arrival.heard.reading old new was held outcome
        → HoldsMore was held
    handled Lets Drops own manner t datagram old new was held (Answered kind) is =
        let h : HeldAnswer (Arrival P) = record { answer = is.2; read = arrival.heard.reading } in
        (h ∷ [], is.9, (peer_gave h is.7 refl, tt))
    handled Lets Drops own manner t datagram old new was held (Unanswered why) is = no_more was held is.3
    handled Lets Drops own manner t datagram old new was held TooMany is = no_more was held is.4
    handled Lets Drops own manner t datagram old new was held LeftToPartner is = no_more was held is.4
    handled Lets Drops own manner t datagram old new was held EarlyRelease is = no_more was held is.6
    handled Lets Drops own manner t datagram old new was held other is = informed own manner datagram was held other is.1

    one_heard : (Lets : Journal → ℕ → ClientMessage → List Permit → Type 0)
        (Drops : Journal → ℕ → ClientMessage → DropReason → Type 0) (manner : ReplyPolicy)
        (datagram : List ℕ) (old new : CoreState (Arrival P)) (outcome : DatagramOutcome)
        → IsHandled Lets Drops old.own manner old.terms arrival datagram arrival.heard.reading old.volume new.volume old.held
        new.held outcome
        → ((added : List Receipt) × Grows old.volume new.volume added)
        → new ≡ record old { volume = new.volume; held = new.held } → HasHeard gives old new
    one_heard Lets Drops manner datagram old new outcome is grows rest =
        let holds = handled Lets Drops old.own manner old.terms datagram old.volume new.volume old.held new.held outcome is in
        record {
          own = ap (λ (s : CoreState (Arrival P)). s.own) rest;
          names = ap (λ (s : CoreState (Arrival P)). s.names) rest;
          calls = ap (λ (v : WriterState). v.calls) grows.1.1;
          kept = ap (λ (v : WriterState). v.kept) grows.1.1;
          added = holds.0;
          held = holds.1;
          now = holds.2;
        }

  -- one datagram was heard at a moment that the clocks gave
  pub heard_one : (arrival : Arrival P) (Lets : Journal → ℕ → ClientMessage → List Permit → Type 0)
      (Drops : Journal → ℕ → ClientMessage → DropReason → Type 0)
      (manner : ReplyPolicy) (datagram : List ℕ) (old new : CoreState (Arrival P)) (outcome : DatagramOutcome)
      → IsHandled Lets Drops old.own manner old.terms arrival datagram arrival.heard.reading old.volume new.volume old.held
      new.held outcome
      → ((added : List Receipt) × Grows old.volume new.volume added)
      → new ≡ record old { volume = new.volume; held = new.held } → gives arrival.heard → HasHeard gives old new
  heard_one arrival Lets Drops manner datagram old new outcome is grows rest gave =
      one_heard arrival gave Lets Drops manner datagram old new outcome is grows rest
