-- Turns one after the other.
use Rattle.std.specs.Prelude.{◌≡◌, ℕ, ◌+◌, List, [], ◌∷◌, ◌++◌, length, Ok, Err}
use Rattle.std.proofs.Common.{refl, ap, subst, ◌∙◌, inl, inr, length-append}
use Rattle.locked_book.specs.declared.receipt.Receipt.{Receipt}
use Rattle.client_service.specs.declared.partner_availability.PartnerAvailability.{PartnerAvailability}
use Rattle.node_threads.specs.declared.error.NodeError.{NodeError}
use Rattle.node_threads.specs.declared.error.NodeError.TheVariants.{Net, Read, Write, Serve, Memory}
use Rattle.node_threads.specs.declared.worker_outcome.WorkerOutcome.{WorkerOutcome}
use Rattle.node_threads.specs.Sending.{IsTurn, AreTurns, IsServed}

module _ {Mail Peer : Type 0} (Receives Sends : Mail → Peer → List ℕ → Mail → Type 0) (Fails : Mail → Mail → Type 0)
    (partner : PartnerAvailability) (own : List ℕ) where
  -- so many turns were made
  abbrev pub HasMade : ℕ → Mail → Mail → List Receipt → List Receipt → Type 0
  HasMade count old new had has =
      (turns : List WorkerOutcome) × (length turns ≡ count) × AreTurns Receives Sends Fails partner own turns old new had has

  behind : (turns : List WorkerOutcome) (heard : WorkerOutcome) (old mid new : Mail) (had between has : List Receipt)
      → AreTurns Receives Sends Fails partner own turns old mid had between
      → IsTurn Receives Sends Fails partner own mid new between has (Ok heard)
      → AreTurns Receives Sends Fails partner own (turns ++ heard ∷ []) old new had has
  behind [] heard old mid new had between has before turn = (
    new,
    has,
    subst (λ (x : Mail × List Receipt). IsTurn Receives Sends Fails partner own x.0 new x.1 has (Ok heard))
        (λ i. (before.0 i, before.1 i)) turn,
    (refl, refl),
  )
  behind (first ∷ turns) heard old mid new had between has before turn =
      (before.0, before.1, before.2, behind turns heard before.0 mid new before.1 between has before.3 turn)

  pub none_made : (old : Mail) (had : List Receipt) → HasMade 0 old old had had
  none_made old had = ([], refl, (refl, refl))

  pub one_made : (count : ℕ) (heard : WorkerOutcome) (old mid new : Mail) (had between has : List Receipt)
      → HasMade count old mid had between → IsTurn Receives Sends Fails partner own mid new between has (Ok heard)
      → HasMade (count + 1) old new had has
  one_made count heard old mid new had between has before turn =
      let long : length before.0 ≡ count = before.1 in (
        before.0 ++ heard ∷ [],
        length-append before.0 (heard ∷ []) ∙ ap (λ n. n + 1) long,
        behind before.0 heard old mid new had between has before.2 turn,
      )

  -- the turn in which a worker ended
  pub ended_by : (count : ℕ) (why : NodeError) (old mid new : Mail) (had between has : List Receipt)
      → HasMade count old mid had between → IsTurn Receives Sends Fails partner own mid new between has (Err why)
      → IsServed Receives Sends Fails partner own old new had has (Err why)
  ended_by count Net old mid new had between has made turn = (made.0, mid, between, made.2, turn)
  ended_by count Read old mid new had between has made turn = (made.0, mid, between, made.2, turn)
  ended_by count Write old mid new had between has made turn = (made.0, mid, between, made.2, turn)
  ended_by count (Serve e) old mid new had between has made turn = (made.0, mid, between, made.2, turn)
  ended_by count Memory old mid new had between has made (inl turn) = absurd turn.4
  ended_by count Memory old mid new had between has made (inr turn) =
      let other : Err Memory ≡ Err Net = turn.0 in absurd cc

  pub all_made : (count most : ℕ) (old new : Mail) (had has : List Receipt) → count ≡ most
      → HasMade count old new had has → IsServed Receives Sends Fails partner own old new had has (Ok most)
  all_made count most old new had has same made =
      subst (λ n. IsServed Receives Sends Fails partner own old new had has (Ok n)) same made
