-- Messages that give nothing back too early.
use Rattle.std.specs.Prelude.{◌≡◌, ℕ, ◌+◌, ◌<◌, ◌≤◌, List, length}
use Rattle.std.proofs.Common.{arith, inl, inr, subst}
use Rattle.std.proofs.lemmas.Bool.{cases_lt}
use Rattle.std.proofs.lemmas.Option.{slice_get_within}
use Rattle.dhcp6_pd.specs.declared.message.ClientMessage.{ClientMessage}
use Rattle.journal_lines.specs.declared.line.Journal.{Journal}
use Rattle.client_service.specs.declared.terms.ReuseTerms.{ReuseTerms}
use Rattle.client_service.specs.declared.permit.Permit.{Permit}
use Rattle.client_service.specs.EarlyReleases.{IsOrderedEarly, HasEarlyRelease}

module _ (j : Journal) (t : ReuseTerms) (now : ℕ) (m : ClientMessage) (permits : List Permit) where
  -- none of the first so many IA_PDs
  abbrev pub NoneOfFirst : ℕ → Type 0
  NoneOfFirst count = (place : ℕ) → place < count → IsOrderedEarly j t now m permits place → ⊥

  pub none_more : (count : ℕ) → NoneOfFirst count → (IsOrderedEarly j t now m permits count → ⊥) → NoneOfFirst (count + 1)
  none_more count before here place lt early = elim (cases_lt place count) [
    | inl less ↦ before place less early
    | inr le ↦ (let at : place ≡ count = omega arith in here (subst (IsOrderedEarly j t now m permits) at early))
  ]

  pub none_at_all : (count : ℕ) → length m.ias ≤ count → NoneOfFirst count → HasEarlyRelease j t now m permits → ⊥
  none_at_all count le none early =
      let lt = slice_get_within m.ias early.0 early.1.1.0 early.1.1.1 in none early.0 (omega arith) early.1
