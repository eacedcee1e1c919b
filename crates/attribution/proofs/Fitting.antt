-- Which journals clocks fit, by the placing rule.
use Rattle.std.specs.Prelude.{List}
use Rattle.std.proofs.Common.{subst, inl, inr}
use Rattle.binding_rules.specs.declared.role.Role.{Role}
use Rattle.causal_order.specs.declared.reference.Ref.{Ref}
use Rattle.causal_order.specs.Journals.{Journals, journal_of, volume_of}
use Rattle.book_state.specs.Book.{blank}
use Rattle.book_rules.specs.Volumes.{IsVolume}
use Rattle.book_rules.specs.NextHead.{AreLegal}
use Rattle.journal_merge.specs.Interleaving.{HasInterleaving}
use Rattle.journal_merge.specs.Placing.{Placed}
use Rattle.journal_merge.proofs.Stuck.{placed_or_stuck, stuck_where_none}
use Rattle.attribution.specs.Clocks.{AreChecked, FirstVolumesFit}
use Rattle.attribution.proofs.Orders.{Written, IsOrder, PlacesLesserFirst, NeverFalls, AreFirst}
use Rattle.attribution.proofs.Timed.{run_exists}
use Rattle.attribution.proofs.Placed.{order_of, is_order, lesser_first}
use Rattle.attribution.proofs.LegalJournals.{never_falls, is_whole, passed_over}

-- where lines have an order the placing rule gives one
placed : (js : Journals) → HasInterleaving js → (refs : List Ref) × Placed js refs
placed js has = elim (placed_or_stuck js) [ inl p ↦ p | inr stuck ↦ absurd ((stuck_where_none js).0 stuck has) ]

pub rising : (js : Journals) → AreChecked js → (side : Role) → NeverFalls (journal_of js side)
rising js are side = never_falls (journal_of js side) (blank side (volume_of js side)) (are.legal side)

-- an order of checked journals
pub record Ordered (js : Journals) : Type 0 where
  pub order : List Written
  pub is : IsOrder js order
  pub lesser : PlacesLesserFirst order

pub ordered : (js : Journals) → AreChecked js → Ordered js
ordered js are =
    let p = placed js are.ordered in
    record {
      order = order_of js p.0;
      is = is_order js are.matched (passed_over js are.legal) p.0 p.1;
      lesser = lesser_first js are.matched (rising js are) p.0 p.1;
    }

pub first_volumes_fit : FirstVolumesFit
first_volumes_fit js skew are closed one none =
    let o = ordered js are in
    let first : AreFirst AreLegal js = record {
      first = one;
      legal = λ side. subst (λ n. IsVolume side n (journal_of js side)) (one side) (are.legal side);
      whole = λ side. is_whole (journal_of js side) (blank side (volume_of js side)) (are.legal side);
      closed = closed;
      rising = rising js are;
    } in
    run_exists AreLegal js skew o.order first o.is o.lesser none
