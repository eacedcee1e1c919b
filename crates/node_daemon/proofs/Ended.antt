-- Leases that were ended put nothing to the disk, and hold back no answer.
use Rattle.std.specs.Prelude.{◌≡◌, ℕ, Bool, Option, Some, None}
use Rattle.std.proofs.Common.{refl, sym, subst, inl, inr}
use Rattle.server_settings.specs.Settings.{ServerSettings}
use Rattle.server_core.specs.ServerStates.{CoreState}
use Rattle.server_clocks.specs.declared.clocks.Moment.{Moment}
use Rattle.daemon_endpoints.specs.declared.partner_contact.PartnerContact.{PartnerContact}
use Rattle.daemon_endpoints.specs.Receiving.{HasSameFiles}
use Rattle.daemon_endpoints.proofs.Files.{same_files, same_on}
use Rattle.lease_expiry.specs.Expiring.{IsEnded, AreEnded, none, more, EndsBy, ends_by, view_of}
use Rattle.lease_expiry.specs.declared.view.RenewalView.{RenewalView}
use Rattle.node_daemon.specs.Ending.{EndsLeases, DoesDue}

module _ {P : Type 0} (now : ℕ) where
  next_same : (by : ℕ) (old new : CoreState P) → IsEnded by now old new → HasSameFiles old new
  next_same by old new h = subst (λ x. HasSameFiles old x) (sym h.rest)
      (record { own = refl; names = refl; calls = refl; kept = refl; held = refl })

  all_same : (by : ℕ) (first new : CoreState P) → AreEnded by now first new → HasSameFiles first new
  all_same by first _ none = same_files first first refl
  all_same by first _ (more old new before last) =
      same_on first old new (all_same by first old before) (next_same by old new last)

  pub ends_same : (by : Option ℕ) (old new : CoreState P) → EndsBy by now old new → HasSameFiles old new
  ends_same None old new is = same_files old new is
  ends_same (Some by) old new ended = all_same by old new ended

  -- by what the server knew, where it heard its partner or not
  pub ends_by_view : (lead : ℕ) (is_alone is_heard heard : Bool) (v : RenewalView) (old new : CoreState P)
      → is_heard ≡ heard → v ≡ view_of is_alone is_heard old → EndsBy (ends_by v now lead) now old new
      → EndsBy (ends_by (view_of is_alone heard old) now lead) now old new
  ends_by_view lead is_alone is_heard heard v old new same is ended =
      subst (λ h. EndsBy (ends_by (view_of is_alone h old) now lead) now old new) same
      (subst (λ x. EndsBy (ends_by x now lead) now old new) is ended)

-- what is owed
module _ {P : Type 0} (is_alone : Bool) (contact : PartnerContact) (heartbeat : ℕ) (settings : ServerSettings)
    (now : Moment) (old : CoreState P) where
  -- nothing was done
  pub nothing_done : (new : CoreState P) → new ≡ old → DoesDue is_alone contact heartbeat settings now old new
  nothing_done new is = (old, inl refl, same_files old new is)

  -- leases were ended
  pub leases_ended : (new : CoreState P) → EndsLeases is_alone contact heartbeat settings now old new
      → DoesDue is_alone contact heartbeat settings now old new
  leases_ended new ended = (new, inr ended, same_files new new refl)

  -- and then a sign of life was given
  pub then_contacted : (ended new : CoreState P) → EndsLeases is_alone contact heartbeat settings now old ended
      → HasSameFiles ended new → DoesDue is_alone contact heartbeat settings now old new
  then_contacted ended new ends same = (ended, inr ends, same)
