-- When a server ends leases that have ended: none that its partner may have renewed.
use Rattle.std.specs.Prelude.{◌≡◌, ℕ, ◌+◌, ◌*◌, ◌-◌, ◌&&◌, nat_le, not, Bool, true, false, Option, Some, None}
use Rattle.std.specs.Prelude.{if◌then◌else◌}
use Rattle.prefix_range.specs.Prefix.{Prefix}
use Rattle.order_book.specs.Replayed.{state_of}
use Rattle.order_book.specs.declared.order.Order.TheVariants.{Expire}
use Rattle.unit_index.specs.Units.{IsLowest}
use Rattle.unit_index.specs.Queries.{IsToExpire}
use Rattle.locked_book.specs.declared.receipt.Receipt.{Receipt}
use Rattle.server_core.specs.Served.{IsApplied}
use Rattle.server_core.specs.Saying.{stage_of, told_all_of}
use Rattle.server_core.specs.ServerStates.{CoreState}
use Rattle.failover_session.specs.declared.stage.SessionStage.{SessionStage}
use Rattle.failover_session.specs.declared.stage.SessionStage.TheVariants.{Joined}
use Rattle.lease_expiry.specs.declared.view.RenewalView.{RenewalView}

-- so long behind an end that the partner told, no lease lasts that it may have given since (rule 20)
abbrev pub lead : (mclt skew transit : ℕ) → ℕ
lead mclt skew transit = 1000 * mclt + 2 * skew + transit

-- how far the two ends have come: each has named what it took last
abbrev pub is_joined : Option SessionStage → Bool
is_joined (Some (Joined last)) = true
is_joined _ = false

-- The partner has told all that it renewed, and is heard: what it renews meanwhile it tells at once.
abbrev pub knows_all : RenewalView → Bool
knows_all v = v.has_joined && (not v.waiting && (v.told_all && v.is_heard))

-- what a server's book and its session know, beside whether it has a partner and hears it
abbrev pub view_of : {P : Type 0} (is_alone is_heard : Bool) → CoreState P → RenewalView
view_of is_alone is_heard s = record {
  is_alone = is_alone;
  down = (state_of s.volume.served.journal).down;
  has_joined = is_joined (stage_of s.talk);
  waiting = (state_of s.volume.served.journal).waiting;
  told_all = told_all_of s.talk;
  is_heard = is_heard;
}

-- Those whose own end and the end that the partner told were reached by this reading are ended now. Of a survivor it is
-- so long ago that its takeover of the unit is reached too; none is while the partner may have renewed it.
abbrev pub reading_before : (now lead least : ℕ) → Option ℕ
reading_before now lead least = if nat_le (least + lead) now then Some (now - lead) else None

abbrev pub reading_of : (down : Option ℕ) → (knows : Bool) → (now lead : ℕ) → Option ℕ
reading_of (Some down) knows now lead = reading_before now lead down
reading_of None true now lead = Some now
reading_of None false now lead = None

-- a server without a partner ends each that has ended
abbrev pub ends_by : RenewalView → (now lead : ℕ) → Option ℕ
ends_by v now lead = if v.is_alone then Some now else reading_of v.down (knows_all v) now lead

-- a line ended the lowest lease that had ended by a reading
pub record IsEnded {P : Type 0} (by now : ℕ) (old new : CoreState P) : Type 0 where
  pub prefix : Prefix
  pub lowest : IsLowest (IsToExpire (state_of old.volume.served.journal) by) prefix
  pub receipt : Receipt
  pub applied : IsApplied old.volume.served new.volume.served now (Expire prefix) receipt
  pub rest : new ≡ record old { volume = record old.volume { served = new.volume.served } }

-- the next was ended, or nothing was done
abbrev pub EndsNext : {P : Type 0} → Bool → (by now : ℕ) → CoreState P → CoreState P → Type 0
EndsNext true by now old new = IsEnded by now old new
EndsNext false by now old new = new ≡ old

-- leases were ended, one after the other, and nothing else was done
pub data AreEnded {P : Type 0} (by now : ℕ) (first : CoreState P) : CoreState P → Type 0 where
  none : AreEnded by now first first
  more : (old new : CoreState P) → AreEnded by now first old → IsEnded by now old new → AreEnded by now first new

abbrev pub EndsBy : {P : Type 0} → Option ℕ → ℕ → CoreState P → CoreState P → Type 0
EndsBy None now old new = new ≡ old
EndsBy (Some by) now old new = AreEnded by now old new
