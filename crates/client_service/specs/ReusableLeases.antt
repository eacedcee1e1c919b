-- What a client has by a line of its server's journal, as it may be told again without another line.
use Rattle.std.specs.Prelude.{◌≡◌, ◌⊎◌, ℕ, ◌+◌, ◌-◌, ◌*◌, ◌/◌, ◌<◌, ◌≤◌, min, slice_get, Some, None}
use Rattle.binding_rules.specs.declared.unit.Unit.{Unit as UnitValue}
use Rattle.binding_rules.specs.declared.unit.UnitStatus.TheVariants.{Active}
use Rattle.journal_lines.specs.declared.event.Lease.{Lease}
use Rattle.journal_lines.specs.declared.event.Event.TheVariants.{Grant}
use Rattle.journal_lines.specs.declared.line.Line.{Line}
use Rattle.journal_lines.specs.declared.line.Journal.{Journal}
use Rattle.order_book.specs.declared.order.Order.{Order}
use Rattle.order_book.specs.declared.reply.Reply.{Reply}
use Rattle.order_book.specs.Answer.{IsAnswer}
use Rattle.order_book.specs.Replayed.{state_of}
use Rattle.order_book.specs.LatestGrants.{latest_grant}
use Rattle.client_service.specs.declared.reusable_lease.ReusableLease.{ReusableLease}
use Rattle.client_service.specs.declared.terms.ReuseTerms.{ReuseTerms}

-- ---- what remains of a grant

-- when the server holds a grant for ended, in milliseconds: twice the skew and the transit past its lifetime
abbrev pub end_of : ReuseTerms → (granted valid : ℕ) → ℕ
end_of t granted valid = granted + 1000 * valid + 2 * t.skew + t.transit

-- The seconds that remain at a reading up to such an end. The clock may have been fast when the line was written and
-- slow now, and this answer may be under way: so four times the skew and twice the transit are left out.
abbrev pub remaining : ReuseTerms → (end now : ℕ) → ℕ
remaining t end now = (end - (now + 4 * t.skew + 2 * t.transit)) / 1000

-- A grant may be told again for so many seconds, where its unit ends for the server at `own_end`: it is younger than the
-- floor, that much remains of it and of its unit, and no less than half of what would be granted anew.
pub record MayReuse (t : ReuseTerms) (granted valid own_end now anew told : ℕ) : Type 0 where
  pub young : now - granted < 1000 * t.floor
  pub remains : told ≡ remaining t (min (end_of t granted valid) own_end) now
  pub some : 0 < told
  pub enough : anew ≤ 2 * told

-- ---- lines

-- the line grants the lease's client its prefix, for a lifetime of its own
pub record IsGrantedBy (l : Line) (lease : Lease) (number reading valid : ℕ) : Type 0 where
  pub grants : l.event ≡ Grant (record lease { valid = valid })
  pub numbered : number ≡ l.number
  pub read : reading ≡ l.reading

-- it is the last grant line of the lease's unit, and no later line ended what it grants
pub record IsLatest (j : Journal) (lease : Lease) (number reading valid : ℕ) : Type 0 where
  pub place : ℕ
  pub latest : latest_grant j lease.prefix ≡ Some place
  pub line : Line
  pub at : slice_get j.lines place ≡ Some line
  pub granted : IsGrantedBy line lease number reading valid

-- the unit is delegated to the lease's client
abbrev pub IsTheirs : Journal → Lease → Type 0
IsTheirs j lease =
    ((state_of j).units lease.prefix).status ≡ Active (record { client = lease.client; iaid = lease.iaid })

-- The partner granted nothing of the unit since it was free, or it has acknowledged this server's last change of it: so
-- a release of the partner's that this server accepts is behind the last grant (`IsEarlyRelease`).
abbrev pub KnowsGrant : UnitValue → Type 0
KnowsGrant u = (u.told ≡ 0) ⊎ (u.due ≡ None)

-- ---- what stands

-- Of a lease that would be granted at this reading: the client has the prefix, by the last grant line of the unit, which
-- may be told again for these seconds.
pub record IsReusableFor (j : Journal) (t : ReuseTerms) (now : ℕ) (lease : Lease) (s : ReusableLease) : Type 0 where
  pub granted : ℕ
  pub valid : ℕ
  pub line : IsLatest j lease s.number granted valid
  pub theirs : IsTheirs j lease
  pub known : KnowsGrant ((state_of j).units lease.prefix)
  pub prefix : s.prefix ≡ lease.prefix
  pub again : MayReuse t granted valid ((state_of j).units lease.prefix).own_end now lease.valid s.valid

-- the order would be answered by a grant, and what it would grant stands by an earlier line
abbrev pub IsReusable : Journal → ReuseTerms → ℕ → Order → ReusableLease → Type 0
IsReusable j t now order s =
    (l : Line) × (reply : Reply) × (lease : Lease) × IsAnswer (state_of j) now order l reply
    × (l.event ≡ Grant lease) × IsReusableFor j t l.reading lease s
