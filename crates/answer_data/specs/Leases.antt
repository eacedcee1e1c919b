-- The delegations near the moment, as objects.
use Rattle.std.specs.Prelude.{◌≡◌, ◌+◌, ◌-◌, ℕ, List, Option, Some, None, codes}
use Rattle.serde_json.specs.Data.{Data, Members, null, no_members}
use Rattle.text_fields.specs.Octets.{hex}
use Rattle.client_id.specs.Duid.{iaid_text}
use Rattle.prefix_range.specs.Text.{prefix_text}
use Rattle.attribution.specs.declared.delegation.Lasting.{Lasting}
use Rattle.attribution.specs.declared.delegation.Lasting.TheVariants.{For, Until}
use Rattle.plain_search.specs.declared.query.HolderQuery.{HolderQuery}
use Rattle.candidate_leases.specs.declared.at_moment.AtMoment.{AtMoment}
use Rattle.candidate_leases.specs.declared.at_moment.AtMoment.TheVariants as state
use Rattle.candidate_leases.specs.declared.candidates.CandidateLease.{CandidateLease}
use Rattle.candidate_leases.specs.Near.{may_begin, shows_to, ends_by}
use Rattle.report_data.specs.Fields.{IsText}
use Rattle.report_data.specs.Rulings.{With, IsObject, IsCount, IsTime}
use Rattle.answer_data.specs.Members.{IsString, IsSide, IsLine, IsMoment}
use Rattle.answer_data.specs.Texts.{IsArrayOf}

-- ---- what it was at the moment

-- of this name, with these members behind
abbrev pub IsStateOf : (name : List ℕ) → (Members → Type 0) → Type 0
IsStateOf name so = With (codes "is") (IsString name) so no_members

-- a release that gave it back
abbrev pub IsGivenBack : (name : List ℕ) → (Data → Type 0) → Data → Type 0
IsGivenBack name line d = IsStateOf name (With (codes "release") line (IsObject d))

-- a moment that lies so many milliseconds past the one asked of, or before it
abbrev pub FallsShort : (name key : List ℕ) → (moment short : ℕ) → Data → Type 0
FallsShort name key moment short d =
    IsStateOf name (With key (IsTime moment) (With (codes "short_ms") (IsCount short) (IsObject d)))

abbrev pub IsState : (at : ℕ) → AtMoment → Data → Type 0
IsState at state.NotBegun d = IsStateOf (codes "not_begun") (IsObject d)
IsState at (state.Ended end) d = IsStateOf (codes "ended") (With (codes "by") (IsTime end) (IsObject d))
IsState at (state.GivenBack release) d = IsGivenBack (codes "given_back") (IsLine release.at) d
IsState at state.Carried d = IsStateOf (codes "carried") (IsObject d)
IsState at (state.Beginning begun) d = FallsShort (codes "beginning") (codes "begun_by") begun (begun - at) d
IsState at (state.Ending end) d = FallsShort (codes "ending") (codes "lasts_to") end ((at + 1) - end) d
IsState at (state.MayBeGivenBack release) d = IsGivenBack (codes "may_be_given_back") (IsLine release.at) d
IsState at (state.EarlierVolumes side needed) d = IsStateOf (codes "earlier_volumes")
    (With (codes "side") (IsSide side) (With (codes "needed") (IsTime needed) (IsObject d)))
IsState at (state.LaterVolumes side needed closed) d = IsStateOf (codes "later_volumes")
    (With (codes "side") (IsSide side) (With (codes "needed") (IsTime needed)
    (With (codes "closed") (IsTime closed) (IsObject d))))
IsState at state.Shown d = IsStateOf (codes "shown") (IsObject d)

-- ---- from when to when

-- it can be shown; null where it is carried
abbrev pub IsShownFor : HolderQuery → (reading : ℕ) → Lasting → Data → Type 0
IsShownFor q reading (For valid) d = With (codes "from") (IsTime (reading + q.skew + q.transit))
    (With (codes "to") (IsMoment (shows_to q.skew reading valid)) (IsObject d)) no_members
IsShownFor q reading (Until end) d = d ≡ null

-- from when on it may have been: unknown where it is carried
abbrev pub begins_from : HolderQuery → (reading : ℕ) → Lasting → Option ℕ
begins_from q reading (For valid) = Some (may_begin reading q.skew)
begins_from q reading (Until end) = None

-- it may have been
abbrev pub IsPossibleFor : HolderQuery → (reading : ℕ) → Lasting → Data → Type 0
IsPossibleFor q reading lasting d = With (codes "from") (IsMoment (begins_from q reading lasting))
    (With (codes "to") (IsMoment (ends_by q.skew q.transit reading lasting)) (IsObject d)) no_members

-- ---- whose it was, by which line, and all of that

pub record IsLease (q : HolderQuery) (lease : CandidateLease) (d : Data) : Type 0 where
  pub members : With (codes "line") (IsLine lease.line.at) (With (codes "reading") (IsTime lease.line.reading)
      (With (codes "client") (IsText (hex lease.delegation.client))
      (With (codes "iaid") (IsText (iaid_text lease.delegation.iaid))
      (With (codes "prefix") (IsText (prefix_text lease.delegation.prefix))
      (With (codes "shown") (IsShownFor q lease.line.reading lease.delegation.lasting)
      (With (codes "possible") (IsPossibleFor q lease.line.reading lease.delegation.lasting)
      (With (codes "at_the_moment") (IsState q.at lease.state) (IsObject d)))))))) no_members

-- each of them, in order
abbrev pub AreLeases : HolderQuery → List CandidateLease → Data → Type 0
AreLeases q leases d = IsArrayOf (IsLease q) leases d
