-- For bodies only: the releases of a delegation, collected once.
use Rattle.std.specs.Prelude.{◌≡◌, ℕ, ◌+◌, ◌*◌, ◌<◌, ◌≤◌, ◌||◌, Bool, true, false, IsTrue, List, All, Some, length}
use Rattle.std.specs.Prelude.{nat_lt, slice_get, slice_index_or}
use Rattle.std.specs.Prelude.{Contains as Has}
use Rattle.binding_rules.specs.declared.role.Role.{Role}
use Rattle.binding_rules.specs.declared.role.Role.TheVariants.{Primary, Secondary}
use Rattle.causal_order.specs.declared.reference.Ref.{Ref}
use Rattle.causal_order.specs.Journals.{Journals}
use Rattle.causal_order.specs.Tests.{is_later}
use Rattle.attribution.specs.declared.delegation.Delegation.{Delegation}
use Rattle.attribution.specs.Acceptance.{GivesBack}
use Rattle.plain_search.specs.declared.query.Query.{Query}
use Rattle.plain_search.specs.declared.collected.DatedRelease.{DatedRelease}
use Rattle.plain_search.specs.declared.collected.Releases.{Releases}
use Rattle.plain_search.specs.declared.recent.ReleaseCache.{ReleaseCache}
use Rattle.plain_search.specs.Search.{IsReadAt}

-- the line gives the delegation back, and the clock showed this
pub record IsRelease (js : Journals) (d : Delegation) (r : DatedRelease) : Type 0 where
  pub back : GivesBack js r.at d
  pub read : IsReadAt js r.at r.reading

abbrev pub HasRelease : List DatedRelease → Ref → Type 0
HasRelease xs j = (r : DatedRelease) × Has xs r × (r.at ≡ j)

-- exactly the lines of a server's journal that give the delegation back
pub record AreReleasesOn (js : Journals) (d : Delegation) (side : Role) (xs : List DatedRelease) : Type 0 where
  pub each : All (IsRelease js d) xs
  pub all : (j : Ref) → GivesBack js j d → j.side ≡ side → HasRelease xs j

-- the other stands in the same journal, no earlier, and was read no earlier
abbrev pub IsFollowedBy : DatedRelease → DatedRelease → Type 0
IsFollowedBy x z = (x.at.side ≡ z.at.side) × (x.at.number ≤ z.at.number) × (x.reading ≤ z.reading)

abbrev pub AreRising : List DatedRelease → Type 0
AreRising xs = (i k : ℕ) (d : DatedRelease) → i ≤ k → k < length xs
    → IsFollowedBy (slice_index_or xs i d) (slice_index_or xs k d)

-- the releases of a delegation
pub record AreReleases (js : Journals) (c : Releases) : Type 0 where
  pub primary : AreReleasesOn js c.delegation Primary c.primary.items
  pub secondary : AreReleasesOn js c.delegation Secondary c.secondary.items
  pub rising_primary : IsTrue c.are_rising → AreRising c.primary.items
  pub rising_secondary : IsTrue c.are_rising → AreRising c.secondary.items

-- what gives the one back gives the other back
pub record AreGivenBackAlike (d e : Delegation) : Type 0 where
  pub client : d.client ≡ e.client
  pub iaid : d.iaid ≡ e.iaid
  pub prefix : d.prefix ≡ e.prefix

-- all that was collected is true of these journals
abbrev pub IsRecent : Journals → ReleaseCache → Type 0
IsRecent js recent = All (AreReleases js) recent.collected.items

-- the two lines alone show that the one was written before the other
abbrev pub shows_before : ℕ → DatedRelease → DatedRelease → Bool
shows_before skew x z = is_later x.at z.at || nat_lt (x.reading + 2 * skew) z.reading

-- what stands at this place was collected of the delegation
abbrev pub IsPlaceOf : ReleaseCache → Delegation → ℕ → Type 0
IsPlaceOf recent d i = (c : Releases) × (slice_get recent.collected.items i ≡ Some c) × AreGivenBackAlike c.delegation d

-- ---- the first of releases that rise

-- the first of those that fail the test: none that fails it was read before
pub record IsFirstFailing (test : DatedRelease → Bool) (xs : List DatedRelease) (x : DatedRelease) : Type 0 where
  pub has : Has xs x
  pub fails : test x ≡ false
  pub least : (z : DatedRelease) → Has xs z → test z ≡ false → x.reading ≤ z.reading

abbrev pub NoneFails : (DatedRelease → Bool) → List DatedRelease → Type 0
NoneFails test xs = (z : DatedRelease) → Has xs z → test z ≡ true

-- none of those that weren't plainly written before the grant was read before this
abbrev pub IsKeptBy : ℕ → DatedRelease → List DatedRelease → ℕ → Type 0
IsKeptBy skew grant xs least = (z : DatedRelease) → Has xs z → shows_before skew z grant ≡ false → least ≤ z.reading

-- it was plainly written after the line, and by the query's beginning
abbrev pub IsReturn : Query → DatedRelease → DatedRelease → Type 0
IsReturn q line x = (shows_before q.skew line x ≡ true) × (x.reading + q.skew ≤ q.from)
