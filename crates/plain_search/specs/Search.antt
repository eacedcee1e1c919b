-- For bodies only: what single lines show, and what a search makes of them.
use Rattle.std.specs.Prelude.{◌≡◌, ◌≢◌, ℕ, ◌+◌, ◌*◌, ◌<◌, ◌≤◌, ◌⊎◌, ◌↔◌, ◌==◌, min, List, [], ◌∷◌, Some, All}
use Rattle.std.specs.Prelude.{if◌then◌else◌, length, slice_get, Contains as Has}
use Rattle.std.specs.List.Sorted.{IsNonDecreasingBy}
use Rattle.prefix_range.specs.Prefix.{Contains, Overlaps}
use Rattle.binding_rules.specs.Role.{partner_of}
use Rattle.journal_lines.specs.declared.event.Lease.{Lease}
use Rattle.causal_order.specs.declared.reference.Ref.{Ref}
use Rattle.causal_order.specs.declared.order.Precedes.{Precedes}
use Rattle.causal_order.specs.declared.order.Precedes.TheVariants.{Chain, Clock}
use Rattle.causal_order.specs.declared.certificate.Piece.{Piece}
use Rattle.causal_order.specs.declared.certificate.Clear.{Clear}
use Rattle.causal_order.specs.declared.certificate.ClearReason.{ClearReason}
use Rattle.causal_order.specs.declared.certificate.ClearReason.TheVariants.{Before, After}
use Rattle.causal_order.specs.declared.certificate.Foreign.{Foreign}
use Rattle.causal_order.specs.declared.certificate.Reason.{Reason}
use Rattle.causal_order.specs.Journals.{Journals, open_of}
use Rattle.causal_order.specs.Order.{IsLater}
use Rattle.causal_order.specs.Tests.{is_later}
use Rattle.causal_order.specs.Bounds.{reading_of}
use Rattle.attribution.specs.declared.delegation.Delegation.{Delegation}
use Rattle.attribution.specs.Delegation.{of_lease}
use Rattle.attribution.specs.Run.{infinity}
use Rattle.attribution.specs.Acceptance.{Grants, Tells, GivesBack, HasEarlier, IsOutside, Tile}
use Rattle.plain_search.specs.declared.query.Query.{Query}
use Rattle.plain_search.specs.declared.reach.Candidate.{Candidate}
use Rattle.plain_search.specs.declared.reach.CarriedSpan.{CarriedSpan}
use Rattle.plain_search.specs.declared.sweep.SweepState.{SweepState}
use Rattle.plain_search.specs.Plain.{IsPlainReason}
use Rattle.plain_search.specs.Limits.{lines_of_all}

-- ---- two lines

-- what the clock showed at the line
abbrev pub IsReadAt : Journals → Ref → ℕ → Type 0
IsReadAt js r x = reading_of js r ≡ Some x

-- the line's reading is this one or a later one
abbrev pub IsReadFrom : Journals → Ref → ℕ → Type 0
IsReadFrom js r least = (x : ℕ) × IsReadAt js r x × (least ≤ x)

-- the two lines alone show that the one was written before the other: by their journal, or by clocks that are further
-- apart than both skews
abbrev pub IsPlainlyBefore : Journals → ℕ → Ref → Ref → Type 0
IsPlainlyBefore js skew r s =
    (x : ℕ) × (y : ℕ) × IsReadAt js r x × IsReadAt js s y × (IsLater r s ⊎ (x + skew + skew < y))

-- how they show it
abbrev pub plain_order : Ref → Ref → Precedes
plain_order r s = if is_later r s then Chain (r ∷ s ∷ []) else Clock (r ∷ []) (s ∷ [])

-- ---- grants that carry

-- clocks show that the line was written after the partner's earlier volumes
abbrev pub IsPastPartners : Journals → ℕ → Ref → ℕ → Type 0
IsPastPartners js skew r x =
    HasEarlier js (partner_of r.side) → (y : ℕ) × IsReadAt js (open_of (partner_of r.side)) y × (y + skew + skew < x)

-- the lease is the holder's, of a prefix round the one asked of
abbrev pub IsHolders : Lease → Query → Type 0
IsHolders g q = (g.client ≡ q.holder) × Contains g.prefix q.prefix

-- a grant of the holder's that may carry pieces
pub record IsCandidate (js : Journals) (q : Query) (c : Candidate) : Type 0 where
  pub grants : Grants js c.grant c.lease
  pub read : IsReadAt js c.grant c.reading
  pub holders : IsHolders c.lease q
  pub past : IsPastPartners js q.skew c.grant c.reading

abbrev pub NoCandidateAt : Journals → Query → Ref → Type 0
NoCandidateAt js q r = (c : Candidate) → c.grant ≡ r → IsCandidate js q c → ⊥

-- what gives the lease back doesn't cut it short before this reading
abbrev pub IsKeptTo : Journals → ℕ → Candidate → ℕ → Ref → Type 0
IsKeptTo js skew c least j = IsPlainlyBefore js skew j c.grant ⊎ IsReadFrom js j least

abbrev pub AreKeptTo : Journals → ℕ → Candidate → ℕ → Type 0
AreKeptTo js skew c least = (j : Ref) → GivesBack js j (of_lease c.lease) → IsKeptTo js skew c least j

-- the grant may carry a piece up to this moment (RFC 8415, section 21.22: the valid lifetime)
pub record CarriesTo (js : Journals) (q : Query) (c : Candidate) (to : ℕ) : Type 0 where
  pub within : to ≤ q.to
  pub lasts : (c.lease.valid ≡ infinity) ⊎ (to + q.skew ≤ c.reading + 1000 * c.lease.valid)
  pub kept : AreKeptTo js q.skew c (to + q.skew)

-- the reading up to which the lease lasts, but none past the query
abbrev pub lease_limit : Query → Candidate → ℕ
lease_limit q c =
    if c.lease.valid == infinity then q.to + q.skew else min (q.to + q.skew) (c.reading + 1000 * c.lease.valid)

-- from when on the grant may carry a piece: its answer has reached the client
abbrev pub begin_of : Query → Candidate → ℕ
begin_of q c = c.reading + q.skew + q.transit

-- the line grants what carries this moment
abbrev pub CarriesAt : Journals → Query → ℕ → Ref → Type 0
CarriesAt js q m r =
    (c : Candidate) × (c.grant ≡ r) × IsCandidate js q c × (begin_of q c ≤ m) × CarriesTo js q c (m + 1)

-- a grant with the moments that it carries
pub record IsReach (js : Journals) (q : Query) (x : CarriedSpan) : Type 0 where
  pub candidate : Candidate
  pub is : candidate.grant ≡ x.grant
  pub of : IsCandidate js q candidate
  pub begins : begin_of q candidate ≡ x.begin
  pub ends : (to : ℕ) → CarriesTo js q candidate to ↔ to ≤ x.end

-- each line that carries a moment of the query is among the reaches
abbrev pub HasReach : List CarriedSpan → Ref → Type 0
HasReach xs r = (x : CarriedSpan) × Has xs x × (x.grant ≡ r)

abbrev pub AreAllReaches : Journals → Query → List CarriedSpan → Type 0
AreAllReaches js q xs = (m : ℕ) (r : Ref) → q.from ≤ m → CarriesAt js q m r → HasReach xs r

-- the reaches that carry a moment end with it, or none does
abbrev pub NoneReaches : List CarriedSpan → ℕ → Type 0
NoneReaches xs m = (x : CarriedSpan) → Has xs x → x.begin ≤ m → x.end ≤ m

-- the one that carries the moment and reaches farthest
pub record IsFarthest (xs : List CarriedSpan) (m : ℕ) (z : CarriedSpan) : Type 0 where
  pub has : Has xs z
  pub begins : z.begin ≤ m
  pub ends : m < z.end
  pub most : (x : CarriedSpan) → Has xs x → x.begin ≤ m → x.end ≤ z.end

-- the grants stand in the order in which they begin
abbrev pub AreInOrder : List CarriedSpan → Type 0
AreInOrder xs = IsNonDecreasingBy (λ (x : CarriedSpan). x.begin) xs

-- the first so many begin by the moment, and none of them carries farther than the best
pub record IsPassed (xs : List CarriedSpan) (m : ℕ) (p : SweepState) : Type 0 where
  pub within : p.count ≤ length xs
  pub begun : (k : ℕ) (x : CarriedSpan) → k < p.count → slice_get xs k ≡ Some x → x.begin ≤ m
  pub place : p.best ≤ p.count
  pub some : 0 < p.count → p.best < p.count
  pub most : (k : ℕ) (x z : CarriedSpan) → k < p.count → slice_get xs k ≡ Some x → slice_get xs p.best ≡ Some z
      → x.end ≤ z.end

-- the place of the one of two that carries farther
abbrev pub IsFarther : List CarriedSpan → (best place found : ℕ) → Type 0
IsFarther xs best place found = (x z : CarriedSpan) → slice_get xs best ≡ Some x → slice_get xs place ≡ Some z
    → ((found ≡ place) × (x.end ≤ z.end)) ⊎ ((found ≡ best) × (z.end ≤ x.end))

-- those from this place on begin later
abbrev pub AreLater : List CarriedSpan → ℕ → ℕ → Type 0
AreLater xs m count = (k : ℕ) (x : CarriedSpan) → count ≤ k → slice_get xs k ≡ Some x → m < x.begin

-- no grant carries some moment of the query
pub record HasGap (js : Journals) (q : Query) : Type 0 where
  pub moment : ℕ
  pub from : q.from ≤ moment
  pub to : moment < q.to
  pub bare : (r : Ref) → CarriesAt js q moment r → ⊥

-- ---- pieces

-- why a release doesn't cut a piece of the grant short
abbrev pub IsPlainEntry : Journals → ℕ → (release grant : Ref) → ClearReason → Type 0
IsPlainEntry js skew j r why =
    (IsPlainlyBefore js skew j r × (why ≡ Before (plain_order j r)))
    ⊎ ((IsPlainlyBefore js skew j r → ⊥) × (why ≡ After (j ∷ [])))

abbrev pub HasEntry : Journals → ℕ → Ref → List Clear → Ref → Type 0
HasEntry js skew r clear j = (k : Clear) × Has clear k × (k.release ≡ j) × IsPlainEntry js skew j r k.why

-- each release of what the grant gave has its entry
abbrev pub AreEntries : Journals → ℕ → Ref → List Clear → Type 0
AreEntries js skew r clear =
    (g : Lease) (j : Ref) → Grants js r g → GivesBack js j (of_lease g) → HasEntry js skew r clear j

-- a piece from this moment on, which single lines show
abbrev pub piece_with : Ref → (from to : ℕ) → List Clear → Piece
piece_with r from to clear = record {
  grant = r;
  from = from;
  to = to;
  latest = r ∷ [];
  earliest = r ∷ [];
  clear = clear;
}

-- what a reach carries from this moment on
pub record IsPieceOf (js : Journals) (skew : ℕ) (x : CarriedSpan) (from : ℕ) (p : Piece) : Type 0 where
  pub clear : List Clear
  pub is : p ≡ piece_with x.grant from x.end clear
  pub entries : AreEntries js skew x.grant clear

pub record IsFound (js : Journals) (q : Query) (p : Piece) : Type 0 where
  pub reach : CarriedSpan
  pub from : ℕ
  pub of : IsReach js q reach
  pub begun : reach.begin ≤ from
  pub is : IsPieceOf js q.skew reach from p

-- pieces from the query's beginning up to this moment
pub record ReachTo (js : Journals) (q : Query) (m : ℕ) (ps : List Piece) : Type 0 where
  pub tiled : Tile q.from m ps
  pub found : All (IsFound js q) ps

-- pieces from the query's beginning on have more lines than there is room for
abbrev pub ArePiecesOver : Journals → Query → ℕ → Type 0
ArePiecesOver js q room = (m : ℕ) × (ps : List Piece) × ReachTo js q m ps × (room < lines_of_all ps)

-- ---- other clients

-- the delegation is another client's, of a prefix that overlaps the one asked of
abbrev pub IsAnothers : Delegation → Query → Type 0
IsAnothers d q = (d.client ≢ q.holder) × Overlaps d.prefix q.prefix

-- the line tells of it
abbrev pub IsOthersAt : Journals → Query → Ref → Delegation → Type 0
IsOthersAt js q r d = Tells js r d × IsAnothers d q

-- the release was plainly written after the line, and by the query's beginning
abbrev pub IsReturnedBy : Journals → Query → (at release : Ref) → Type 0
IsReturnedBy js q at release =
    IsPlainlyBefore js q.skew at release × ((x : ℕ) × IsReadAt js release x × (x + q.skew ≤ q.from))

abbrev pub IsAside : Journals → Query → Ref → Delegation → Reason → Type 0
IsAside js q r d reason = IsOutside js q.skew q.transit r d q.from q.to reason

-- no plain reason shows that the delegation stays out of the interval
abbrev pub HasNoReason : Journals → Query → Ref → Delegation → Type 0
HasNoReason js q r d = (reason : Reason) → IsPlainReason reason → IsAside js q r d reason → ⊥

abbrev pub IsReasoned : Journals → Query → Foreign → Type 0
IsReasoned js q f = (d : Delegation) × Tells js f.grant d × IsAside js q f.grant d f.reason

abbrev pub IsNamedIn : List Foreign → Ref → Type 0
IsNamedIn fs r = (f : Foreign) × Has fs f × (f.grant ≡ r)

-- the entries of all such lines
pub record AreForeign (js : Journals) (q : Query) (fs : List Foreign) : Type 0 where
  pub reasoned : All (IsReasoned js q) fs
  pub named : (r : Ref) (d : Delegation) → IsOthersAt js q r d → IsNamedIn fs r

-- some such line has no plain reason
pub record IsInTheWay (js : Journals) (q : Query) : Type 0 where
  pub line : Ref
  pub delegation : Delegation
  pub other : IsOthersAt js q line delegation
  pub none : HasNoReason js q line delegation
