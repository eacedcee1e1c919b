-- What an accepted certificate shows.
use Rattle.std.specs.Prelude.{◌≡◌, ◌≢◌, ℕ, ◌+◌, ◌*◌, ◌<◌, ◌≤◌, ◌⊎◌, ⊤, List, [], ◌∷◌, Some, All, Contains as Has}
use Rattle.prefix_range.specs.Prefix.{HasAddress, Contains, Overlaps}
use Rattle.binding_rules.specs.declared.role.Role.{Role}
use Rattle.binding_rules.specs.declared.role.Role.TheVariants.{Primary, Secondary}
use Rattle.binding_rules.specs.Role.{partner_of}
use Rattle.journal_lines.specs.declared.event.Event.TheVariants.{Grant, Release, Close}
use Rattle.journal_lines.specs.declared.event.Lease.{Lease}
use Rattle.journal_lines.specs.declared.line.Line.{Line}
use Rattle.causal_order.specs.declared.reference.Ref.{Ref}
use Rattle.causal_order.specs.Journals.{Journals, journal_of, volume_of, open_of, Names}
use Rattle.causal_order.specs.Order.{IsSurelyBefore, WrittenBy, WrittenFrom}
use Rattle.causal_order.specs.declared.certificate.Certificate.{Certificate}
use Rattle.causal_order.specs.declared.certificate.Piece.{Piece}
use Rattle.causal_order.specs.declared.certificate.Clear.{Clear}
use Rattle.causal_order.specs.declared.certificate.ClearReason.{ClearReason}
use Rattle.causal_order.specs.declared.certificate.ClearReason.TheVariants.{Before, After}
use Rattle.causal_order.specs.declared.certificate.Foreign.{Foreign}
use Rattle.causal_order.specs.declared.certificate.Reason.{Reason}
use Rattle.causal_order.specs.declared.certificate.Reason.TheVariants.{Early, Late, Released}
use Rattle.attribution.specs.declared.delegation.Delegation.{Delegation}
use Rattle.attribution.specs.declared.delegation.Lasting.{Lasting}
use Rattle.attribution.specs.declared.delegation.Lasting.TheVariants.{For, Until}
use Rattle.attribution.specs.Delegation.{of_lease, told_by}
use Rattle.attribution.specs.Run.{Step, IsRun, KeepsSkew, Leaves, StartInTime, Holds, HoldsWhole, infinity}

-- the line grants the lease
abbrev pub Grants : Journals → Ref → Lease → Type 0
Grants js r g = (l : Line) × Names js r l × (l.event ≡ Grant g)

-- the line grants the delegation, or carries it from earlier volumes
abbrev pub Tells : Journals → Ref → Delegation → Type 0
Tells js r d = (l : Line) × Names js r l × (told_by l.event ≡ Some d)

-- the line gives the delegation back
abbrev pub GivesBack : Journals → Ref → Delegation → Type 0
GivesBack js r d = (l : Line) × Names js r l × (l.event ≡ Release d.client d.iaid d.prefix)

-- the release came before the grant, or not before the piece's end
abbrev pub IsCleared : Journals → ℕ → (release grant : Ref) → (to : ℕ) → ClearReason → Type 0
IsCleared js skew release grant to (Before order) = IsSurelyBefore js skew order release grant
IsCleared js skew release grant to (After chain) = (x : ℕ) × WrittenFrom js chain release x × (to + skew ≤ x)

-- The piece's grant is the holder's, of a prefix round the one asked of; its answer was there by the piece's beginning,
-- and it lasts to the piece's end (RFC 8415, section 21.22).
pub record IsGranted (js : Journals) (skew transit : ℕ) (c : Certificate) (p : Piece) : Type 0 where
  pub lease : Lease
  pub grants : Grants js p.grant lease
  pub holder : lease.client ≡ c.holder
  pub round : Contains lease.prefix c.prefix
  pub latest : ℕ
  pub written_by : WrittenBy js p.latest p.grant latest
  pub begun : latest + skew + transit ≤ p.from
  pub earliest : ℕ
  pub written_from : WrittenFrom js p.earliest p.grant earliest
  pub lasts : (lease.valid ≡ infinity) ⊎ (p.to + skew ≤ earliest + 1000 * lease.valid)

-- a clear entry of the piece discharges the release
abbrev pub Discharges : Journals → ℕ → Piece → Ref → Type 0
Discharges js skew p r = (k : Clear) × Has p.clear k × (k.release ≡ r) × IsCleared js skew r p.grant p.to k.why

-- each line that gives back what the piece's grant gave is discharged
abbrev pub IsDischarged : Journals → ℕ → Piece → Type 0
IsDischarged js skew p =
    (r : Ref) (g : Lease) → Grants js p.grant g → GivesBack js r (of_lease g) → Discharges js skew p r

-- the grant carries the piece
abbrev pub IsCarried : Journals → (skew transit : ℕ) → Certificate → Piece → Type 0
IsCarried js skew transit c p = IsGranted js skew transit c p × IsDischarged js skew p

-- the pieces have positive length, and lie end to end from the one moment to the other
abbrev pub Tile : ℕ → ℕ → List Piece → Type 0
Tile from to [] = from ≡ to
Tile from to (p ∷ ps) = (p.from ≡ from) × (p.from < p.to) × Tile p.to to ps

-- ---- earlier volumes

-- the side has some
abbrev pub HasEarlier : Journals → Role → Type 0
HasEarlier js side = 1 < volume_of js side

-- by this moment the side's journal was open, and the answers of earlier volumes had reached their clients
abbrev pub IsAfterOpen : Journals → (skew transit moment : ℕ) → Role → Type 0
IsAfterOpen js skew transit moment side =
    (l : Line) × Names js (open_of side) l × (l.reading + skew + transit ≤ moment)

-- the piece's grant came surely after the side's open line: its chain has a line of that side, or clocks show it
abbrev pub IsGrantedAfterOpen : Journals → ℕ → Piece → Role → Type 0
IsGrantedAfterOpen js skew p side =
    ((r : Ref) × Has p.earliest r × (r.side ≡ side))
    ⊎ ((l : Line) × Names js (open_of side) l
    × ((x : ℕ) × WrittenFrom js p.earliest p.grant x × (l.reading + skew + skew < x)))

-- where the partner of the server that granted has earlier volumes, the piece's grant came surely behind them
pub record IsPastPartner (js : Journals) (skew : ℕ) (p : Piece) : Type 0 where
  pub after : HasEarlier js (partner_of p.grant.side) → IsGrantedAfterOpen js skew p (partner_of p.grant.side)

-- Nothing of earlier volumes touches the interval but what these journals carry, and no release of theirs gives back
-- what a piece's grant gave.
pub record IsPastOpen (js : Journals) (skew transit : ℕ) (c : Certificate) : Type 0 where
  pub interval : (side : Role) → HasEarlier js side → IsAfterOpen js skew transit c.from side
  pub pieces : All (IsPastPartner js skew) c.pieces

-- ---- other clients

-- what was told of at this reading ended by `from`
abbrev pub EndsBy : (skew transit reading from : ℕ) → Lasting → Type 0
EndsBy skew transit reading from (For seconds) =
    (seconds ≢ infinity) × (reading + skew + transit + 1000 * seconds ≤ from)
EndsBy skew transit reading from (Until end) = end + skew + transit ≤ from

-- it began where it is told of: what is carried began before, and doesn't show when
abbrev pub IsNew : Lasting → Type 0
IsNew (For seconds) = ⊤
IsNew (Until end) = ⊥

-- the delegation, told of at r, does not touch [from, to): it ended before, began after, or was given back before
abbrev pub IsOutside : Journals → (skew transit : ℕ) → Ref → Delegation → (from to : ℕ) → Reason → Type 0
IsOutside js skew transit r d from to (Early chain) =
    (x : ℕ) × WrittenBy js chain r x × EndsBy skew transit x from d.lasting
IsOutside js skew transit r d from to (Late chain) =
    IsNew d.lasting × ((x : ℕ) × WrittenFrom js chain r x × (to + skew ≤ x))
IsOutside js skew transit r d from to (Released release order chain) =
    GivesBack js release d × IsSurelyBefore js skew order r release
    × ((x : ℕ) × WrittenBy js chain release x × (x + skew ≤ from))

-- the line tells of another client's delegation of a prefix that overlaps the one asked of
abbrev pub IsForeign : Journals → Certificate → Ref → Delegation → Type 0
IsForeign js c r d = Tells js r d × (d.client ≢ c.holder) × Overlaps d.prefix c.prefix

abbrev pub IsNamed : Certificate → Ref → Type 0
IsNamed c r = (f : Foreign) × Has c.foreign f × (f.grant ≡ r)

-- each such line is named by a foreign entry
abbrev pub IsCovered : Journals → Certificate → Type 0
IsCovered js c = (r : Ref) (d : Delegation) → IsForeign js c r d → IsNamed c r

-- the entry names a line that tells of a delegation, and its reason holds
abbrev pub ReasonHolds : Journals → (skew transit : ℕ) → Certificate → Foreign → Type 0
ReasonHolds js skew transit c f =
    (d : Delegation) × Tells js f.grant d × IsOutside js skew transit f.grant d c.from c.to f.reason

-- ---- all of it

-- a line at or past this reading closes the journal
abbrev pub ClosesFrom : List Line → ℕ → Type 0
ClosesFrom lines reading = (l : Line) × Has lines l × (l.event ≡ Close) × (reading ≤ l.reading)

-- the side's journal shows all of the interval
abbrev pub Reaches : Journals → ℕ → Certificate → Role → Type 0
Reaches js skew c side = ClosesFrom (journal_of js side) (c.to + skew)

pub record IsAccepted (js : Journals) (skew transit : ℕ) (c : Certificate) : Type 0 where
  pub interval : c.from < c.to
  pub closed : (side : Role) → Reaches js skew c side
  pub tiled : Tile c.from c.to c.pieces
  pub some : c.pieces ≢ []
  pub carried : All (IsCarried js skew transit c) c.pieces
  pub opened : IsPastOpen js skew transit c
  pub covered : IsCovered js c
  pub outside : All (ReasonHolds js skew transit c) c.foreign

-- That client had a valid delegation of the whole prefix at every moment of the interval, and no other client had a
-- valid delegation of any address in it.
pub record IsTrueIn (run : List Step) (starts : ℕ → ℕ) (c : Certificate) : Type 0 where
  pub held : (m : ℕ) → c.from ≤ m → m < c.to → HoldsWhole run starts c.prefix c.holder m
  pub alone : (m address : ℕ) (client : List ℕ) → c.from ≤ m → m < c.to → HasAddress c.prefix address
      → Holds run starts address client m → client ≡ c.holder

-- True in every run of the pair that leaves these journals, with each clock within the skew of true time and each
-- answer within the transit.
abbrev pub IsTrueInEveryRun :
    (Role → List (List Line) → Type 0) → Journals → (skew transit : ℕ) → Certificate → Type 0
IsTrueInEveryRun AreLegal js skew transit c =
    (run : List Step) → IsRun AreLegal (volume_of js) run → KeepsSkew skew (volume_of js) run
    → Leaves run Primary js.a → Leaves run Secondary js.b
    → (starts : ℕ → ℕ) → StartInTime transit run starts → IsTrueIn run starts c

-- the headline: what is accepted is true
abbrev pub AcceptedIsTrue : (Role → List (List Line) → Type 0) → Type 0
AcceptedIsTrue AreLegal = (js : Journals) (skew transit : ℕ) (c : Certificate)
    → IsAccepted js skew transit c → IsTrueInEveryRun AreLegal js skew transit c
