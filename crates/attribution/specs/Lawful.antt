-- What the headline needs of a server's volumes, and no more.
use Rattle.std.specs.Prelude.{◌≡◌, ℕ, ◌+◌, ◌*◌, ◌<◌, ◌≤◌, ◌⊎◌, List, Some, slice_get, length}
use Rattle.binding_rules.specs.declared.role.Role.{Role}
use Rattle.binding_rules.specs.declared.message.PartnerMessage.{PartnerMessage}
use Rattle.journal_lines.specs.declared.kept.Carried.{Carried}
use Rattle.journal_lines.specs.declared.event.Lease.{Lease}
use Rattle.journal_lines.specs.declared.event.Event.TheVariants.{Carry, Grant, Release, Send}
use Rattle.journal_lines.specs.declared.line.Line.{Line}
use Rattle.book_rules.specs.NextHead.{IsSameLease, AreLegal}
use Rattle.attribution.specs.declared.delegation.Delegation.{Delegation}
use Rattle.attribution.specs.Delegation.{of_lease, of_carried}

-- the delegation is this client's, of this prefix under this identity association
abbrev pub IsOf : Carried → Delegation → Type 0
IsOf c d = IsSameLease c d.client d.iaid d.prefix

-- What volume w, at index m, knows of a delegation that line k of volume n gave up to c's end: it carries it, it opens
-- past that end, or an earlier volume has a later line that gives it back.
unfoldable pub StillCarried : List Line → Carried → Type 0
StillCarried w c = (k : ℕ) × (l : Line) × (d : Carried) × (slice_get w k ≡ Some l) × (l.event ≡ Carry d)
    × IsOf d (of_carried c) × (c.end ≤ d.end)

unfoldable pub Ended : List Line → Carried → Type 0
Ended w c = (l : Line) × (slice_get w 0 ≡ Some l) × (c.end ≤ l.reading)

unfoldable pub GivenUp : List (List Line) → (n k m : ℕ) → Carried → Type 0
GivenUp vs n k m c = (i : ℕ) × (j : ℕ) × (v : List Line) × (l : Line) × (i < m) × ((n < i) ⊎ ((n ≡ i) × (k < j)))
    × (slice_get vs i ≡ Some v) × (slice_get v j ≡ Some l) × (l.event ≡ Release c.client c.iaid c.prefix)

abbrev pub Accounted : List (List Line) → (n k m : ℕ) → List Line → Carried → Type 0
Accounted vs n k m w c = StillCarried w c ⊎ (Ended w c ⊎ GivenUp vs n k m c)

-- Three facts of a server's volumes: a serial that the last of them sends is sent once, leases are finite, and each
-- volume accounts for what earlier ones granted.
pub record Lawful (vs : List (List Line)) : Type 0 where
  pub once : (n m j k : ℕ) (v w : List Line) (l o : Line) (x y : PartnerMessage) → m + 1 ≡ length vs
      → slice_get vs n ≡ Some v → slice_get vs m ≡ Some w
      → slice_get v j ≡ Some l → l.event ≡ Send x → slice_get w k ≡ Some o → o.event ≡ Send y → x.serial ≡ y.serial
      → (n ≡ m) × (j ≡ k)
  pub finite : (n k : ℕ) (v : List Line) (l : Line) (g : Lease) → slice_get vs n ≡ Some v → slice_get v k ≡ Some l
      → l.event ≡ Grant g → g.valid ≤ 31536000
  pub accounted : (m n k : ℕ) (v w : List Line) (l : Line) (g : Lease) (c : Carried) → n < m
      → slice_get vs n ≡ Some v → slice_get vs m ≡ Some w → slice_get v k ≡ Some l → l.event ≡ Grant g
      → IsOf c (of_lease g) → c.end ≡ l.reading + 1000 * g.valid → Accounted vs n k m w c

-- volumes that the pair's rules allow are such
abbrev pub LegalIsLawful : Type 0
LegalIsLawful = (side : Role) (volumes : List (List Line)) → AreLegal side volumes → Lawful volumes
