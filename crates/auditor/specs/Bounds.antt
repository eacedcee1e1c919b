-- What chains show of the moments at which a line was written, and how long a lease lasts from there, in milliseconds.
use Rattle.std.specs.Prelude.{◌≡◌, ◌≢◌, ℕ, ◌+◌, ◌*◌, ◌≤◌, ◌⊎◌, List, Option, Some, None, ℤ, pos, ◌+ℤ◌, ◌≤ℤ◌}
use Rattle.causal_order.specs.declared.reference.Ref.{Ref}
use Rattle.causal_order.specs.Journals.{Journals}
use Rattle.causal_order.specs.Order.{WrittenBy, WrittenFrom}
use Rattle.prefix_range.specs.Prefix.{Prefix, Contains}
use Rattle.journal_lines.specs.declared.event.Lease.{Lease}
use Rattle.causal_order.specs.declared.certificate.Certificate.{Certificate}
use Rattle.causal_order.specs.declared.certificate.Piece.{Piece}
use Rattle.attribution.specs.declared.delegation.Delegation.{Delegation}
use Rattle.attribution.specs.declared.delegation.Lasting.{Lasting}
use Rattle.attribution.specs.declared.delegation.Lasting.TheVariants.{For, Until}
use Rattle.attribution.specs.Acceptance.{EndsBy}
use Rattle.attribution.specs.Run.{infinity}

-- the chain shows that the line was written by this moment; or it is no chain from the line
abbrev pub IsLatestAt : Journals → List Ref → Ref → ℕ → Option ℤ → Type 0
IsLatestAt js chain at skew None = (x : ℕ) → WrittenBy js chain at x → ⊥
IsLatestAt js chain at skew (Some m) = (x : ℕ) × WrittenBy js chain at x × (m ≡ pos (x + skew))

-- the chain shows that the line was written at this moment or later; or it is no chain to the line
abbrev pub IsEarliestAt : Journals → List Ref → Ref → ℕ → Option ℤ → Type 0
IsEarliestAt js chain at skew None = (x : ℕ) → WrittenFrom js chain at x → ⊥
IsEarliestAt js chain at skew (Some m) = (x : ℕ) × WrittenFrom js chain at x × (m +ℤ pos skew ≡ pos x)

-- what is granted at this moment for this lifetime, in seconds, lasts to the other moment (RFC 8415, section 21.22)
abbrev pub LastsTo : ℕ → ℤ → ℕ → Type 0
LastsTo valid granted to = (valid ≡ infinity) ⊎ (pos to ≤ℤ (granted +ℤ pos (1000 * valid)))

-- what was told of by this moment has ended by the other one, its answer's transit counted
abbrev pub IsSurelyOver : Lasting → ℤ → (skew transit moment : ℕ) → Type 0
IsSurelyOver (For valid) granted skew transit moment =
    (valid ≢ infinity) × ((granted +ℤ pos (transit + 1000 * valid)) ≤ℤ pos moment)
IsSurelyOver (Until end) granted skew transit moment = end + skew + transit ≤ moment

-- What a chain shows of a line, and of the lease that it grants.
abbrev pub IsWrittenBy : Journals → List Ref → Ref → ℕ → ℕ → Type 0
IsWrittenBy js chain at skew moment = (x : ℕ) × WrittenBy js chain at x × (x + skew ≤ moment)

abbrev pub IsReachedBy : Journals → List Ref → Ref → (skew transit moment : ℕ) → Type 0
IsReachedBy js chain at skew transit moment = (x : ℕ) × WrittenBy js chain at x × (x + skew + transit ≤ moment)

abbrev pub IsWrittenFrom : Journals → List Ref → Ref → ℕ → ℕ → Type 0
IsWrittenFrom js chain at skew moment = (x : ℕ) × WrittenFrom js chain at x × (moment + skew ≤ x)

abbrev pub IsOver : Journals → List Ref → Ref → Lasting → (skew transit moment : ℕ) → Type 0
IsOver js chain at lasting skew transit moment =
    (x : ℕ) × WrittenBy js chain at x × EndsBy skew transit x moment lasting

abbrev pub IsLasting : Journals → List Ref → Ref → ℕ → ℕ → ℕ → Type 0
IsLasting js chain grant valid skew moment =
    (x : ℕ) × WrittenFrom js chain grant x × ((valid ≡ infinity) ⊎ (moment + skew ≤ x + 1000 * valid))

-- the lease is the holder's, of a prefix round the one asked of
abbrev pub IsHolders : Lease → Certificate → Type 0
IsHolders g c = (g.client ≡ c.holder) × Contains g.prefix c.prefix

-- the delegation is this client's, for this identity association, of this prefix
abbrev pub IsDelegationOf : Delegation → (client : List ℕ) → (iaid : ℕ) → Prefix → Type 0
IsDelegationOf d client iaid prefix = (client ≡ d.client) × (iaid ≡ d.iaid) × (prefix ≡ d.prefix)

-- the lease is valid from the piece's beginning to its end
abbrev pub IsValidThroughout : Journals → Piece → Lease → (skew transit : ℕ) → Type 0
IsValidThroughout js p g skew transit =
    IsReachedBy js p.latest p.grant skew transit p.from × IsLasting js p.earliest p.grant g.valid skew p.to
