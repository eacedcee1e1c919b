-- For bodies only: tests that decide what a certificate is judged by. Each is true exactly where its relation holds.
use Rattle.std.specs.Prelude.{ℕ, ◌+◌, ◌*◌, ◌/◌, ◌^◌, min, max, Bool, false, not, ◌&&◌, ◌||◌, ◌==◌, nat_le, nat_lt}
use Rattle.std.specs.Prelude.{Option, Some, None}
use Rattle.std.specs.List.{list_any, list_all}
use Rattle.std.specs.Str.{bytes_eq}
use Rattle.binding_rules.specs.declared.role.Role.{Role}
use Rattle.binding_rules.specs.declared.role.Role.TheVariants.{Primary, Secondary}
use Rattle.binding_rules.specs.Role.{partner_of, is_side}
use Rattle.prefix_range.specs.Prefix.{Prefix, size_of}
use Rattle.journal_lines.specs.declared.event.Event.{Event}
use Rattle.journal_lines.specs.declared.event.Event.TheVariants.{Grant, Release}
use Rattle.journal_lines.specs.declared.event.Lease.{Lease}
use Rattle.journal_lines.specs.declared.line.Line.{Line}
use Rattle.causal_order.specs.declared.reference.Ref.{Ref}
use Rattle.causal_order.specs.Journals.{Journals, volume_of, open_of, line_of}
use Rattle.causal_order.specs.Tests.{some_and, in_line, same_ref, same_prefix, written_from, precedes}
use Rattle.causal_order.specs.declared.certificate.Certificate.{Certificate}
use Rattle.causal_order.specs.declared.certificate.Piece.{Piece}
use Rattle.causal_order.specs.declared.certificate.ClearReason.{ClearReason}
use Rattle.causal_order.specs.declared.certificate.ClearReason.TheVariants.{Before, After}
use Rattle.attribution.specs.declared.delegation.Delegation.{Delegation}
use Rattle.attribution.specs.declared.delegation.Lasting.{Lasting}
use Rattle.attribution.specs.declared.delegation.Lasting.TheVariants.{For, Until}
use Rattle.attribution.specs.Delegation.{told_by}
use Rattle.attribution.specs.Run.{infinity}

abbrev pub granted_by : Event → Option Lease
granted_by (Grant g) = Some g
granted_by _ = None

-- the lease that a line grants
abbrev pub granted_at : Option Line → Option Lease
granted_at o = in_line granted_by o

abbrev pub lease_of : Journals → Ref → Option Lease
lease_of js r = granted_at (line_of js r)

-- the delegation that it tells of
abbrev pub told_at : Option Line → Option Delegation
told_at o = in_line told_by o

abbrev pub delegation_of : Journals → Ref → Option Delegation
delegation_of js r = told_at (line_of js r)

-- the event gives the delegation back
abbrev pub is_release_of : Delegation → Event → Bool
is_release_of d (Release client iaid prefix) =
    bytes_eq client d.client && ((iaid == d.iaid) && same_prefix prefix d.prefix)
is_release_of d _ = false

-- The first address of a prefix, and the one past its last.
abbrev pub first_of : Prefix → ℕ
first_of p = p.address / size_of p.length * size_of p.length

abbrev pub past_of : Prefix → ℕ
past_of p = first_of p + size_of p.length

-- one prefix holds another, and two prefixes meet, by their end points
abbrev pub contains : Prefix → Prefix → Bool
contains p q =
    nat_le (2 ^ 128) (first_of q)
    || (nat_le (first_of p) (first_of q) && nat_le (min (past_of q) (2 ^ 128)) (past_of p))

abbrev pub overlaps : Prefix → Prefix → Bool
overlaps p q = nat_lt (max (first_of p) (first_of q)) (min (min (past_of p) (past_of q)) (2 ^ 128))

abbrev pub is_cleared : Journals → ℕ → (release grant : Ref) → (to : ℕ) → ClearReason → Bool
is_cleared js skew release grant to (Before order) = precedes js skew order release grant
is_cleared js skew release grant to (After chain) = written_from js chain release (λ x. nat_le (to + skew) x)

abbrev pub discharges : Journals → ℕ → Piece → Ref → Bool
discharges js skew p r = list_any (λ k. same_ref k.release r && is_cleared js skew r p.grant p.to k.why) p.clear

-- ---- earlier volumes

abbrev pub is_after_open : Journals → (skew transit moment : ℕ) → Role → Bool
is_after_open js skew transit moment side =
    some_and (line_of js (open_of side)) (λ l. nat_le (l.reading + skew + transit) moment)

abbrev pub is_granted_after_open : Journals → ℕ → Piece → Role → Bool
is_granted_after_open js skew p side =
    list_any (λ r. is_side side r.side) p.earliest
    || some_and (line_of js (open_of side))
    (λ l. written_from js p.earliest p.grant (λ x. nat_lt (l.reading + skew + skew) x))

-- a test that counts where the side has earlier volumes
abbrev pub if_earlier : Journals → Role → Bool → Bool
if_earlier js side b = nat_le (volume_of js side) 1 || b

abbrev pub is_past_partner : Journals → ℕ → Piece → Bool
is_past_partner js skew p =
    if_earlier js (partner_of p.grant.side) (is_granted_after_open js skew p (partner_of p.grant.side))

abbrev pub is_past_open : Journals → (skew transit : ℕ) → Certificate → Bool
is_past_open js skew transit c =
    if_earlier js Primary (is_after_open js skew transit c.from Primary)
    && (if_earlier js Secondary (is_after_open js skew transit c.from Secondary)
    && list_all (is_past_partner js skew) c.pieces)

-- ---- other clients

abbrev pub ends_by : (skew transit reading from : ℕ) → Lasting → Bool
ends_by skew transit reading from (For seconds) =
    not (seconds == infinity) && nat_le (reading + skew + transit + 1000 * seconds) from
ends_by skew transit reading from (Until end) = nat_le (end + skew + transit) from

abbrev pub is_named : Certificate → Ref → Bool
is_named c r = list_any (λ f. same_ref f.grant r) c.foreign
