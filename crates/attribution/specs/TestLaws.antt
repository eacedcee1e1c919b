-- The tests decide: each is true exactly where what it is for holds.
use Rattle.std.specs.Prelude.{ℕ}
use Rattle.std.specs.Bool.{Decides}
use Rattle.causal_order.specs.declared.reference.Ref.{Ref}
use Rattle.causal_order.specs.Journals.{Journals}
use Rattle.causal_order.specs.declared.certificate.Certificate.{Certificate}
use Rattle.causal_order.specs.declared.certificate.Piece.{Piece}
use Rattle.attribution.specs.declared.delegation.Lasting.{Lasting}
use Rattle.attribution.specs.Acceptance.{IsPastOpen, EndsBy, Discharges, IsNamed}
use Rattle.attribution.specs.Tests.{is_past_open, ends_by, discharges, is_named}

-- earlier volumes
abbrev pub OpenDecided : Type 0
OpenDecided = (js : Journals) (skew transit : ℕ) (c : Certificate)
    → Decides (is_past_open js skew transit c) (IsPastOpen js skew transit c)

abbrev pub EndsDecided : Type 0
EndsDecided = (skew transit reading from : ℕ) (l : Lasting)
    → Decides (ends_by skew transit reading from l) (EndsBy skew transit reading from l)

abbrev pub ClearsDecided : Type 0
ClearsDecided =
    (js : Journals) (skew : ℕ) (p : Piece) (r : Ref) → Decides (discharges js skew p r) (Discharges js skew p r)

abbrev pub NamesDecided : Type 0
NamesDecided = (c : Certificate) (r : Ref) → Decides (is_named c r) (IsNamed c r)
