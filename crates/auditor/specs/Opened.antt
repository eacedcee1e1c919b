-- What is asked of a piece and of the interval where a side has earlier volumes.
use Rattle.std.specs.Prelude.{◌≡◌, ℕ, ◌+◌, ◌<◌, List, Contains as Has}
use Rattle.binding_rules.specs.declared.role.Role.{Role}
use Rattle.journal_lines.specs.declared.line.Line.{Line}
use Rattle.causal_order.specs.declared.certificate.Certificate.{Certificate}
use Rattle.causal_order.specs.declared.certificate.Piece.{Piece}
use Rattle.causal_order.specs.declared.reference.Ref.{Ref}
use Rattle.causal_order.specs.Journals.{Journals, open_of, Names}
use Rattle.causal_order.specs.Order.{WrittenFrom}
use Rattle.attribution.specs.Acceptance.{HasEarlier, IsAfterOpen}

abbrev pub HasLineOf : List Ref → Role → Type 0
HasLineOf chain side = (r : Ref) × Has chain r × (r.side ≡ side)

abbrev pub IsClearOfOpen : Journals → ℕ → Piece → Role → Type 0
IsClearOfOpen js skew p side = (l : Line) × Names js (open_of side) l
    × ((x : ℕ) × WrittenFrom js p.earliest p.grant x × (l.reading + skew + skew < x))

pub record IsPastOwn (js : Journals) (skew transit : ℕ) (c : Certificate) (side : Role) : Type 0 where
  pub after : HasEarlier js side → IsAfterOpen js skew transit c.from side
