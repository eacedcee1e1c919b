-- What stands in the members of answers.
use Rattle.std.specs.Prelude.{◌≡◌, ℕ, List, Option, Some, None}
use Rattle.serde_json.specs.Data.{Data, null, string}
use Rattle.binding_rules.specs.declared.role.Role.{Role}
use Rattle.causal_order.specs.declared.reference.Ref.{Ref}
use Rattle.attribution.specs.VerdictText.{side_text, place_text}
use Rattle.report_data.specs.Fields.{IsText}
use Rattle.report_data.specs.Rulings.{IsTime}

-- this text, which is one of UTF-8
abbrev pub IsString : List ℕ → Data → Type 0
IsString text d = d ≡ string text

abbrev pub IsSide : Role → Data → Type 0
IsSide side d = IsString (side_text side) d

-- a line, as A3
abbrev pub IsLine : Ref → Data → Type 0
IsLine at d = IsText (place_text at.side at.number) d

-- a moment, or null
abbrev pub IsMoment : Option ℕ → Data → Type 0
IsMoment None d = d ≡ null
IsMoment (Some moment) d = IsTime moment d
