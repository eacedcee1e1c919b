-- An answer as one object.
use Rattle.std.specs.Prelude.{◌≡◌, ℕ, List, Option, Some, None, codes}
use Rattle.serde_json.specs.Data.{Data, null, no_members}
use Rattle.text_fields.specs.Octets.{hex}
use Rattle.report_data.specs.Fields.{IsText, IsLineOf}
use Rattle.report_data.specs.Rulings.{With, IsObject, IsCount, IsTime}
use Rattle.answer_data.specs.declared.parts.NamedHolder.{NamedHolder}
use Rattle.answer_data.specs.Members.{IsString}
use Rattle.answer_data.specs.Parts.{Said}
use Rattle.answer_data.specs.Texts.{AreTexts, lines_in}
use Rattle.answer_data.specs.Volumes.{IsVolumesData}

-- who held a prefix; null where nobody is named
abbrev pub IsHolder : Option NamedHolder → Data → Type 0
IsHolder None d = d ≡ null
IsHolder (Some named) d = IsText (hex named.client) d

-- from when
abbrev pub IsFrom : Option NamedHolder → Data → Type 0
IsFrom None d = d ≡ null
IsFrom (Some named) d = IsTime named.from d

-- up to when
abbrev pub IsTo : Option NamedHolder → Data → Type 0
IsTo None d = d ≡ null
IsTo (Some named) d = IsTime named.to d

-- what an answer says on a command, with its status and the lines of standard error
abbrev pub IsAnswerData : (command : List ℕ) → (status : ℕ) → Said → (notes : List ℕ) → Data → Type 0
IsAnswerData command status s notes d = With (codes "format") (IsCount 1) (With (codes "command") (IsString command)
    (With (codes "status") (IsCount status) (With (codes "lines") (AreTexts s.lines)
    (With (codes "holder") (IsHolder s.named) (With (codes "from") (IsFrom s.named) (With (codes "to") (IsTo s.named)
    (With (codes "certificates") (AreTexts s.certificates) (With (codes "access") (AreTexts s.access)
    (With (codes "notes") (AreTexts (lines_in notes)) (With (codes "volumes") (IsVolumesData s.volumes)
    (IsObject d))))))))))) no_members

-- as a line
abbrev pub IsAnswerLine : (command : List ℕ) → (status : ℕ) → Said → (notes text : List ℕ) → Type 0
IsAnswerLine command status s notes text = (d : Data) × IsAnswerData command status s notes d × IsLineOf d text
