-- The facts of a page: what was asked, and for which case, by whom and when.
use Rattle.std.specs.Prelude.{◌≡◌, ℕ, List, [], ◌∷◌, ◌++◌, Option, Some, None}
use Rattle.std.specs.Borrow.{Bor}
use Rattle.prefix_range.specs.Text.{prefix_text}
use Rattle.zone_times.specs.declared.zone.ZoneFile.{ZoneFile}
use Rattle.report_render.specs.declared.facts.PageQuestion.{PageQuestion}
use Rattle.report_render.specs.declared.facts.PageFacts.{PageFacts}
use Rattle.report_render.specs.declared.template.PagePart.{PagePart}
use Rattle.report_render.specs.declared.template.PagePart.TheVariants as part
use Rattle.report_render.specs.Spelling.{IsMomentText}
use Rattle.report_render.specs.Escaping.{escaped}
use Rattle.report_render.specs.Template.{part_text}

-- the moment of a question, in UTC and in local time
abbrev pub IsAskedText : Option (Bor ZoneFile) → Option PageQuestion → List ℕ → Type 0
IsAskedText clock None text = text ≡ []
IsAskedText clock (Some q) text = IsMomentText clock q.at text

-- a fact: its name, and its text escaped
unfoldable pub row_html : PagePart → List ℕ → List ℕ
row_html name text = part_text name ++ (escaped text ++ part_text part.RowEnd)

-- that, where it is given
abbrev pub given_html : PagePart → Option (Bor (List ℕ)) → List ℕ
given_html name None = []
given_html name (Some text) = row_html name text.now

-- what was asked, with its moment's text
abbrev pub question_html : Option PageQuestion → (asked : List ℕ) → List ℕ
question_html None asked = []
question_html (Some q) asked =
    part_text part.PrefixRow ++ prefix_text q.prefix ++ part_text part.RowEnd ++ row_html part.MomentRow asked

-- without the time when it was made a page has no date
unfoldable pub facts_html : PageFacts → (asked : List ℕ) → List ℕ
facts_html f asked =
    part_text part.FactsBegin ++ question_html f.question asked ++ given_html part.CaseRow f.case
    ++ given_html part.AskedByRow f.asked_by ++ given_html part.MadeRow f.made ++ part_text part.FactsEnd
