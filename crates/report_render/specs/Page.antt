-- The page of a report: HTML 5, with each word escaped.
use Rattle.std.specs.Prelude.{◌≡◌, ℕ, List, [], ◌∷◌, ◌++◌, codes, Option}
use Rattle.std.specs.List.{flat_map}
use Rattle.std.specs.Borrow.{Bor}
use Rattle.zone_times.specs.declared.zone.ZoneFile.{ZoneFile}
use Rattle.report_document.specs.declared.block.BlockKind.{BlockKind}
use Rattle.report_document.specs.declared.block.BlockKind.TheVariants.{Heading, Paragraph, Item, Cited}
use Rattle.report_render.specs.declared.text_block.TextBlock.{TextBlock}
use Rattle.report_render.specs.declared.page.Page.{Page}
use Rattle.report_render.specs.declared.template.PagePart.TheVariants as part
use Rattle.report_render.specs.Escaping.{escaped}
use Rattle.report_render.specs.Template.{part_text}
use Rattle.report_render.specs.Title.{IsTitle}
use Rattle.report_render.specs.Facts.{IsAskedText, facts_html}
use Rattle.report_render.specs.Grants.{AreGrants}
use Rattle.report_render.specs.VolumeLines.{AreVolumeLines}
use Rattle.report_render.specs.Origin.{origin_html}

abbrev pub opening_of : BlockKind → List ℕ
opening_of Heading = codes "<h2>"
opening_of Paragraph = codes "<p>"
opening_of Item = codes "<p class=\"item\">"
opening_of Cited = codes "<pre>"

abbrev pub closing_of : BlockKind → List ℕ
closing_of Heading = codes "</h2>\n"
closing_of Paragraph = codes "</p>\n"
closing_of Item = codes "</p>\n"
closing_of Cited = codes "</pre>\n"

abbrev pub passage_html : TextBlock → List ℕ
passage_html p = opening_of p.kind ++ (escaped p.text.items ++ closing_of p.kind)

-- the title, twice, and the ruling's line
unfoldable pub heading_html : (title line : List ℕ) → List ℕ
heading_html title line =
    part_text part.Head ++ escaped title ++ part_text part.BehindTitle ++ escaped title
    ++ part_text part.BeforeLine ++ escaped line ++ part_text part.BehindLine

-- the picture, where there is one
abbrev pub figure_html : List ℕ → List ℕ
figure_html [] = []
figure_html (octet ∷ picture) = part_text part.BeforePicture ++ (octet ∷ picture) ++ part_text part.BehindPicture

-- the access records, where there are any
abbrev pub access_html : List ℕ → List ℕ
access_html [] = []
access_html (octet ∷ access) = part_text part.BeforeAccess ++ escaped (octet ∷ access) ++ part_text part.AccessEnd

-- what stands before the passages
unfoldable pub opening_html : Page → (title asked tables : List ℕ) → List ℕ
opening_html p title asked tables =
    heading_html title p.spelling.now.line.items ++ facts_html p.facts asked ++ figure_html p.picture.now
    ++ tables

-- that, the passages, the access records, where the page comes from
unfoldable pub page_html : Page → (title asked tables : List ℕ) → List ℕ
page_html p title asked tables =
    opening_html p title asked tables ++ flat_map passage_html p.spelling.now.passages.items
    ++ access_html p.access.now ++ origin_html p.origin ++ part_text part.Tail

-- of this title's sentence, the text of the moment that was asked about, the table of the pieces' grants, and that of
-- the lines in their volumes
pub record IsPage (clock : Option (Bor ZoneFile)) (p : Page) (text : List ℕ) : Type 0 where
  pub title : List ℕ
  pub title_is : IsTitle clock p.title title
  pub asked : List ℕ
  pub asked_is : IsAskedText clock p.facts.question asked
  pub grants : List ℕ
  pub grants_are : AreGrants p.pieces.now grants
  pub lines : List ℕ
  pub lines_are : AreVolumeLines p.origins p.cited.now lines
  pub whole : text ≡ page_html p title asked (grants ++ lines)
