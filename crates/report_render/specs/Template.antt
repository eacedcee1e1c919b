-- What of a page is always the same.
use Rattle.std.specs.Prelude.{ℕ, List}
use Rattle.report_render.specs.declared.template.PagePart.{PagePart}
use Rattle.report_render.specs.declared.template.PagePart.TheVariants as part
use Rattle.report_render.specs.declared.template.TheConstants as template

-- the text of each part
unfoldable pub part_text : PagePart → List ℕ
part_text part.Head = template.HEAD.now
part_text part.BehindTitle = template.BEHIND_TITLE.now
part_text part.BeforeLine = template.BEFORE_LINE.now
part_text part.BehindLine = template.BEHIND_LINE.now
part_text part.FactsBegin = template.FACTS_BEGIN.now
part_text part.PrefixRow = template.PREFIX_ROW.now
part_text part.MomentRow = template.MOMENT_ROW.now
part_text part.CaseRow = template.CASE_ROW.now
part_text part.AskedByRow = template.ASKED_BY_ROW.now
part_text part.MadeRow = template.MADE_ROW.now
part_text part.RowEnd = template.ROW_END.now
part_text part.FactsEnd = template.FACTS_END.now
part_text part.BeforePicture = template.BEFORE_PICTURE.now
part_text part.BehindPicture = template.BEHIND_PICTURE.now
part_text part.GrantsBegin = template.GRANTS_BEGIN.now
part_text part.GrantRow = template.GRANT_ROW.now
part_text part.FirstCell = template.FIRST_CELL.now
part_text part.NextCell = template.NEXT_CELL.now
part_text part.CellBegin = template.CELL_BEGIN.now
part_text part.CellEnd = template.CELL_END.now
part_text part.ForEver = template.FOR_EVER.now
part_text part.NoLease = template.NO_LEASE.now
part_text part.GrantRowEnd = template.GRANT_ROW_END.now
part_text part.GrantsEnd = template.GRANTS_END.now
part_text part.VolumeLinesBegin = template.VOLUME_LINES_BEGIN.now
part_text part.BeforeAccess = template.BEFORE_ACCESS.now
part_text part.AccessEnd = template.ACCESS_END.now
part_text part.Tail = template.TAIL.now
