-- The lines of a page in their volumes, in one table.
use Rattle.std.specs.Prelude.{◌≡◌, ℕ, ◌⊎◌, List, [], ◌∷◌, ◌++◌, Option, Some, None, if◌then◌else◌}
use Rattle.std.specs.Borrow.{Bor}
use Rattle.std.specs.List.{flat_map}
use Rattle.std.specs.Fmt.{decimal}
use Rattle.journal_lines.specs.Close.{is_close}
use Rattle.causal_order.specs.declared.reference.Ref.{Ref}
use Rattle.attribution.specs.VerdictText.{place_text}
use Rattle.evidence_report.specs.declared.report.CitedLine.{CitedLine}
use Rattle.line_origins.specs.declared.finding.LineOrigin.{LineOrigin}
use Rattle.line_origins.specs.declared.spans.SpanOrigins.{SpanOrigins}
use Rattle.line_origins.specs.Spans.{origin_over, HasSeveral}
use Rattle.report_render.specs.declared.template.PagePart.TheVariants as part
use Rattle.report_render.specs.Template.{part_text}

-- a line as it is named, its volume, and its number there
unfoldable pub volume_row_html : Ref → LineOrigin → List ℕ
volume_row_html at o =
    part_text part.GrantRow ++ place_text at.side at.number ++ part_text part.FirstCell ++ decimal o.volume
    ++ part_text part.NextCell ++ decimal o.line ++ part_text part.CellEnd ++ part_text part.GrantRowEnd

-- that, where a volume has the line
abbrev pub origin_html : Ref → Option LineOrigin → List ℕ
origin_html at None = []
origin_html at (Some o) = volume_row_html at o

-- that of a line, unless it is a close line: the desk may have put that one behind what a volume has
abbrev pub line_html : SpanOrigins → CitedLine → List ℕ
line_html o c = if is_close c.line.event then [] else origin_html c.at (origin_over o c.at.side c.at.number)

unfoldable pub volume_table_html : SpanOrigins → List CitedLine → List ℕ
volume_table_html o cited =
    part_text part.VolumeLinesBegin ++ flat_map (line_html o) cited ++ part_text part.GrantsEnd

-- that, where a side has several volumes; else nothing
abbrev pub IsTableOver : SpanOrigins → List CitedLine → List ℕ → Type 0
IsTableOver o cited text = (HasSeveral o × (text ≡ volume_table_html o cited)) ⊎ ((HasSeveral o → ⊥) × (text ≡ []))

-- that of lines of which at least one is named; else nothing
abbrev pub AreNamedOver : SpanOrigins → List CitedLine → List ℕ → Type 0
AreNamedOver o [] text = text ≡ []
AreNamedOver o (c ∷ cited) text = IsTableOver o (c ∷ cited) text

-- that, where the journals are volumes
abbrev pub AreVolumeLines : Option (Bor SpanOrigins) → List CitedLine → List ℕ → Type 0
AreVolumeLines None cited text = text ≡ []
AreVolumeLines (Some o) cited text = AreNamedOver o.now cited text
