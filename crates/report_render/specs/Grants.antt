-- The grants that renewed a lease, in one table.
use Rattle.std.specs.Prelude.{◌≡◌, ℕ, ◌+◌, ◌==◌, if◌then◌else◌, List, [], ◌∷◌, ◌++◌, Option, Some, None}
use Rattle.std.specs.Fmt.{decimal}
use Rattle.causal_order.specs.declared.reference.Ref.{Ref}
use Rattle.time_text.specs.Time.{IsTimeText}
use Rattle.attribution.specs.VerdictText.{place_text}
use Rattle.evidence_report.specs.declared.piece_report.ReportedGrant.{ReportedGrant}
use Rattle.evidence_report.specs.declared.piece_report.PieceReport.{PieceReport}
use Rattle.report_render.specs.declared.template.PagePart.TheVariants as part
use Rattle.report_render.specs.Template.{part_text}

-- a lifetime in seconds, of which the greatest is for ever
abbrev pub lifetime_html : ℕ → List ℕ
lifetime_html valid = decimal valid ++ (if valid == 4294967295 then part_text part.ForEver else [])

unfoldable pub lease_html : (time : List ℕ) (valid : ℕ) → List ℕ
lease_html time valid =
    part_text part.CellBegin ++ time ++ part_text part.NextCell ++ lifetime_html valid ++ part_text part.CellEnd

-- when a lease was granted, by its server's clock, and for how long
pub record AreLeaseCells (g : ReportedGrant) (text : List ℕ) : Type 0 where
  pub time : List ℕ
  pub time_is : IsTimeText g.reading time
  pub spelled : text ≡ lease_html time g.lease.valid

-- that, or that the line grants nothing
abbrev pub AreGrantCells : Option ReportedGrant → List ℕ → Type 0
AreGrantCells None text = text ≡ part_text part.NoLease
AreGrantCells (Some g) text = AreLeaseCells g text

-- a piece's number, its interval, the line of its grant, and what that line grants
unfoldable pub grant_row_html : (number : ℕ) (r : Ref) (from to cells : List ℕ) → List ℕ
grant_row_html number r from to cells =
    part_text part.GrantRow ++ decimal number ++ part_text part.FirstCell ++ from ++ part_text part.NextCell ++ to
    ++ part_text part.NextCell ++ place_text r.side r.number ++ part_text part.CellEnd ++ cells
    ++ part_text part.GrantRowEnd

-- the row of a piece, its moments in UTC as RFC 3339 writes them
pub record IsGrantRow (number : ℕ) (p : PieceReport) (text : List ℕ) : Type 0 where
  pub from : List ℕ
  pub from_is : IsTimeText p.piece.now.from from
  pub to : List ℕ
  pub to_is : IsTimeText p.piece.now.to to
  pub cells : List ℕ
  pub cells_are : AreGrantCells p.granted cells
  pub spelled : text ≡ grant_row_html number p.piece.now.grant from to cells

-- one for each piece, in their order, counted from a number on
abbrev pub AreGrantRows : ℕ → List PieceReport → List ℕ → Type 0
AreGrantRows number [] text = text ≡ []
AreGrantRows number (p ∷ pieces) text =
    (row : List ℕ) × (rest : List ℕ) × (text ≡ row ++ rest) × IsGrantRow number p row
    × AreGrantRows (number + 1) pieces rest

-- the rows of all pieces, the first of which is number 1
pub record IsGrantTable (pieces : List PieceReport) (text : List ℕ) : Type 0 where
  pub rows : List ℕ
  pub rows_are : AreGrantRows 1 pieces rows
  pub spelled : text ≡ part_text part.GrantsBegin ++ (rows ++ part_text part.GrantsEnd)

-- that, where there is a piece
abbrev pub AreGrants : List PieceReport → List ℕ → Type 0
AreGrants [] text = text ≡ []
AreGrants (p ∷ pieces) text = IsGrantTable (p ∷ pieces) text
