-- Rows of grants.
use Rattle.std.proofs.Common.{◌≡◌, ℕ, ◌+◌, ◌<◌, ◌≤◌, List, [], ◌∷◌, ◌++◌, length, take, get_or, refl, append_assoc, append-nil, sym, ap, ◌∙◌, subst, arith}
use Rattle.std.proofs.lemmas.List.{take_more, length-take-le}
use Rattle.time_text.specs.Time.{IsTimeText}
use Rattle.evidence_report.specs.declared.piece_report.ReportedGrant.{ReportedGrant}
use Rattle.evidence_report.specs.declared.piece_report.PieceReport.{PieceReport}
use Rattle.report_render.specs.declared.template.PagePart.TheVariants as part
use Rattle.report_render.specs.Template.{part_text}
use Rattle.report_render.specs.Grants.{lease_html, AreLeaseCells, AreGrantCells, grant_row_html, IsGrantRow, AreGrantRows, IsGrantTable}

pub utc_time : (m : ℕ) (text time : List ℕ) → IsTimeText m text → time ≡ [] ++ text → IsTimeText m time
utc_time m text time h e = rw (e) h

pub lease_cells : (g : ReportedGrant) (time text : List ℕ) → IsTimeText g.reading time
    → text ≡ lease_html time g.lease.valid → AreLeaseCells g text
lease_cells g time text h e = record { time = time; time_is = h; spelled = e }

pub grant_row : (number : ℕ) (p : PieceReport) (from to cells text : List ℕ) → IsTimeText p.piece.now.from from
    → IsTimeText p.piece.now.to to → AreGrantCells p.granted cells
    → text ≡ grant_row_html number p.piece.now.grant from to cells → IsGrantRow number p text
grant_row number p from to cells text f t c e = record {
  from = from;
  from_is = f;
  to = to;
  to_is = t;
  cells = cells;
  cells_are = c;
  spelled = e;
}

rows_more : (number last : ℕ) (pieces : List PieceReport) (text : List ℕ) (p : PieceReport) (more : List ℕ)
    → last ≡ number + length pieces → AreGrantRows number pieces text → IsGrantRow last p more
    → AreGrantRows number (pieces ++ p ∷ []) (text ++ more)
rows_more number last [] text p more n e h = (
  more,
  [],
  ap (λ t. t ++ more) e ∙ sym (append-nil more),
  subst (λ (k : ℕ). IsGrantRow k p more) (omega arith) h,
  refl,
)
rows_more number last (q ∷ pieces) text p more n (row, rest, e, h, others) k = (
  row,
  rest ++ more,
  ap (λ t. t ++ more) e ∙ append_assoc row rest more,
  h,
  rows_more (number + 1) last pieces rest p more (omega arith) others k,
)

pub rows_step : (pieces : List PieceReport) (i : ℕ) (d : PieceReport) (text more : List ℕ) → i < length pieces
    → AreGrantRows 1 (take i pieces) text → IsGrantRow (i + 1) (get_or pieces i d) more
    → AreGrantRows 1 (take (i + 1) pieces) (text ++ more)
rows_step pieces i d text more h k l =
    let all : length (take i pieces) ≡ i = length-take-le i pieces (omega arith) in
    rw (take_more pieces i d h) (rows_more 1 (i + 1) (take i pieces) text (get_or pieces i d) more (omega arith) k l)

pub grant_table : (pieces : List PieceReport) (rows a b text : List ℕ) → AreGrantRows 1 pieces rows
    → a ≡ [] ++ part_text part.GrantsBegin → b ≡ a ++ rows → text ≡ b ++ part_text part.GrantsEnd
    → IsGrantTable pieces text
grant_table pieces rows a b text h ea eb et = record {
  rows = rows;
  rows_are = h;
  spelled = et ∙ (ap (λ x. x ++ part_text part.GrantsEnd) (eb ∙ ap (λ x. x ++ rows) ea)
      ∙ append_assoc (part_text part.GrantsBegin) rows (part_text part.GrantsEnd));
}
