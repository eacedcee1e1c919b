-- The lines that a certificate and the releases of its grants name.
use Rattle.std.specs.Prelude.{List, ◌∷◌, ◌++◌, map, Contains as Has}
use Rattle.std.specs.List.{flat_map}
use Rattle.journal_lines.specs.declared.line.Line.{Line}
use Rattle.causal_order.specs.declared.reference.Ref.{Ref}
use Rattle.causal_order.specs.declared.order.Precedes.{Precedes}
use Rattle.causal_order.specs.declared.order.Precedes.TheVariants.{Chain, Clock}
use Rattle.causal_order.specs.declared.certificate.Certificate.{Certificate}
use Rattle.causal_order.specs.declared.certificate.Piece.{Piece}
use Rattle.causal_order.specs.declared.certificate.Clear.{Clear}
use Rattle.causal_order.specs.declared.certificate.ClearReason.{ClearReason}
use Rattle.causal_order.specs.declared.certificate.ClearReason.TheVariants.{Before, After}
use Rattle.causal_order.specs.declared.certificate.Foreign.{Foreign}
use Rattle.causal_order.specs.declared.certificate.Reason.{Reason}
use Rattle.causal_order.specs.declared.certificate.Reason.TheVariants.{Early, Late, Released}
use Rattle.causal_order.specs.Journals.{Journals, Names}
use Rattle.evidence_report.specs.declared.piece_report.PieceReport.{PieceReport}
use Rattle.evidence_report.specs.declared.report.CitedLine.{CitedLine}
use Rattle.evidence_report.specs.Lines.{AreRising}
use Rattle.evidence_report.specs.Pieces.{releases_in}

-- the lines that each part names, in the order of its words
abbrev pub order_lines : Precedes → List Ref
order_lines (Chain chain) = chain
order_lines (Clock before after) = before ++ after

abbrev pub why_lines : ClearReason → List Ref
why_lines (Before order) = order_lines order
why_lines (After chain) = chain

abbrev pub clear_lines : Clear → List Ref
clear_lines k = k.release ∷ why_lines k.why

abbrev pub piece_lines : Piece → List Ref
piece_lines p = p.grant ∷ (p.latest ++ p.earliest ++ flat_map clear_lines p.clear)

abbrev pub reason_lines : Reason → List Ref
reason_lines (Early chain) = chain
reason_lines (Late chain) = chain
reason_lines (Released release order chain) = release ∷ (order_lines order ++ chain)

abbrev pub foreign_lines : Foreign → List Ref
foreign_lines f = f.grant ∷ reason_lines f.reason

abbrev pub certificate_lines : Certificate → List Ref
certificate_lines c = flat_map piece_lines c.pieces ++ flat_map foreign_lines c.foreign

-- those, and each release that a piece's report tells of
abbrev pub cited_by : Certificate → List PieceReport → List Ref
cited_by c pieces = certificate_lines c ++ flat_map (λ s. releases_in s.releases.told.items) pieces

-- each of them that names a line, once, with the line
pub record AreCited (js : Journals) (c : Certificate) (pieces : List PieceReport) (cited : List CitedLine) : Type 0 where
  pub all : (r : Ref) (l : Line) → Has (cited_by c pieces) r → Names js r l
      → Has cited (record { at = r; line = l })
  pub only : (k : CitedLine) → Has cited k → Has (cited_by c pieces) k.at × Names js k.at k.line
  pub once : AreRising (map (λ k. k.at) cited)

-- ---- for bodies

-- those of the references that name a line, with the line, in their order
pub record AreFound (js : Journals) (refs : List Ref) (cited : List CitedLine) : Type 0 where
  pub all : (r : Ref) (l : Line) → Has refs r → Names js r l → Has cited (record { at = r; line = l })
  pub only : (k : CitedLine) → Has cited k → Has refs k.at × Names js k.at k.line
  pub rising : AreRising refs → AreRising (map (λ k. k.at) cited)
