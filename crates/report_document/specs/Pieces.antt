-- What is told of the pieces of the interval, and of the releases of what their grants gave.
use Rattle.std.specs.Prelude.{ℕ, ◌+◌, ◌*◌, ◌==◌, if◌then◌else◌, List, [], ◌∷◌, ◌++◌, Option, Some, None}
use Rattle.std.specs.List.{flat_map}
use Rattle.std.specs.Borrow.{Bor}
use Rattle.causal_order.specs.declared.reference.Ref.{Ref}
use Rattle.causal_order.specs.declared.certificate.Piece.{Piece}
use Rattle.causal_order.specs.declared.certificate.Clear.{Clear}
use Rattle.evidence_report.specs.declared.mark.LineReading.{LineReading}
use Rattle.evidence_report.specs.declared.piece_report.ReportedGrant.{ReportedGrant}
use Rattle.evidence_report.specs.declared.piece_report.ClearReport.{ClearReport}
use Rattle.evidence_report.specs.declared.piece_report.ClearReport.TheVariants.{Before, After}
use Rattle.evidence_report.specs.declared.piece_report.ReleaseReport.{ReleaseReport}
use Rattle.evidence_report.specs.declared.piece_report.PieceReport.{PieceReport}
use Rattle.report_document.specs.declared.word.ReportWord.{ReportWord}
use Rattle.report_document.specs.declared.word.ReportWord.TheVariants as word
use Rattle.report_document.specs.Telling.{Told, heading, item, chain_told, no_chain, less, must, written_from, order_told}

abbrev pub heading_told : (number : ℕ) → Piece → List Told
heading_told number p = heading (word.Number number ∷ word.Moment p.from ∷ word.Moment p.to ∷ []) ∷ []

-- what the grant's line grants
abbrev pub granted_values : Ref → ReportedGrant → List ReportWord
granted_values r g =
    word.Line r ∷ word.Reading g.reading ∷ word.Prefix g.lease.prefix
    ∷ word.Client g.lease.client ∷ word.Association g.lease.iaid ∷ word.Seconds g.lease.valid ∷ []

abbrev pub granted_told : Ref → ReportedGrant → List Told
granted_told r g = item (granted_values r g) ∷ []

abbrev pub grant_told : Ref → Option ReportedGrant → List Told
grant_told r None = item (word.Line r ∷ []) ∷ []
grant_told r (Some g) = granted_told r g

-- the lease of r had begun by the reading at the end of a chain from it, the skew and the transit
abbrev pub begun_by : (skew transit : ℕ) → Ref → LineReading → List Told
begun_by skew transit r m =
    item (
    word.Line m.at ∷ word.Reading m.reading ∷ word.Line r
    ∷ word.Number m.reading ∷ word.Number skew ∷ word.Number transit
    ∷ word.Moment (m.reading + skew + transit) ∷ []
    ) ∷ []

-- that must be no later than the piece's beginning
abbrev pub begun_told : (skew transit : ℕ) → Piece → Option LineReading → List Told
begun_told skew transit p None = no_chain p.grant
begun_told skew transit p (Some m) = chain_told p.latest ++ begun_by skew transit p.grant m ++ must p.from

-- what the line tells of never ends
abbrev pub endless_told : Ref → List Told
endless_told r = item (word.Line r ∷ []) ∷ []

-- the lease of r lasted to the reading at the beginning of a chain to it, and its lifetime, less the skew
abbrev pub lasts_from : (skew : ℕ) → Ref → (valid : ℕ) → LineReading → List Told
lasts_from skew r valid m =
    item (
    word.Line m.at ∷ word.Reading m.reading ∷ word.Line r
    ∷ word.Number m.reading ∷ word.Number (1000 * valid) ∷ word.Number skew
    ∷ less (m.reading + 1000 * valid) skew ∷ []
    ) ∷ []

-- that must be no earlier than the piece's end
abbrev pub lasting_told : (skew : ℕ) → Piece → (valid : ℕ) → LineReading → List Told
lasting_told skew p valid m =
    if valid == 4294967295 then endless_told p.grant
    else chain_told p.earliest ++ lasts_from skew p.grant valid m ++ must p.to

abbrev pub lasts_told : (skew : ℕ) → Piece → Option ReportedGrant → Option LineReading → List Told
lasts_told skew p g None = no_chain p.grant
lasts_told skew p None (Some m) = []
lasts_told skew p (Some g) (Some m) = lasting_told skew p g.lease.valid m

-- ---- releases

abbrev pub unnamed_told : Ref → List Told
unnamed_told release = item (word.Line release ∷ []) ∷ []

-- why the release doesn't end the piece: it came before the grant, or no earlier than the piece's end
abbrev pub cleared_told : (skew : ℕ) → Piece → Ref → Option (Bor Clear × ClearReport) → List Told
cleared_told skew p release None = unnamed_told release
cleared_told skew p release (Some (k, Before order)) = order_told skew release p.grant order
cleared_told skew p release (Some (k, After chain m)) = written_from skew release chain.now m ++ must p.to

abbrev pub release_told : (skew : ℕ) → Piece → ReleaseReport → List Told
release_told skew p r =
    (item (word.Line r.release.at ∷ word.Reading r.release.reading ∷ []) ∷ [])
    ++ cleared_told skew p r.release.at r.entry

abbrev pub releases_told : (skew : ℕ) → Piece → List ReleaseReport → List Told
releases_told skew p releases = flat_map (release_told skew p) releases

-- how many more there are that aren't told of, where there are any
abbrev pub more_told : (more : ℕ) → List Told
more_told more = if more == 0 then [] else item (word.Number more ∷ []) ∷ []

-- ---- a piece

abbrev pub piece_told : (skew transit number : ℕ) → PieceReport → List Told
piece_told skew transit number r =
    heading_told number r.piece.now ++ grant_told r.piece.now.grant r.granted
    ++ begun_told skew transit r.piece.now r.latest
    ++ lasts_told skew r.piece.now r.granted r.earliest
    ++ releases_told skew r.piece.now r.releases.told.items ++ more_told r.releases.more
