-- How long a certificate's text is.
use Rattle.std.specs.Prelude.{ℕ, ◌+◌, List, length}
use Rattle.std.specs.List.{sum_by}
use Rattle.causal_order.specs.declared.certificate.Certificate.{Certificate}
use Rattle.causal_order.specs.declared.certificate.Piece.{Piece}

-- the lines of a piece: its own, and one for each release that is cleared
abbrev pub lines_of_piece : Piece → ℕ
lines_of_piece p = 1 + length p.clear

abbrev pub lines_of_all : List Piece → ℕ
lines_of_all ps = sum_by lines_of_piece ps

-- the lines of a certificate: four before its pieces, and one behind the entries
abbrev pub lines_of : Certificate → ℕ
lines_of c = 5 + lines_of_all c.pieces + length c.foreign

-- the most that a text may have
abbrev pub most_lines : ℕ
most_lines = 65536
