use Rattle.std.proofs.Common.{◌≡◌, ◌++◌, take}
use Rattle.std.specs.Prelude.{map}
use Rattle.std.specs.List.{flat_map}
use Rattle.text_fields.specs.Cuts.{with_stops}
use Rattle.certificate.specs.Spelling.{line_text, foreign_words, opening_lines, piece_lines}
use Rattle.certificate.proofs.writing.write.Given as goal

abbrev pub invariant-loop-piece : goal.invariant-loop-piece
invariant-loop-piece l = l.out.items ≡ with_stops 10 (opening_lines l.fn.certificate
    ++ flat_map piece_lines (take l.piece-index l.fn.certificate.pieces))

abbrev pub invariant-loop-foreign : goal.invariant-loop-foreign
invariant-loop-foreign l = l.out.items ≡ with_stops 10 (opening_lines l.fn.certificate
    ++ (flat_map piece_lines l.fn.certificate.pieces
    ++ map (λ f. line_text (foreign_words f)) (take l.foreign-index l.fn.certificate.foreign)))
