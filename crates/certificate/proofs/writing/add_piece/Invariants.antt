use Rattle.std.proofs.Common.{◌≡◌, ◌∷◌, ◌++◌, take}
use Rattle.std.specs.Prelude.{map}
use Rattle.text_fields.specs.Cuts.{with_stops}
use Rattle.certificate.specs.Spelling.{line_text, clear_words, piece_words}
use Rattle.certificate.proofs.writing.add_piece.Given as goal

abbrev pub invariant-loop-clear : goal.invariant-loop-clear
invariant-loop-clear l = l.out.items ≡ l.fn.out.items
    ++ with_stops 10 (line_text (piece_words l.fn.piece) ∷ map (λ c. line_text (clear_words c))
    (take l.clear-index l.fn.piece.clear))
