-- The whole lines of a text are a text of whole lines.
use Rattle.std.proofs.Common.{◌≡◌, ℕ, List, length, take, refl, sym, ◌∙◌, ap}
use Rattle.disk_model.specs.Lines.{text_of, recovered, IsWholeLines}
use Rattle.disk_model.proofs.Opening.{open_cut, opened_lines}

pub front_is_whole : (text : List ℕ) (n : ℕ) → n ≡ length (text_of (recovered text)) → IsWholeLines (take n text)
front_is_whole text n is = (open_cut text n is).whole

pub front_fits : (text : List ℕ) (n : ℕ) → n ≡ length (text_of (recovered text)) → n ≡ length (take n text)
front_fits text n is =
    let lines : recovered (take n text) ≡ recovered text = (opened_lines text n is _ refl).1 in
    is ∙ ap length (ap text_of (sym lines) ∙ sym (front_is_whole text n is))
