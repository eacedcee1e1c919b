-- A journal's text, line by line.
use Rattle.std.specs.Prelude.{◌≡◌, ℕ, Bool, List, [], ◌∷◌, ◌++◌, map, length, if◌then◌else◌}
use Rattle.std.proofs.Common.{sym, ◌∙◌, ap, refl}
use Rattle.std.proofs.lemmas.List.Folds.{flat_map-map}
use Rattle.std.proofs.lemmas.Grind.{flat_map-append}
use Rattle.std.proofs.lemmas.List.Concat.{flat_map-cons}
use Rattle.text_fields.specs.Cuts.{with_stops}
use Rattle.journal_lines.specs.Head.{volume_number}
use Rattle.journal_lines.specs.declared.line.Journal.{Journal}
use Rattle.journal_text.specs.Spelling.{line_text, head_text, head_line, end_text}
use Rattle.book_state.specs.Book.{blank}
use Rattle.book_rules.specs.Volumes.{book_after}
use Rattle.open_volume.specs.declared.volume.Phase.{Phase}
use Rattle.open_volume.specs.declared.volume.Phase.TheVariants.{GoingOn, Ended}
use Rattle.join_desk.specs.Text.{lined_text, text_at, text_of}

abbrev lined : List ℕ → List ℕ
lined cut = cut ++ 10 ∷ []

append_nil : (xs : List ℕ) → xs ++ [] ≡ xs
append_nil [] = refl
append_nil (x ∷ xs) = ap (λ ys. x ∷ ys) (append_nil xs)

nil_right : (xs : List (List ℕ)) → xs ++ [] ≡ xs
nil_right [] = refl
nil_right (x ∷ xs) = ap (λ ys. x ∷ ys) (nil_right xs)

-- the head line and the lines
pub open_text : (j : Journal) (head text : List ℕ) → head ≡ head_text (head_line j) ++ 10 ∷ []
    → text ≡ head ++ lined_text j.lines → text ≡ text_at GoingOn j
open_text j head text h is =
    is ∙ (ap (λ (xs : List ℕ). xs ++ lined_text j.lines) h
    ∙ (ap (λ (xs : List ℕ). lined (head_text (head_line j)) ++ xs) (sym (flat_map-map lined line_text j.lines))
    ∙ (sym (flat_map-cons lined (head_text (head_line j)) (map line_text j.lines))
    ∙ ap (λ (xs : List (List ℕ)). with_stops 10 (head_text (head_line j) ∷ xs)) (sym (nil_right (map line_text j.lines))))))

-- and the end line
pub closed_text : (j : Journal) (text new : List ℕ) → text ≡ text_at GoingOn j
    → new ≡ text ++ (end_text (length j.lines) ++ 10 ∷ []) → new ≡ text_at Ended j
closed_text j text new h is =
    let ls = map line_text j.lines in
    let e = end_text (length j.lines) in
    let front : text ≡ with_stops 10 (head_text (head_line j) ∷ ls) =
    h ∙ ap (λ (xs : List (List ℕ)). with_stops 10 (head_text (head_line j) ∷ xs)) (nil_right ls) in
    let last : with_stops 10 (e ∷ []) ≡ lined e = flat_map-cons lined e [] ∙ append_nil (lined e) in
    is ∙ (ap (λ (xs : List ℕ). xs ++ lined e) front
    ∙ (ap (λ (xs : List ℕ). with_stops 10 (head_text (head_line j) ∷ ls) ++ xs) (sym last)
    ∙ sym (flat_map-append lined (head_text (head_line j) ∷ ls) (e ∷ []))))

pub text_by : (j : Journal) (closed : Bool) (phase : Phase)
    → (book_after (blank j.role (volume_number j.head)) j.lines).closed ≡ closed
    → (if closed then Ended else GoingOn) ≡ phase → text_at phase j ≡ text_of j
text_by j closed phase is e =
    ap (λ (p : Phase). text_at p j) (sym e ∙ ap (λ (b : Bool). if b then Ended else GoingOn) (sym is))
