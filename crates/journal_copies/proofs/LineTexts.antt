-- A text, line by line.
use Rattle.std.specs.Prelude.{◌≡◌, ℕ, ◌-◌, List, [], ◌∷◌, ◌++◌, Some, map, length, take, slice_get, if◌then◌else◌}
use Rattle.std.proofs.Common.{suc, arith, sym, ◌∙◌, ap, subst, refl}
use Rattle.std.proofs.lemmas.List.Folds.{flat_map-map}
use Rattle.std.proofs.lemmas.Grind.{flat_map-append}
use Rattle.std.proofs.lemmas.List.Concat.{flat_map-cons}
use Rattle.text_fields.specs.Cuts.{with_stops}
use Rattle.journal_lines.specs.declared.line.Line.{Line}
use Rattle.journal_lines.specs.declared.line.Journal.{Journal}
use Rattle.journal_text.specs.Position.{Position, start, behind_line}
use Rattle.journal_text.specs.Spelling.{line_text, head_text, head_line, end_text}
use Rattle.open_volume.specs.declared.volume.Phase.{Phase}
use Rattle.open_volume.specs.declared.volume.Phase.TheVariants.{GoingOn, Ended}
use Rattle.open_volume.specs.Spelling.{behind_all, volume_text}
use Rattle.journal_copies.specs.Text.{lined_text, ending_behind, ending_of, journal_up_to, text_up_to}

abbrev lined : List ℕ → List ℕ
lined cut = cut ++ 10 ∷ []

abbrev text_at : Phase → Journal → List ℕ
text_at phase j = volume_text (record { journal = j; phase = phase })

append_nil : (xs : List ℕ) → xs ++ [] ≡ xs
append_nil [] = refl
append_nil (x ∷ xs) = ap (λ ys. x ∷ ys) (append_nil xs)

nil_right : (xs : List (List ℕ)) → xs ++ [] ≡ xs
nil_right [] = refl
nil_right (x ∷ xs) = ap (λ ys. x ∷ ys) (nil_right xs)

-- the head line and the lines
open_text : (j : Journal) (head text : List ℕ) → head ≡ head_text (head_line j) ++ 10 ∷ []
    → text ≡ head ++ lined_text j.lines → text ≡ text_at GoingOn j
open_text j head text h is =
    is ∙ (ap (λ (xs : List ℕ). xs ++ lined_text j.lines) h
    ∙ (ap (λ (xs : List ℕ). lined (head_text (head_line j)) ++ xs) (sym (flat_map-map lined line_text j.lines))
    ∙ (sym (flat_map-cons lined (head_text (head_line j)) (map line_text j.lines))
    ∙ ap (λ (xs : List (List ℕ)). with_stops 10 (head_text (head_line j) ∷ xs)) (sym (nil_right (map line_text j.lines))))))

-- and the end line
closed_text : (j : Journal) (text new : List ℕ) → text ≡ text_at GoingOn j
    → new ≡ text ++ (end_text (length j.lines) ++ 10 ∷ []) → new ≡ text_at Ended j
closed_text j text new h is =
    let ls = map line_text j.lines in
    let e = end_text (length j.lines) in
    let front : text ≡ with_stops 10 (head_text (head_line j) ∷ ls) =
    h ∙ ap (λ (xs : List (List ℕ)). with_stops 10 (head_text (head_line j) ∷ xs)) (nil_right ls) in
    let last : with_stops 10 (e ∷ []) ≡ lined e = flat_map-cons lined e [] ∙ append_nil (lined e) in
    is ∙ (ap (λ (xs : List ℕ). xs ++ lined e) front
    ∙ (ap (λ (xs : List ℕ). with_stops 10 (head_text (head_line j) ∷ ls) ++ xs) (sym last)
    ∙ sym (flat_map-append lined (head_text (head_line j) ∷ ls) (e ∷ []))))

-- the text of a journal's first lines, where they go on
pub text_open : (j : Journal) (count : ℕ) (used : List Line) (head text : List ℕ) → used ≡ take count j.lines
    → ending_of used ≡ GoingOn → head ≡ head_text (head_line j) ++ 10 ∷ [] → text ≡ head ++ lined_text used
    → text ≡ text_up_to count j
text_open j count used head text u goes h is =
    let e : ending_of (take count j.lines) ≡ GoingOn = ap ending_of (sym u) ∙ goes in
    open_text (journal_up_to count j) head text h (is ∙ ap (λ (ls : List Line). head ++ lined_text ls) u)
    ∙ ap (λ (p : Phase). text_at p (journal_up_to count j)) (sym e)

-- and where they are closed
pub text_ended : (j : Journal) (count : ℕ) (used : List Line) (head text new : List ℕ) → used ≡ take count j.lines
    → ending_of used ≡ Ended → head ≡ head_text (head_line j) ++ 10 ∷ [] → text ≡ head ++ lined_text used
    → new ≡ text ++ (end_text (length used) ++ 10 ∷ []) → new ≡ text_up_to count j
text_ended j count used head text new u ends h is ended =
    let e : ending_of (take count j.lines) ≡ Ended = ap ending_of (sym u) ∙ ends in
    closed_text (journal_up_to count j) text new
    (open_text (journal_up_to count j) head text h (is ∙ ap (λ (ls : List Line). head ++ lined_text ls) u))
    (ended ∙ ap (λ (ls : List Line). text ++ (end_text (length ls) ++ 10 ∷ [])) u)
    ∙ ap (λ (p : Phase). text_at p (journal_up_to count j)) (sym e)

-- ---- how a text of lines ends

behind_last : (ls : List Line) (at : Position) (l : Line) → slice_get ls (length ls - 1) ≡ Some l
    → behind_all at ls ≡ behind_line l
behind_last [] at l is = absurd (cc)
behind_last (x ∷ []) at l is = let same : x ≡ l = cc in ap behind_line same
behind_last (x ∷ y ∷ ys) at l is =
    let n : length (x ∷ y ∷ ys) - 1 ≡ suc (length (y ∷ ys) - 1) = omega arith in
    behind_last (y ∷ ys) (behind_line x) l (subst (λ k. slice_get (x ∷ y ∷ ys) k ≡ Some l) n is)

pub last_ending : (ls : List Line) (l : Line) → slice_get ls (length ls - 1) ≡ Some l → ending_behind l ≡ ending_of ls
last_ending ls l is =
    ap (λ (p : Position). if p.is_closed then Ended else GoingOn) (sym (behind_last ls start l is))
