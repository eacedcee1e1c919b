-- The first lines of a text, octet by octet.
use Rattle.std.specs.Prelude.{◌≡◌, ℕ, ◌+◌, ◌-◌, ◌<◌, ◌≤◌, ◌==◌, if◌then◌else◌, List, [], ◌∷◌, ◌++◌, length, take, drop}
use Rattle.std.proofs.Common.{zero, suc, arith, sym, ◌∙◌, ap, subst, refl, get_or, append-nil, add-one}
use Rattle.journal_paths.specs.Lines.{first_lines}

-- the lines so far, and those that are left of the rest, are the lines
abbrev pub AreCounted : List ℕ → (count end left : ℕ) → Type 0
AreCounted text count end left = take end text ++ first_lines left (drop end text) ≡ first_lines count text

one_octet : (text : List ℕ) (end left : ℕ) → end < length text
    → take end text ++ first_lines (suc left) (drop end text)
    ≡ take (suc end) text ++ first_lines (if get_or text end 0 == 10 then left else suc left) (drop (suc end) text)
one_octet [] end left lt = absurd (omega arith)
one_octet (b ∷ text) zero left lt = refl
one_octet (b ∷ text) (suc end) left lt = ap (λ (ys : List ℕ). b ∷ ys) (one_octet text end left (omega arith))

pub one_more : (text : List ℕ) (count end left later : ℕ) → end < length text → AreCounted text count end left
    → 0 < left → later ≡ (if get_or text end 0 == 10 then left - 1 else left) → AreCounted text count (end + 1) later
one_more text count end left later lt h some is =
    let e : suc (left - 1) ≡ left = omega arith in
    let same : later ≡ (if get_or text end 0 == 10 then left - 1 else suc (left - 1)) =
    is ∙ ap (λ (n : ℕ). if get_or text end 0 == 10 then left - 1 else n) (sym e) in
    let step = one_octet text end (left - 1) lt in
    ap (λ (n : ℕ). take n text ++ first_lines later (drop n text)) (add-one end)
    ∙ (ap (λ (n : ℕ). take (suc end) text ++ first_lines n (drop (suc end) text)) same
    ∙ (sym step ∙ (ap (λ (n : ℕ). take end text ++ first_lines n (drop end text)) e ∙ h)))

pub none_left : (text : List ℕ) (count end left : ℕ) → AreCounted text count end left → left ≡ 0
    → take end text ≡ first_lines count text
none_left text count end left h is =
    sym (append-nil (take end text))
    ∙ (ap (λ (n : ℕ). take end text ++ first_lines n (drop end text)) (sym is) ∙ h)

of_none : (left : ℕ) → first_lines left [] ≡ []
of_none zero = refl
of_none (suc left) = refl

all_taken : (text : List ℕ) (end left : ℕ) → length text ≤ end → take end text ++ first_lines left (drop end text) ≡ text
all_taken [] zero left le = of_none left
all_taken [] (suc end) left le = of_none left
all_taken (b ∷ text) zero left le = absurd (omega arith)
all_taken (b ∷ text) (suc end) left le = ap (λ (ys : List ℕ). b ∷ ys) (all_taken text end left (omega arith))

pub all_are : (text : List ℕ) (count end left : ℕ) → AreCounted text count end left → length text ≤ end
    → text ≡ first_lines count text
all_are text count end left h le = sym (all_taken text end left le) ∙ h
