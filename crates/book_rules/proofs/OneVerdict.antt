-- Which line breaks a rule first, and which rule, is one.
use Rattle.std.proofs.Common.{◌≡◌, List, [], ◌∷◌, ◌++◌, length, sym, ◌∙◌, subst, refl, arith, inl, inr}
use Rattle.std.proofs.lemmas.Bool.{cases_lt}
use Rattle.journal_lines.specs.declared.line.Line.{Line}
use Rattle.book_rules.specs.declared.rule.Rule.{Rule}
use Rattle.book_state.specs.Book.{BookState, blank}
use Rattle.book_rules.specs.Rules.{Keeps, IsStep, IsLeastBroken, rule_number}
use Rattle.book_state.specs.Effects.{after}
use Rattle.book_rules.specs.Volumes.{AreSteps, book_after}
use Rattle.book_rules.specs.Laws.{LegalIsUnbroken, OneFirstBroken}
use Rattle.book_rules.proofs.RuleNumbers.{one_number}

-- the line and those before and behind it, at the front
first_or_later : (b : BookState) (before : List Line) (line : Line) (behind : List Line)
    → AreSteps b (before ++ line ∷ behind) → IsStep (book_after b before) line
first_or_later b [] line behind steps = steps.0
first_or_later b (k ∷ ks) line behind steps = first_or_later (after b k) ks line behind steps.1

pub legal_unbroken : LegalIsUnbroken
legal_unbroken role volume lines n r legal x =
    x.broken.broken (first_or_later (blank role volume) x.before x.line x.behind
    (subst (AreSteps (blank role volume)) x.are legal) r)

pub one_rule : (b : BookState) (l : Line) (r s : Rule) → IsLeastBroken b l r → IsLeastBroken b l s → r ≡ s
one_rule b l r s x y = elim (cases_lt (rule_number r) (rule_number s)) [
  | inl less ↦ absurd (x.broken (y.least r less))
  | inr le ↦ elim (cases_lt (rule_number s) (rule_number r)) [
    | inl less ↦ absurd (y.broken (x.least s less))
    | inr ge ↦ one_number r s (omega arith)
  ]
]

one_front : (b : BookState) (xs ys : List Line) (l m : Line) (x2 y2 : List Line) (r s : Rule)
    → xs ++ l ∷ x2 ≡ ys ++ m ∷ y2 → AreSteps b xs → AreSteps b ys
    → IsLeastBroken (book_after b xs) l r → IsLeastBroken (book_after b ys) m s → (length xs ≡ length ys) × (r ≡ s)
one_front b [] [] l m x2 y2 r s e hx hy bx by =
    let same : l ≡ m = cc in
    (refl, one_rule b l r s bx (subst (λ (k : Line). IsLeastBroken b k s) (sym same) by))
one_front b [] (y ∷ ys) l m x2 y2 r s e hx hy bx by =
    let same : l ≡ y = cc in absurd (bx.broken (subst (λ (k : Line). Keeps b k r) (sym same) (hy.0 r)))
one_front b (x ∷ xs) [] l m x2 y2 r s e hx hy bx by =
    let same : x ≡ m = cc in absurd (by.broken (subst (λ (k : Line). Keeps b k s) same (hx.0 s)))
one_front b (x ∷ xs) (y ∷ ys) l m x2 y2 r s e hx hy bx by =
    let same : x ≡ y = cc in
    let rest : xs ++ l ∷ x2 ≡ ys ++ m ∷ y2 = cc in
    let more = one_front (after b x) xs ys l m x2 y2 r s rest hx.1
    (subst (λ (k : Line). AreSteps (after b k) ys) (sym same) hy.1)
    bx (subst (λ (k : Line). IsLeastBroken (book_after (after b k) ys) m s) (sym same) by) in
    (omega (arith, more.0), more.1)

pub one_first_broken : OneFirstBroken
one_first_broken role volume lines n m r s x y =
    let one = one_front (blank role volume) x.before y.before x.line y.line x.behind y.behind r s (sym x.are
    ∙ y.are) x.legal y.legal x.broken y.broken in
    (omega (arith, x.place, y.place, one.0), one.1)
