-- The rules stand in their list by their numbers.
use Rattle.std.proofs.Common.{◌≡◌, ℕ, ◌+◌, ◌-◌, ◌<◌, ◌≤◌, List, [], ◌∷◌, length, arith, refl, get_or, subst, ap, sym}
use Rattle.std.proofs.Common.{◌∙◌}
use Rattle.std.specs.Prelude.{⊤, zero, suc}
use Rattle.std.proofs.lemmas.List.{get_or_default}
use borrow.Author.Count.{below_more}
use Rattle.journal_lines.specs.declared.line.Line.{Line}
use Rattle.book_rules.specs.declared.rule.TheConstants.{RULES}
use Rattle.book_rules.specs.declared.rule.Rule.{Rule}
use Rattle.book_rules.specs.declared.rule.Rule.TheVariants.{Sequence, Opening, Pools, Unit as UnitRule, Waiting, Grant}
use Rattle.book_rules.specs.declared.rule.Rule.TheVariants.{Lifetime, Release, Expiry, Backup, Reclaim, Serial, Update}
use Rattle.book_rules.specs.declared.rule.Rule.TheVariants.{Reply, Contact, Down, Restart, Head, Transit, Seize}
use Rattle.book_state.specs.Book.{BookState}
use Rattle.book_rules.specs.Rules.{rule_number, Keeps, IsStep, IsLeastBroken}

abbrev AreNumbered : ℕ → List Rule → Type 0
AreNumbered n [] = ⊤
AreNumbered n (r ∷ rs) = (rule_number r ≡ n) × AreNumbered (n + 1) rs

numbered_at : (n : ℕ) (rs : List Rule) (k : ℕ) (d : Rule) → AreNumbered n rs → k < length rs
    → rule_number (get_or rs k d) ≡ n + k
numbered_at n [] k d h lt = absurd (omega arith)
numbered_at n (r ∷ rs) zero d h lt = omega (arith, h.0)
numbered_at n (r ∷ rs) (suc k) d h lt = let rest = numbered_at (n + 1) rs k d h.1 (omega arith) in omega (arith, rest)

all_numbered : AreNumbered 1 RULES
all_numbered = (
  refl,
  (
    refl,
    (
      refl,
      (
        refl,
        (
          refl,
          (
            refl,
            (
              refl,
              (
                refl,
                (
                  refl,
                  (
                    refl,
                    (refl, (refl, (refl, (refl, (refl, (refl, (refl, (refl, (refl, (refl, tt)))))))))),
                  ),
                ),
              ),
            ),
          ),
        ),
      ),
    ),
  ),
)

-- each rule's place
rule_at : (r d : Rule) → get_or RULES (rule_number r - 1) d ≡ r
rule_at Sequence d = refl
rule_at Opening d = refl
rule_at Pools d = refl
rule_at UnitRule d = refl
rule_at Waiting d = refl
rule_at Grant d = refl
rule_at Lifetime d = refl
rule_at Release d = refl
rule_at Expiry d = refl
rule_at Backup d = refl
rule_at Reclaim d = refl
rule_at Serial d = refl
rule_at Update d = refl
rule_at Reply d = refl
rule_at Contact d = refl
rule_at Down d = refl
rule_at Restart d = refl
rule_at Head d = refl
rule_at Transit d = refl
rule_at Seize d = refl

pub record IsNumber (n : ℕ) : Type 0 where
  pub some : 0 < n
  pub most : n ≤ 20

is_number : (r : Rule) → IsNumber (rule_number r)
is_number Sequence = record { some = omega arith; most = omega arith }
is_number Opening = record { some = omega arith; most = omega arith }
is_number Pools = record { some = omega arith; most = omega arith }
is_number UnitRule = record { some = omega arith; most = omega arith }
is_number Waiting = record { some = omega arith; most = omega arith }
is_number Grant = record { some = omega arith; most = omega arith }
is_number Lifetime = record { some = omega arith; most = omega arith }
is_number Release = record { some = omega arith; most = omega arith }
is_number Expiry = record { some = omega arith; most = omega arith }
is_number Backup = record { some = omega arith; most = omega arith }
is_number Reclaim = record { some = omega arith; most = omega arith }
is_number Serial = record { some = omega arith; most = omega arith }
is_number Update = record { some = omega arith; most = omega arith }
is_number Reply = record { some = omega arith; most = omega arith }
is_number Contact = record { some = omega arith; most = omega arith }
is_number Down = record { some = omega arith; most = omega arith }
is_number Restart = record { some = omega arith; most = omega arith }
is_number Head = record { some = omega arith; most = omega arith }
is_number Transit = record { some = omega arith; most = omega arith }
is_number Seize = record { some = omega arith; most = omega arith }

-- the first rules, so many, are kept
abbrev pub KeepsFirst : BookState → Line → ℕ → Type 0
KeepsFirst b l n = (k : ℕ) → k < n → (d : Rule) → Keeps b l (get_or RULES k d)

pub kept_below : (b : BookState) (l : Line) (n : ℕ) (s : Rule) → KeepsFirst b l n → rule_number s ≤ n → Keeps b l s
kept_below b l n s kept le = let is = is_number s in
    subst (λ (r : Rule). Keeps b l r) (rule_at s s) (kept (rule_number s - 1) (omega (arith, is.some, le)) s)

pub all_kept : (b : BookState) (l : Line) (n : ℕ) → KeepsFirst b l n → 20 ≤ n → IsStep b l
all_kept b l n kept le s = let is = is_number s in kept_below b l n s kept (omega (arith, is.most))

pub first_broken : (b : BookState) (l : Line) (n : ℕ) (d : Rule) → KeepsFirst b l n → n < 20
    → (Keeps b l (get_or RULES n d) → ⊥) → IsLeastBroken b l (get_or RULES n d)
first_broken b l n d kept lt broken =
    let number = numbered_at 1 RULES n d all_numbered lt in
    record { broken = broken; least = λ s below. kept_below b l n s kept (omega (arith, below, number)) }

pub one_more : (b : BookState) (l : Line) (n : ℕ) (d : Rule) → KeepsFirst b l n → n < 20 → Keeps b l (get_or RULES n d)
    → KeepsFirst b l (n + 1)
one_more b l n d kept lt here = below_more (λ (k : ℕ). (e : Rule)
    → Keeps b l (get_or RULES k e)) n kept (λ e. subst (λ (r : Rule). Keeps b l r) (get_or_default RULES n d e lt) here)

-- rules of one number are one
pub one_number : (r s : Rule) → rule_number r ≡ rule_number s → r ≡ s
one_number r s e = sym (rule_at r r) ∙ (ap (λ (n : ℕ). get_or RULES (n - 1) r) e ∙ rule_at s r)
