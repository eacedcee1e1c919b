-- What refuses two journals, and what checking them answers.
use Rattle.std.specs.Prelude.{◌+◌, ◌^◌, ◌<◌, ◌≤◌, List, [], ◌∷◌, length, Result, Ok, Err, IfOk}
use Rattle.std.proofs.Common.{arith, inl, inr}
use Rattle.binding_rules.specs.declared.role.Role.{Role}
use Rattle.binding_rules.specs.declared.role.Role.TheVariants.{Primary, Secondary}
use Rattle.journal_lines.specs.declared.line.Journal.{Journal}
use Rattle.journal_lines.specs.declared.line.Line.{Line}
use Rattle.journal_lines.specs.Head.{volume_number}
use Rattle.causal_order.specs.Journals.{journals_of}
use Rattle.book_rules.specs.declared.rule.Rule.TheVariants.{Sequence}
use Rattle.book_state.specs.Book.{BookState, blank}
use Rattle.book_state.specs.Effects.{after}
use Rattle.book_rules.specs.VolumeRules.{KeepsSequence}
use Rattle.book_rules.specs.Volumes.{AreSteps}
use Rattle.attribution.specs.declared.verdict.Verdict.TheVariants.{Accepted}
use Rattle.auditor.specs.declared.error.AuditError.{AuditError}
use Rattle.auditor.specs.declared.pair.Checked.{Checked}
use Rattle.auditor.specs.declared.pair.Checked.TheVariants.{Legal, Refused}
use Rattle.auditor.specs.Pair.{IsUnbroken, IsPairRefused, IsOrdered, IsChecked}

-- ---- a journal that keeps the rules is short

few_more : (ls : List Line) (b : BookState) → AreSteps b ls → b.count ≤ 2 ^ 20 → b.count + length ls ≤ 2 ^ 20
few_more [] b steps few = omega arith
few_more (l ∷ ls) b steps few =
    let s : KeepsSequence b l = steps.0 Sequence in
    let n = s.number in
    let m = s.few in
    let rest = few_more ls (after b l) steps.1 m in
    omega arith

pub few_lines : (side : Role) (j : Journal) → IsUnbroken side j → length j.lines < 2 ^ 32
few_lines side j h = let few = few_more j.lines (blank side (volume_number j.head)) h (omega arith) in omega arith

-- ---- what checking answers

pub ordered_checked : (a b : Journal) (r : Result Checked AuditError) → IsUnbroken Primary a → IsUnbroken Secondary b
    → IfOk r (IsOrdered (journals_of a b)) → IfOk r (IsChecked a b)
ordered_checked a b (Ok (Legal merged)) p q h = ((p, q, h.0, h.1), h.2)
ordered_checked a b (Ok (Refused v)) p q h = inr (p, inr (q, h))
ordered_checked a b (Err e) p q h = tt

-- no refusal is that the certificate is accepted
pub refused_not_accepted : (a b : Journal) → IsPairRefused a b Accepted → ⊥
refused_not_accepted a b (inl h) = let x = h.2 in absurd (cc)
refused_not_accepted a b (inr (p, inl h)) = let x = h.2 in absurd (cc)
refused_not_accepted a b (inr (p, inr (q, inl h))) = let x = h.1 in absurd (cc)
refused_not_accepted a b (inr (p, inr (q, inr (inl h)))) = let x = h.1.1 in absurd (cc)
refused_not_accepted a b (inr (p, inr (q, inr (inr h)))) = let x = h.1 in absurd (cc)
