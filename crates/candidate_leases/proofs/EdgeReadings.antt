-- Where journals begin and end.
use Rattle.std.specs.Prelude.{◌≡◌, ℕ, ◌+◌, ◌≤◌, List, [], ◌∷◌, Some, None, slice_get, Contains as Has}
use Rattle.std.proofs.Common.{arith, refl}
use Rattle.binding_rules.specs.declared.role.Role.{Role}
use Rattle.binding_rules.specs.declared.role.Role.TheVariants.{Primary, Secondary}
use Rattle.journal_lines.specs.declared.line.Line.{Line}
use Rattle.causal_order.specs.Journals.{Journals, journal_of, open_of}
use Rattle.auditor.specs.Closing.{ClosesAt}
use Rattle.evidence_report.specs.declared.mark.LineReading.{LineReading}
use Rattle.evidence_report.specs.Marks.{mark_of}
use Rattle.candidate_leases.specs.Conditions.{Asked, OpensAt, IsBeforeClose, IsBeforeFirst}
use Rattle.candidate_leases.proofs.Listed.{marked, unmarked, one_reading}

module _ (js : Journals) (side : Role) where
  pub opens_by_mark : (m : LineReading) → Some m ≡ mark_of js (open_of side) → OpensAt js side m.reading
  opens_by_mark m e = (marked js (open_of side) m e).1

  -- a journal that is closed has a first line
  first_line : (x : ℕ) → ClosesAt (journal_of js side) x → (l : Line) × (slice_get (journal_of js side) 0 ≡ Some l)
  first_line x closes = first_of (journal_of js side) closes.some.0 closes.some.1 where
    first_of : (lines : List Line) (l : Line) → Has lines l → (f : Line) × (slice_get lines 0 ≡ Some f)
    first_of [] l has = let lt = has.1 in absurd (omega arith)
    first_of (f ∷ fs) l has = (f, refl)

  pub opens_anyway : (x y : ℕ) → None ≡ mark_of js (open_of side) → ClosesAt (journal_of js side) x → OpensAt js side y
  opens_anyway x y none closes =
      let first = first_line x closes in
      absurd (unmarked js (open_of side) first.0 none (omega arith, first.1))

  pub after_first : (q : Asked) (x : ℕ) → OpensAt js side x → x ≤ q.at + q.skew → (opened : ℕ)
      → IsBeforeFirst js q side opened → ⊥
  after_first q x opens le opened h =
      let same = one_reading js (open_of side) x opened opens h.1 in
      let lt = h.2 in
      absurd (omega arith)

pub before_both : (js : Journals) (q : Asked) → IsBeforeClose js q Primary → IsBeforeClose js q Secondary
    → (side : Role) → IsBeforeClose js q side
before_both js q a b Primary = a
before_both js q a b Secondary = b
