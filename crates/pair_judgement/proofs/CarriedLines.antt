-- The first lines of each journal that carry too much are the least ones of both.
use Rattle.std.specs.Prelude.{ℕ, List, None, Some}
use Rattle.binding_rules.specs.declared.role.Role.{Role}
use Rattle.binding_rules.specs.declared.role.Role.TheVariants.{Primary, Secondary}
use Rattle.journal_lines.specs.declared.line.Line.{Line}
use Rattle.journal_lines.specs.declared.line.Journal.{Journal}
use Rattle.causal_order.specs.Journals.{Journals, journal_of, journals_of}
use Rattle.causal_order.specs.LineOrder.{IsLeast}
use Rattle.journal_merge.specs.Waits.{IsFirst}
use Rattle.journal_merge.proofs.Refused.{Tells, least_primary, least_secondary, none_least}
use Rattle.pair_judgement.specs.Carrying.{opened_at, EndsTooLate, CarriesTooMuch, NoneCarriesTooMuch}

-- the line's end lies too late after the first of these lines
abbrev pub IsTooLateIn : List Line → Line → Type 0
IsTooLateIn lines line = EndsTooLate (opened_at lines) line.event

-- the numbers of such lines of a side are those of its lines that carry too much
tells : (js : Journals) (side : Role)
    → Tells (IsTooLateIn (journal_of js side)) (journal_of js side) (CarriesTooMuch js) side
tells js side n = (λ h. (h.0, (h.1, h.2), h.3), λ u. (u.0, u.1.0, u.1.1, u.2))

module _ (a b : Journal) where
  abbrev js : Journals
  js = journals_of a b

  pub of_primary : (n : ℕ) → IsFirst (IsTooLateIn a.lines) a.lines (Some n)
      → IsLeast (CarriesTooMuch (journals_of a b)) (record { side = Primary; number = n })
  of_primary n first =
      least_primary (IsTooLateIn a.lines) (IsTooLateIn b.lines) a.lines b.lines (CarriesTooMuch js) (tells js Primary)
      (tells js Secondary) n first

  pub of_secondary : (n : ℕ) → IsFirst (IsTooLateIn a.lines) a.lines None
      → IsFirst (IsTooLateIn b.lines) b.lines (Some n)
      → IsLeast (CarriesTooMuch (journals_of a b)) (record { side = Secondary; number = n })
  of_secondary n none first =
      least_secondary (IsTooLateIn a.lines) (IsTooLateIn b.lines) a.lines b.lines (CarriesTooMuch js)
      (tells js Primary) (tells js Secondary) n none first

  pub of_neither : IsFirst (IsTooLateIn a.lines) a.lines None → IsFirst (IsTooLateIn b.lines) b.lines None
      → NoneCarriesTooMuch (journals_of a b)
  of_neither none none_other =
      none_least (IsTooLateIn a.lines) (IsTooLateIn b.lines) a.lines b.lines (CarriesTooMuch js) (tells js Primary)
      (tells js Secondary) none none_other
