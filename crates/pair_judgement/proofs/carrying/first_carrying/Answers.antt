use Rattle.std.specs.Prelude.{List, Option, Some}
use Rattle.std.proofs.Common.{subst, sym}
use Rattle.journal_lines.specs.declared.line.Line.{Line}
use Rattle.causal_order.specs.declared.reference.Ref.{Ref}
use Rattle.causal_order.specs.Journals.{journals_of}
use Rattle.journal_merge.specs.Waits.{IsFirst}
use Rattle.pair_judgement.specs.Carrying.{IsFirstCarrying}
use Rattle.pair_judgement.proofs.CarriedLines.{IsTooLateIn, of_primary, of_secondary, of_neither}
use Rattle.pair_judgement.proofs.carrying.first_carrying.Goals as goal

pub returns-in-Some : goal.returns-in-Some
returns-in-Some c =
    let n = c.in-Some.number in
    let first = subst (λ (ls : List Line). IsFirst (IsTooLateIn ls) ls (Some n)) c.as_slice.ensures c.in-Some.ensures in
    of_primary c.args.primary.now c.args.secondary.now n first

pub returns-in_err-number : goal.returns-in_err-number
returns-in_err-number c =
    let a = c.args.primary.now in
    let b = c.args.secondary.now in
    let first = subst (λ (ls : List Line). IsFirst (IsTooLateIn ls) ls c.first_of.result) c.as_slice.ensures
    c.first_of.ensures in
    let second = subst (λ (ls : List Line). IsFirst (IsTooLateIn ls) ls c.first_of-2.result) c.as_slice-2.ensures
    c.first_of-2.ensures in
    let none = subst (IsFirst (IsTooLateIn a.lines) a.lines) c.in_default.is first in
    let none_other = subst (IsFirst (IsTooLateIn b.lines) b.lines) c.in_err-number.was second in
    subst (λ (r : Option Ref). IsFirstCarrying (journals_of a b) r) (sym c.from_residual.ensures)
    (of_neither a b none none_other)

pub returns : goal.returns
returns c =
    let a = c.args.primary.now in
    let b = c.args.secondary.now in
    let first = subst (λ (ls : List Line). IsFirst (IsTooLateIn ls) ls c.first_of.result) c.as_slice.ensures
    c.first_of.ensures in
    let second = subst (λ (ls : List Line). IsFirst (IsTooLateIn ls) ls c.first_of-2.result) c.as_slice-2.ensures
    c.first_of-2.ensures in
    let none = subst (IsFirst (IsTooLateIn a.lines) a.lines) c.in_default.is first in
    let some = subst (IsFirst (IsTooLateIn b.lines) b.lines) c.in_ok-number.was second in
    of_secondary a b c.in_ok-number.number none some
