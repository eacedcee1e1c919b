-- A mail's date spells one moment.
use Rattle.std.proofs.Common.{◌≡◌, ℕ, List, sym, ◌∙◌, ap}
use Rattle.std.specs.Prelude.{ℤ, pos, int_div, nat_abs, Result, Ok, Err}
use Rattle.jiff_core.specs.declared.error.Error.{Error}
use Rattle.report_times.specs.MailDates.{IsDated}

abbrev value : Result ℤ Error → ℤ
value (Ok t) = t
value (Err e) = pos 0

pub one_date : (text : List ℕ) (m n : ℕ) → IsDated text m → IsDated text n → m ≡ n
one_date text m n (s, read, is) (t, read-2, is-2) =
    let same = ap value (sym read ∙ read-2) in
    ap nat_abs (sym is ∙ ap (λ x. int_div x (pos 1000000)) same ∙ is-2)
