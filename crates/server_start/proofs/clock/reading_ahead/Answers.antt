use Rattle.std.proofs.Common.{ℕ, sym, subst, refl, rules}
use Rattle.server_start.specs.Clock.{IsClockBehind}
use Rattle.server_start.proofs.LastLine.{reading_of_last}
use Rattle.server_start.proofs.clock.reading_ahead.Goals as goal

pub returns-then-is_behind-clause-behind : goal.returns-then-is_behind-clause-behind
returns-then-is_behind-clause-behind c =
    let last = reading_of_last c.args.book.now _ _ c.journal.ensures.lines c.in_ok-last.ensures.value in
    (sym last, c.is_behind.ensures.0 (search rules))

pub returns-then-is_behind-clause-fit : goal.returns-then-is_behind-clause-fit
returns-then-is_behind-clause-fit c =
    let last = reading_of_last c.args.book.now _ _ c.journal.ensures.lines c.in_ok-last.ensures.value in (
      λ e. absurd (cc),
      λ fit. absurd (fit (subst (λ (n : ℕ). IsClockBehind c.args.now n c.args.skew) (sym last)
          (c.is_behind.ensures.0 (search rules)))),
    )

pub returns-else-is_behind-clause-fit : goal.returns-else-is_behind-clause-fit
returns-else-is_behind-clause-fit c =
    let last = reading_of_last c.args.book.now _ _ c.journal.ensures.lines c.in_ok-last.ensures.value in (
      λ e behind. let yes = c.is_behind.ensures.1 (subst (λ (n : ℕ). IsClockBehind c.args.now n c.args.skew) last behind) in
          absurd (search rules),
      λ fit. refl,
    )
