use Rattle.std.proofs.Common.{◌≡◌, ℕ, ℤ, pos, ◌+ℤ◌, ◌*ℤ◌, subst, rules}
use Rattle.zone_times.specs.Shown.{IsAheadAt}
use Rattle.zone_times.proofs.Says.{same_moment, seconds_kept}
use Rattle.zone_times.proofs.zone.ZoneFile.moment_at.Goals as goal

pub returns-in_err-seconds_at-clause-none : goal.returns-in_err-seconds_at-clause-none
returns-in_err-seconds_at-clause-none c none m within is =
    let shown_is = subst (λ (s : ℤ). pos c.args.shown ≡ pos c.in_ok-moment.moment +ℤ (pos 1000 *ℤ s))
    (seconds_kept c.args.offset) c.in_ok-moment.ensures.given in
    let same = same_moment c.args.shown c.args.offset.seconds m c.in_ok-moment.moment is.shown_is shown_is in
    c.seconds_at.ensures.none (search rules) c.args.offset.seconds
    (subst (λ (n : ℕ). IsAheadAt c.args.self.now.table n c.args.offset.seconds) same is.ahead)

pub returns-then-branch-offset-clause-none : goal.returns-then-branch-offset-clause-none
returns-then-branch-offset-clause-none c none m within is =
    let shown_is = subst (λ (s : ℤ). pos c.args.shown ≡ pos c.in_ok-moment.moment +ℤ (pos 1000 *ℤ s))
    (seconds_kept c.args.offset) c.in_ok-moment.ensures.given in
    let same = same_moment c.args.shown c.args.offset.seconds m c.in_ok-moment.moment is.shown_is shown_is in
    let ahead = (subst (λ (n : ℕ). IsAheadAt c.args.self.now.table n c.args.offset.seconds) same is.ahead).offset in
    let given = c.in_ok-seconds_at.ensures.given.offset in
    let kept = seconds_kept c.args.offset in
    search rules
