use Rattle.std.proofs.Common.{rules, ◌≡◌, ◌≤◌, length, sym}
use Rattle.pair_judgement.proofs.Settings.{goes_on, differs, ends}
use Rattle.pair_judgement.proofs.ties.are_alike.Goals as goal
use Rattle.pair_judgement.proofs.ties.are_alike.Goals.{then-loop-i-test+else-j-second, else-loop-i-test}

pub returns-then-not-say_the_same : goal.returns-then-not-say_the_same
returns-then-not-say_the_same c =
    differs c.args.first.now c.args.second.now c.loop-i.i c.loop-i.j c.index-first-i.result c.index-second-j.result
    (search rules) (search rules)
    c.loop-i.invariant.2 c.loop-i.invariant.3 c.index-first-i.is c.index-second-j.is _
    (search rules) c.loop-i.invariant.4

pub loop-i-preserved : goal.loop-i-preserved
loop-i-preserved c = (
  c.next_setting-i-in-loop-i.ensures.within,
  c.next_setting-j-in-loop-i.ensures.within,
  c.next_setting-i-in-loop-i.ensures.found,
  c.next_setting-j-in-loop-i.ensures.found,
  goes_on c.args.first.now c.args.second.now c.loop-i.i c.loop-i.j c.index-first-i.result c.index-second-j.result
      (search rules) (search rules)
      c.loop-i.invariant.2 c.loop-i.invariant.3 c.index-first-i.is c.index-second-j.is _ _ _
      (search rules) c.loop-i.invariant.4
      c.next_setting-i-in-loop-i.ensures.skipped c.next_setting-j-in-loop-i.ensures.skipped,
)

pub returns-then-i-first : goal.returns-then-i-first
returns-then-i-first c =
    ends c.args.first.now c.args.second.now c.loop-i.i c.loop-i.j (let e = c.if-i-first.true in
    search rules) c.loop-i.invariant.3 _
    c.loop-i.invariant.1 c.loop-i.invariant.4

pub returns-else-i-first : goal.returns-else-i-first
returns-else-i-first c =
    let is = c.loop-i.invariant.4 in
    let most = c.loop-i.invariant.0 in
    let past : length c.args.second.now ≤ c.loop-i.j = elim c.loop-i-test.branch [
      | then-loop-i-test+else-j-second w ↦ let t = w.if-j-second in search rules
      | else-loop-i-test w ↦ let t = w.loop-i-test in let e : c.loop-i.i ≡ length c.args.first.now = search rules in
          absurd (c.if-i-first.false e)
    ] in
    ends c.args.second.now c.args.first.now c.loop-i.j c.loop-i.i past c.loop-i.invariant.2 _ most (
      λ e. is.0 (sym e),
      λ w. sym (is.1 w),
    )
