use Rattle.std.proofs.Common.{rules, ◌≡◌, ◌+◌, ◌++◌, drop, ap, sym}
use Rattle.std.proofs.Math.Path.{subst₂}
use Rattle.attribution_desk.specs.Claims.{woven}
use Rattle.attribution_desk.proofs.Batches.{woven_fault, woven_ruling, woven_short, woven_whole, none_left}
use Rattle.attribution_desk.proofs.batch.woven.Goals as goal
use Rattle.attribution_desk.proofs.batch.woven.Goals.{in-Some+in_ok-push-in-Some}
use Rattle.attribution_desk.proofs.batch.woven.Goals.{in-None+in-Some-split_first+in_ok-push-in-None}

pub loop-fault-init : goal.loop-fault-init
loop-fault-init c = ap (λ t. t ++ woven c.args.faults.now c.args.ruled.now) c.new-rulings.ensures.items

pub loop-fault-preserved : goal.loop-fault-preserved
loop-fault-preserved c = elim c.match-fault.branch [
  | in-Some+in_ok-push-in-Some w ↦ subst₂ (λ v r. v.items
      ++ woven (drop (c.loop-fault.fault-index + 1) c.args.faults.now) r.now
      ≡ woven c.args.faults.now c.args.ruled.now) (sym w.rulings-is) (sym w.rest-is)
      (woven_fault c.args.faults.now c.loop-fault.fault-index _ c.loop-fault.rulings.items c.loop-fault.rest.now _
      c.loop-fault-test.true c.loop-fault.invariant _ w.push.new.self.items w.in-Some.is
      w.in_ok-push-in-Some.ensures.items)
  | in-None+in-Some-split_first+in_ok-push-in-None w ↦ subst₂ (λ v r. v.items
      ++ woven (drop (c.loop-fault.fault-index + 1) c.args.faults.now) r.now
      ≡ woven c.args.faults.now c.args.ruled.now) (sym w.rulings-is) (sym w.rest-is)
      (woven_ruling c.args.faults.now c.loop-fault.fault-index _ c.loop-fault.rulings.items c.loop-fault.rest.now _
      c.loop-fault-test.true c.loop-fault.invariant _ _ w.push-in-None.new.self.items w.in-None.is
      w.in-Some-split_first.ensures.cases.0 w.in_ok-push-in-None.ensures.items)
]

pub returns-in_default : goal.returns-in_default
returns-in_default c = woven_short c.args.faults.now c.loop-fault.fault-index _ c.loop-fault.rulings.items
    c.loop-fault.rest.now _ c.loop-fault-test.true c.loop-fault.invariant c.in-None.is
    (none_left c.loop-fault.rest.now (search rules))

pub returns : goal.returns
returns c = woven_whole c.args.faults.now c.loop-fault.fault-index c.loop-fault.rulings.items c.loop-fault.rest.now _
    c.loop-fault-test.false c.loop-fault.invariant
