use Rattle.std.proofs.Common.{arith, sym, ◌∙◌}
use Rattle.pair_world.proofs.Numbers.{line_there, here_at, past_other, past_none}
use Rattle.pair_world.proofs.messages.message_at.Goals as goal
use Rattle.pair_world.proofs.messages.message_at.Goals.{in-Some+else-left-eq1, in-None}

pub returns-then-left-eq1 : goal.returns-then-left-eq1
returns-then-left-eq1 c = here_at c.args.lines.now c.args.number c.loop-line.line-index c.line-item.result
    c.in-Some.message c.loop-line.left (line_there c.args.lines.now c.loop-line.line-index c.line-item.result
    (omega arith) c.line-item.is) (sym c.message_in.ensures ∙ c.in-Some.is) c.if-left-eq1.true c.loop-line.invariant

pub loop-line-preserved : goal.loop-line-preserved
loop-line-preserved c = elim c.match-message_in.branch [
  | in-Some+else-left-eq1 w ↦ past_other c.args.lines.now c.args.number c.loop-line.line-index c.line-item.result
      w.in-Some.message c.loop-line.left c.match-message_in.left
      (line_there c.args.lines.now c.loop-line.line-index c.line-item.result (omega arith) c.line-item.is)
      (sym c.message_in.ensures ∙ w.in-Some.is) (omega arith) c.loop-line.invariant
  | in-None w ↦ past_none c.args.lines.now c.args.number c.loop-line.line-index c.line-item.result c.loop-line.left
      c.match-message_in.left (line_there c.args.lines.now c.loop-line.line-index c.line-item.result
      (omega arith) c.line-item.is) (sym c.message_in.ensures ∙ w.in-None.is) w.left-is c.loop-line.invariant
]
