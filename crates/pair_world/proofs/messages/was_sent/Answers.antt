use Rattle.std.proofs.Common.{arith, sym, ◌∙◌, Some, ap, refl}
use Rattle.pair_world.proofs.Numbers.{line_there, sent_here, past_another, past_silent}
use Rattle.pair_world.proofs.messages.was_sent.Goals as goal
use Rattle.pair_world.proofs.messages.was_sent.Goals.{in-Some+else-is_same, in-None}

pub returns-then-is_same : goal.returns-then-is_same
returns-then-is_same c =
    let same = c.is_same.ensures.0 c.if-is_same.true in (
      λ yes'. sent_here c.args.lines.now c.args.message.now c.loop-line.line-index c.line-item.result
          (line_there c.args.lines.now c.loop-line.line-index c.line-item.result (omega arith) c.line-item.is)
          (sym c.message_in.ensures ∙ (c.in-Some.is ∙ ap (λ m. Some m) same)) c.loop-line.invariant,
      λ sent. refl,
    )

pub loop-line-preserved : goal.loop-line-preserved
loop-line-preserved c = elim c.match-message_in.branch [
  | in-Some+else-is_same w ↦ past_another c.args.lines.now c.args.message.now c.loop-line.line-index c.line-item.result
      w.in-Some.sent (line_there c.args.lines.now c.loop-line.line-index c.line-item.result
      (omega arith) c.line-item.is) (sym c.message_in.ensures ∙ w.in-Some.is) (λ e. let z =
      w.is_same.ensures.1 e in let n = w.if-is_same.false in absurd (cc)) c.loop-line.invariant
  | in-None w ↦ past_silent c.args.lines.now c.args.message.now c.loop-line.line-index c.line-item.result
      (line_there c.args.lines.now c.loop-line.line-index c.line-item.result (omega arith) c.line-item.is)
      (sym c.message_in.ensures ∙ w.in-None.is) c.loop-line.invariant
]
