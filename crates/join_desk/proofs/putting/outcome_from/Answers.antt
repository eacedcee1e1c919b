use Rattle.std.proofs.Common.{rules}
use Rattle.join_desk.proofs.Outcomes.{go_step}
use Rattle.join_desk.proofs.putting.outcome_from.Goals as goal

pub loop-rest-preserved : goal.loop-rest-preserved
loop-rest-preserved g c =
    go_step (g.F.JournalFiles.had c.args.files.now) c.args.begun c.args.first c.args.later.now c.loop-rest.joined
    c.loop-rest.count c.loop-rest.before c.loop-rest.rest.now c.filed-item.result c.in_ok-volume.volume c.in-Ok.joined
    c.in-len1-up.len_at_least c.filed-item.is c.loop-rest.invariant c.in_ok-volume.ensures
    (λ out. let t = c.is_left_out.ensures.1 out in let n = c.if-is_left_out.false in search rules)
    c.in-Ok.ensures.joined.0 c.in-Ok.ensures.joined.1 c.in-Ok.ensures.joined.2
