use Rattle.std.proofs.Common.{rules}
use Rattle.join_desk.proofs.Rows.{rest_step}
use Rattle.join_desk.proofs.choosing.volume_at.Goals as goal

pub loop-rest-preserved : goal.loop-rest-preserved
loop-rest-preserved c =
    rest_step c.args.volumes.now c.args.number c.loop-rest.rest.now c.volume-item.result c.in-len1-up.len_at_least
    c.volume-item.is (λ e. let f = c.if-volume-number.false in search rules) c.loop-rest.invariant
