use Rattle.std.proofs.Common.{refl}
use Rattle.link_auth.proofs.HmacLaws.{pad_step, pad_end}
use Rattle.link_auth.proofs.coder.with_pad.Goals as goal

pub loop-i-init : goal.loop-i-init
loop-i-init c = record { whole = refl; front = refl }

pub loop-i-preserved : goal.loop-i-preserved
loop-i-preserved c = pad_step c.args.pad c.args.block.now c.loop-i.combined c.loop-i.i c.told-block c.loop-i-test.true
    c.loop-i.invariant

pub returns : goal.returns
returns c = pad_end c.args.pad c.args.block.now c.loop-i.combined c.loop-i.i c.told-block c.loop-i-test.false
    c.loop-i.invariant
