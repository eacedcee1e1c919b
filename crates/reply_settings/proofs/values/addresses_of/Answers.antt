use Rattle.std.proofs.Common.{rules}
use Rattle.reply_settings.specs.Values.{address_of}
use Rattle.reply_settings.proofs.Lists.{goes_on, misses_all, ends}
use Rattle.reply_settings.proofs.values.addresses_of.Goals as goal

pub returns-in-Err : goal.returns-in-Err
returns-in-Err c = misses_all address_of _ _ _ _ c.args.fault c.in-Err.error c.loop-value.invariant c.loop-value-test.true
    c.value-item.is c.in-Err.ensures

pub loop-value-preserved : goal.loop-value-preserved
loop-value-preserved c = goes_on address_of _ _ _ _ _ c.in-Ok.address c.loop-value.invariant c.loop-value-test.true
    c.value-item.is c.in-Ok.ensures (search rules)

pub returns : goal.returns
returns c = ends address_of _ _ _ c.loop-value.invariant c.loop-value-test.false
