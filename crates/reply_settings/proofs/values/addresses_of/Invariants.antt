use Rattle.reply_settings.specs.Values.{address_of}
use Rattle.reply_settings.proofs.Lists.{IsReadOn}
use Rattle.reply_settings.proofs.values.addresses_of.Given as goal

abbrev pub invariant-loop-value : goal.invariant-loop-value
invariant-loop-value l = IsReadOn address_of l.addresses.items l.value-index l.values
