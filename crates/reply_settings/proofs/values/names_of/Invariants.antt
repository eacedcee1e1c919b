use Rattle.reply_settings.specs.Values.{name_of}
use Rattle.reply_settings.proofs.Lists.{IsReadOn}
use Rattle.reply_settings.proofs.values.names_of.Given as goal

abbrev pub invariant-loop-value : goal.invariant-loop-value
invariant-loop-value l = IsReadOn name_of l.names.items l.value-index l.values
