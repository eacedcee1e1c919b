use Rattle.std.proofs.Common.{◌≡◌, take}
use Rattle.router_options.specs.Choosing.{chosen}
use Rattle.router_options.proofs.choosing.chosen.Given as goal

abbrev pub invariant-loop-option : goal.invariant-loop-option
invariant-loop-option l = l.given.items ≡ chosen l.occasion l.requested (take l.option-index l.options)
