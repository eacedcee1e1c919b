use Rattle.std.proofs.Common.{◌≡◌, length}
use Rattle.text_fields.specs.Cuts.{split}
use Rattle.router_options.specs.Names.{labels_on}
use Rattle.router_options.proofs.name.push_labels.Given as goal

abbrev pub invariant-loop-label : goal.invariant-loop-label
invariant-loop-label l = labels_on l.out.items l.labels ≡ labels_on l.fn.out.items (split 46 l.text)

abbrev pub decreases-loop-label : goal.decreases-loop-label
decreases-loop-label l = length l.labels
