use Rattle.std.proofs.Common.{◌≡◌, length}
use Rattle.joined_answers.specs.Reach.{longest_in}
use Rattle.joined_answers.proofs.reach.longest_in.Given as goal

abbrev pub invariant-loop-rest : goal.invariant-loop-rest
invariant-loop-rest l = longest_in l.so_far l.rest ≡ longest_in l.fn.bounds l.volumes

abbrev pub decreases-loop-rest : goal.decreases-loop-rest
decreases-loop-rest l = length l.rest
