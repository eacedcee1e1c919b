use Rattle.std.proofs.Common.{◌≡◌, take}
use Rattle.service_state.specs.Speaking.{last_spoken}
use Rattle.service_state.proofs.speaking.last_spoken.Given as goal

abbrev pub invariant-loop-index : goal.invariant-loop-index
invariant-loop-index l = last_spoken l.now (take l.index l.lines) ≡ last_spoken l.now l.lines
