use Rattle.std.proofs.Common.{◌≡◌, length, drop}
use Rattle.parallel_check.specs.Findings.{placed}
use Rattle.parallel_check.proofs.settling.place.Given as goal

abbrev pub invariant-loop-f : goal.invariant-loop-f
invariant-loop-f l = record {
  room : length l.verdicts ≡ length l.initial.verdicts;
  rest : placed (drop l.f-index l.found) l.verdicts ≡ placed l.found l.initial.verdicts;
}
