use Rattle.std.specs.Io.KnownBytes.{Keeps}
use Rattle.attribution_desk.proofs.watched.read_whole.Given as goal

abbrev pub invariant-loop : goal.invariant-loop
invariant-loop g l = Keeps (g.D.Read.remaining l.initial.device) (g.D.Read.remaining l.device)
