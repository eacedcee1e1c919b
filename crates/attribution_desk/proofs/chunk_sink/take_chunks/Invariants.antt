use Rattle.std.specs.Prelude.{ℕ, List, ◌++◌}
use Rattle.std.specs.Io.KnownBytes.{Consumes}
use Rattle.attribution_desk.specs.Intake.{TakesOn}
use Rattle.attribution_desk.proofs.chunk_sink.take_chunks.Given as goal

abbrev pub invariant-loop-gathered : goal.invariant-loop-gathered
invariant-loop-gathered g l =
    (input : List ℕ) × TakesOn g.T.ChunkSink.has_taken l.initial.taker input l.taker
    × Consumes (g.R.Read.remaining l.initial.reader.device) (g.R.Read.remaining l.reader.device) (input
    ++ l.gathered.items)

abbrev pub decreases-loop-gathered : goal.decreases-loop-gathered
decreases-loop-gathered g l = l.reader.turns
