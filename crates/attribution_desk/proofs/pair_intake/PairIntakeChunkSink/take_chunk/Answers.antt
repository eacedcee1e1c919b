use Rattle.std.proofs.lemmas.List.{take_rest}
use Rattle.attribution_desk.proofs.Intakes.{pair_taken}
use Rattle.attribution_desk.proofs.pair_intake.PairIntakeChunkSink.take_chunk.Goals as goal

pub returns-clause-taken : goal.returns-clause-taken
returns-clause-taken g c =
    pair_taken c.args.self _ c.args.chunk.now c.in_ok-primary.primary c.in_ok-primary.ensures.taken
    c.in_ok-primary.ensures.rest
    (rw take_rest at c.in_ok-read_on.ensures.read)
