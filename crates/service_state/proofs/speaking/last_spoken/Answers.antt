use Rattle.std.proofs.Common.{ap, sym, ◌∙◌}
use Rattle.journal_lines.specs.declared.line.Line.{Line}
use Rattle.service_state.specs.Speaking.{spoken_in}
use Rattle.service_state.proofs.Spoken.{found, passed}
use Rattle.service_state.proofs.speaking.last_spoken.Goals as goal

pub returns-in-Some : goal.returns-in-Some
returns-in-Some c =
    found c.args.now c.args.lines.now c.loop-index.index c.index-lines-index.result c.loop-index-test.true
    c.loop-index.auto.index c.loop-index.invariant c.in-Some.reading
    (sym (ap (λ (l : Line). spoken_in l.reading l.event) c.index-lines-index.is)
    ∙ (sym c.spoken_in.ensures ∙ c.in-Some.is))

pub loop-index-preserved : goal.loop-index-preserved
loop-index-preserved c =
    passed c.args.now c.args.lines.now c.loop-index.index c.index-lines-index.result c.loop-index-test.true
    c.loop-index.auto.index c.loop-index.invariant
    (sym (ap (λ (l : Line). spoken_in l.reading l.event) c.index-lines-index.is)
    ∙ (sym c.spoken_in.ensures ∙ c.in-None.is))
