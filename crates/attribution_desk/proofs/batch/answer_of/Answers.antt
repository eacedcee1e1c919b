use Rattle.std.proofs.Common.{◌++◌, flat_map, ap, ◌∙◌}
use Rattle.pair_judgement.specs.Judgements.{judgement_line}
use Rattle.attribution_desk.proofs.Batches.{line_more, line_whole}
use Rattle.attribution_desk.proofs.batch.answer_of.Goals as goal

pub loop-ruling-init : goal.loop-ruling-init
loop-ruling-init c = ap (λ t. t ++ flat_map judgement_line c.args.rulings.now) c.new-line.ensures.items

pub loop-ruling-preserved : goal.loop-ruling-preserved
loop-ruling-preserved c = line_more c.args.rulings.now c.loop-ruling.ruling-index _ c.loop-ruling.line.items
    c.extend_from_slice.new.self.items c.loop-ruling-test.true c.loop-ruling.invariant
    (c.in_ok-extend_from_slice.ensures.items
    ∙ ap (λ t. c.loop-ruling.line.items ++ t) (c.deref.ensures.value ∙ c.in_ok-judgement_line.ensures))

pub returns-clause-line : goal.returns-clause-line
returns-clause-line c = line_whole c.args.rulings.now c.loop-ruling.ruling-index c.loop-ruling.line.items
    c.loop-ruling-test.false c.loop-ruling.invariant
