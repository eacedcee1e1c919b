use Rattle.std.proofs.Common.{[], subst}
use Rattle.std.specs.Io.KnownBytes.{Appends}
use Rattle.attribution_desk.specs.Clocks.{IsClocksOf, IsClocks}
use Rattle.attribution_desk.proofs.AllRead.{written, of_pair}
use Rattle.attribution_desk.proofs.clocks.clocks_input.Goals as goal

pub returns-clause-written : goal.returns-clause-written
returns-clause-written g c =
    let taken = c.in_ok-intake.ensures.taken in
    let has = taken.1 [] c.new.ensures in
    let answer = c.in_ok-answer.answer in
    written (λ input. IsClocks input) _ _ _ taken.0 answer.line.items answer.status taken.2
    (of_pair (λ a b. IsClocksOf a b answer.line.items answer.status) taken.0 _ _
    (c.finish-pair.ensures.primary taken.0 has) (c.finish-pair.ensures.secondary taken.0 has)
    c.in_ok-answer.ensures.answer)
    (subst (Appends (g.W.Write.contents c.args.writer.now.device) (g.W.Write.contents c.write_out.new.self.device))
    c.deref.ensures.value c.in_ok-write_out.ensures.bytes)
