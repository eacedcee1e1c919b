use Rattle.std.proofs.Common.{[], subst}
use Rattle.std.specs.Io.KnownBytes.{Appends}
use Rattle.attribution_desk.specs.Answer.{IsAnswerOf, IsDeskAnswer}
use Rattle.attribution_desk.specs.Warnings.{IsWarningOf, IsJudgingWarning}
use Rattle.attribution_desk.proofs.AllRead.{written, of_input, of_known}
use Rattle.attribution_desk.proofs.audit.audit_input.Goals as goal

pub finish-input-requires : goal.finish-input-requires
finish-input-requires g c = let taken = c.in_ok-intake.ensures.taken in (taken.0, taken.1 [] c.new.ensures)

pub returns-clause-written : goal.returns-clause-written
returns-clause-written g c =
    let taken = c.in_ok-intake.ensures.taken in
    let has = taken.1 [] c.new.ensures in
    let answer = c.in_ok-answer.answer in
    written (λ input. IsDeskAnswer input c.args.skew c.args.transit) _ _ _ taken.0 answer.line.items answer.status
    taken.2
    (of_input (λ a b rest. IsAnswerOf a b rest c.args.skew c.args.transit answer.line.items answer.status) taken.0 _ _ _
    (c.finish-input.ensures.primary taken.0 has) (c.finish-input.ensures.secondary taken.0 has)
    (c.finish-input.ensures.rest taken.0 has) c.in_ok-answer.ensures.answer)
    (subst (Appends (g.W.Write.contents c.args.writer.now.device) (g.W.Write.contents c.write_out.new.self.device))
    c.deref.ensures.value c.in_ok-write_out.ensures.bytes)

pub returns-clause-warned : goal.returns-clause-warned
returns-clause-warned g c =
    let taken = c.in_ok-intake.ensures.taken in
    let has = taken.1 [] c.new.ensures in
    of_known (λ input. IsJudgingWarning input c.args.skew c.args.transit c.in_ok-warnings.warnings.items) _ taken.0
    taken.2
    (of_input (λ a b rest. IsWarningOf a b c.args.skew c.args.transit c.in_ok-warnings.warnings.items) taken.0 _ _ _
    (c.finish-input.ensures.primary taken.0 has) (c.finish-input.ensures.secondary taken.0 has)
    (c.finish-input.ensures.rest taken.0 has) c.in_ok-warnings.ensures.warned)
