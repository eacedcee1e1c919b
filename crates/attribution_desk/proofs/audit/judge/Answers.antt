use Rattle.std.proofs.Common.{[]}
use Rattle.std.specs.Prelude.{◌≡◌, ℕ, List, Result, Ok, Err, IfOk}
use Rattle.attribution_desk.specs.Answer.{IsAnswerOf, IsDeskAnswer}
use Rattle.attribution_desk.specs.declared.answer.DeskAnswer.{DeskAnswer}
use Rattle.attribution_desk.specs.declared.error.DeskError.{DeskError}
use Rattle.attribution_desk.specs.Headline.{IsTrueOfTexts}
use Rattle.attribution_desk.proofs.AllRead.{of_input}
use Rattle.attribution_desk.proofs.Headline.{answer_true}
use Rattle.attribution_desk.proofs.audit.judge.Goals as goal

pub finish-requires : goal.finish-requires
finish-requires g c = (c.args.input.now, c.in_ok-intake.ensures.taken [] c.new.ensures)

pub returns-clause-answer : goal.returns-clause-answer
returns-clause-answer g c =
    let has = c.in_ok-intake.ensures.taken [] c.new.ensures in
    of_input (λ a b rest. IfOk c.answer_to.result
    (λ answer. IsAnswerOf a b rest c.args.skew c.args.transit answer.line.items answer.status)) c.args.input.now _
    _ _
    (c.finish.ensures.primary _ has) (c.finish.ensures.secondary _ has)
    (c.finish.ensures.rest _ has) c.answer_to.ensures.answer

pub returns-clause-headline : goal.returns-clause-headline
returns-clause-headline g c =
    let has = c.in_ok-intake.ensures.taken [] c.new.ensures in
    of_answer c.args.input.now c.args.skew c.args.transit c.answer_to.result
    (of_input (λ a b rest. IfOk c.answer_to.result
    (λ answer. IsAnswerOf a b rest c.args.skew c.args.transit answer.line.items answer.status)) c.args.input.now _
    _ _
    (c.finish.ensures.primary _ has) (c.finish.ensures.secondary _ has)
    (c.finish.ensures.rest _ has) c.answer_to.ensures.answer) where
      of_answer : (input : List ℕ) (skew transit : ℕ) (r : Result DeskAnswer DeskError)
          → IfOk r (λ answer. IsDeskAnswer input skew transit answer.line.items answer.status)
          → IfOk r (λ answer. answer.status ≡ 0 → IsTrueOfTexts input skew transit)
      of_answer input skew transit (Ok answer) h =
          λ zero. answer_true c.accepted_texts_are_true.ensures input answer.line.items skew transit answer.status h
          zero
      of_answer input skew transit (Err e) h = tt
