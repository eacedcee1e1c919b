use Rattle.std.proofs.Common.{inl, subst}
use Rattle.pair_judgement.specs.Clocked.{IsClocked}
use Rattle.attribution_desk.proofs.clocks.answer_on.Goals as goal

pub returns-in_ok-answer-in-Refused-clause-answer : goal.returns-in_ok-answer-in-Refused-clause-answer
returns-in_ok-answer-in-Refused-clause-answer c =
    inl (
      c.in-Refused.verdict,
      subst (IsClocked c.args.primary.now c.args.secondary.now) c.in-Refused.is
          c.in_ok-found.ensures,
      c.in_ok-answer-in-Refused.ensures.said,
    )
