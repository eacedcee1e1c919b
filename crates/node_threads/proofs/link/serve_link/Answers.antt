use Rattle.std.specs.Prelude.{refl}
use Rattle.std.proofs.Common.{ap, subst, ◌∙◌}
use Rattle.node_threads.proofs.Going.{goes_nowhere, goes_on}
use Rattle.node_threads.proofs.Linking.{opening_lost, then_tells, then_has_told, talk_begun}
use Rattle.failover_session.specs.Sessions.{Unmet, IsGoing}
use Rattle.failover_session.proofs.Front.{goes_on as is_going}
use Rattle.node_threads.proofs.link.serve_link.Goals as goal

pub returns-in_default-clause-told : goal.returns-in_default-clause-told
returns-in_default-clause-told g c =
    (Unmet, opening_lost g.W.Wire.brings g.W.Wire.writes g.W.Wire.fails _ _ _ _ refl)

pub returns-in-Err-clause-told : goal.returns-in-Err-clause-told
returns-in-Err-clause-told g c = (Unmet, c.in-Err.ensures.told)

pub loop-init : goal.loop-init
loop-init g c = record {
  can_next = tt;
  is_finite = tt;
  told = talk_begun g.W.Wire.brings g.W.Wire.writes g.W.Wire.fails _ _ _ _ _ _ (c.in-Ok-greet.ensures.talk ∙
      c.new-talk.ensures) c.in-Ok-greet.ensures.whole;
  none = ap (λ t. t.handed) (c.in-Ok-greet.ensures.talk ∙ c.new-talk.ensures);
  goes = goes_nowhere _ _ refl;
}

pub returns-then-has_ended-clause-told : goal.returns-then-has_ended-clause-told
returns-then-has_ended-clause-told g c = (
  _,
  then_tells g.W.Wire.brings g.W.Wire.writes g.W.Wire.fails _ _ _ _ _ _ _ _ _ _ _ _ c.loop.invariant.told _
      c.leave.ensures.told,
)

pub returns-then-has_ended-clause-goes : goal.returns-then-has_ended-clause-goes
returns-then-has_ended-clause-goes g c = goes_on _ _ _ c.loop.invariant.goes c.leave.ensures.goes

pub returns-in-Err-turn-clause-told : goal.returns-in-Err-turn-clause-told
returns-in-Err-turn-clause-told g c = (
  _,
  then_tells g.W.Wire.brings g.W.Wire.writes g.W.Wire.fails _ _ _ _ _ _ _ _ _ _ _ _ c.loop.invariant.told _
      c.in-Err-turn.ensures.told,
)

pub returns-in-Err-turn-clause-goes : goal.returns-in-Err-turn-clause-goes
returns-in-Err-turn-clause-goes g c = goes_on _ _ _ c.loop.invariant.goes c.in-Err-turn.ensures.goes

pub returns-then-has_ended-2-clause-told : goal.returns-then-has_ended-2-clause-told
returns-then-has_ended-2-clause-told g c = (
  _,
  then_tells g.W.Wire.brings g.W.Wire.writes g.W.Wire.fails _ _ _ _ _ _ _ _ _ _ _ _ c.loop.invariant.told _
      c.in-Ok-turn.ensures.told,
)

pub returns-then-has_ended-2-clause-goes : goal.returns-then-has_ended-2-clause-goes
returns-then-has_ended-2-clause-goes g c = goes_on _ _ _ c.loop.invariant.goes c.in-Ok-turn.ensures.goes

pub loop-preserved : goal.loop-preserved
loop-preserved g c = record {
  can_next = tt;
  is_finite = tt;
  told = then_has_told g.W.Wire.brings g.W.Wire.writes g.W.Wire.fails _ _ _ _ _ _ _ _ _ _ _ _ c.loop.invariant.told _
      (c.in-Ok-turn.ensures.whole
      (subst IsGoing c.stage.ensures (is_going _ (λ ends. let t = c.if-has_ended-2.ensures.1 ends in absurd cc))));
  none = c.in-Ok-turn.ensures.none;
  goes = goes_on _ _ _ c.loop.invariant.goes c.in-Ok-turn.ensures.goes;
}
