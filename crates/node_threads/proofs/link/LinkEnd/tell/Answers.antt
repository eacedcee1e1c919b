use Rattle.std.specs.Prelude.{[], refl}
use Rattle.std.proofs.Common.{inl, subst}
use Rattle.node_threads.specs.Writing.{nothing, MayLose}
use Rattle.node_threads.proofs.Linking.{told_nothing, turn_told, turn_has_told, whole_has_told}
use Rattle.node_threads.proofs.link.LinkEnd.tell.Goals as goal

pub returns-in_default-clause-told : goal.returns-in_default-clause-told
returns-in_default-clause-told g c =
    told_nothing g.W.Wire.brings g.W.Wire.writes g.W.Wire.fails _ _ _ _ _ _ _ [] _ (inl refl) nothing (inl refl)

pub returns-in-Err-clause-told : goal.returns-in-Err-clause-told
returns-in-Err-clause-told g c =
    turn_told g.W.Wire.brings g.W.Wire.writes g.W.Wire.fails _ c.args.came.now c.args.talk.now c.poll-done.new.self
    c.write_out.new.talk c.requires c.write_out.ensures.none _ _ _ _ _ _ c.poll-done.ensures.turn
    c.write_out.ensures.out (λ l. subst (λ r. MayLose r) c.in-Err.is l)

pub returns-in-Ok-done-clause-told : goal.returns-in-Ok-done-clause-told
returns-in-Ok-done-clause-told g c =
    turn_told g.W.Wire.brings g.W.Wire.writes g.W.Wire.fails _ c.args.came.now c.args.talk.now c.poll-done.new.self
    c.write_out.new.talk c.requires c.write_out.ensures.none _ _ _ _ _ _ c.poll-done.ensures.turn
    c.write_out.ensures.out (λ l. subst (λ r. MayLose r) c.in-Ok-write_out.is l)

pub returns-in-Err-done-clause-told : goal.returns-in-Err-done-clause-told
returns-in-Err-done-clause-told g c =
    turn_told g.W.Wire.brings g.W.Wire.writes g.W.Wire.fails _ c.args.came.now c.args.talk.now c.poll-done.new.self
    c.write_out.new.talk c.requires c.write_out.ensures.none _ _ _ _ _ _ c.poll-done.ensures.turn
    c.write_out.ensures.out (λ l. absurd (subst (λ r. MayLose r) c.in-Ok-write_out.is l))

pub returns-in-Ok-done-clause-out : goal.returns-in-Ok-done-clause-out
returns-in-Ok-done-clause-out g c =
    turn_has_told g.W.Wire.brings g.W.Wire.writes g.W.Wire.fails _ c.args.came.now c.args.talk.now
    c.poll-done.new.self c.write_out.new.talk c.requires c.write_out.ensures.none _ _ _ _ c.poll-done.ensures.turn
    c.in-Ok-write_out.ensures.whole

pub returns-in-Ok-done-clause-whole : goal.returns-in-Ok-done-clause-whole
returns-in-Ok-done-clause-whole g c =
    whole_has_told g.W.Wire.brings g.W.Wire.writes g.W.Wire.fails _ c.args.came.now c.args.talk.now
    c.poll-done.new.self c.write_out.new.talk c.requires c.write_out.ensures.none _ _ _ _ c.in-Ok-done.ensures.whole
    c.in-Ok-write_out.ensures.whole
