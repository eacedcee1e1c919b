use Rattle.std.proofs.Common.{rules, subst, inr}
use Rattle.server_core.specs.DatagramHandling.{HandsOut, IsInformed}
use Rattle.server_core.specs.declared.committed_output.HeldAnswer.{HeldAnswer}
use Rattle.server_core.specs.declared.datagram_outcome.DatagramOutcome.TheVariants.{AnsweredInformation}
use Rattle.server_core.proofs.Owed.{one_more_owed, held_as, held_more}
use Rattle.server_core.proofs.server.ServerCore.handle_information.Goals as goal

pub invariant_of-self-in-Ok-answer_information : goal.invariant_of-self-in-Ok-answer_information
invariant_of-self-in-Ok-answer_information g c =
    let h : HeldAnswer g.row.P.Denot = record { answer = c.in-Ok-answer_information.answer; read = c.args.read } in
    record {
      names = c.self.invariant.names;
      owed = held_as _ _ _ _ _ (held_more _ _ _ h c.hold.ensures c.reserve.ensures.items)
          (one_more_owed _ _ _ c.self.inside.held.items h c.self.invariant.owed (inr (
            c.args.manner.now,
            c.in-Ok.request,
            (c.in-Ok-answer_information.ensures.told, c.in-Ok-answer_information.ensures.apart),
          )));
      said = c.self.invariant.said;
    }

pub returns-in-Ok-answer_information-clause-informed : goal.returns-in-Ok-answer_information-clause-informed
returns-in-Ok-answer_information-clause-informed g c =
    let hands : HandsOut c.args.manner.now = search rules in
    subst (λ s. IsInformed s.own c.args.manner.now c.args.peer c.args.datagram.now c.args.read s.held
    c.hold.new.held.items AnsweredInformation) c.self.view_is (
      c.in-Ok.request,
      c.in-Ok-answer_information.answer,
      hands,
      c.in-Ok.ensures.found,
      c.in-Ok-answer_information.ensures.back,
      (c.in-Ok-answer_information.ensures.told, c.in-Ok-answer_information.ensures.apart),
      held_more _ _ _ (record { answer = c.in-Ok-answer_information.answer; read = c.args.read }) c.hold.ensures
          c.reserve.ensures.items,
    )
