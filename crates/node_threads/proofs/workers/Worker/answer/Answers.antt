use Rattle.std.proofs.Common.{refl, inl}
use Rattle.node_threads.proofs.Replying.{heard}
use Rattle.node_threads.proofs.Going.{goes_nowhere}
use Rattle.node_threads.proofs.workers.Worker.answer.Goals as goal

pub returns-in-Err-clause-heard : goal.returns-in-Err-clause-heard
returns-in-Err-clause-heard g c = (refl, refl, c.in-Err.ensures.exact)

pub returns-in-Err-clause-goes : goal.returns-in-Err-clause-goes
returns-in-Err-clause-goes g c = goes_nowhere _ _ refl

pub returns-in_default-clause-heard : goal.returns-in_default-clause-heard
returns-in_default-clause-heard g c = inl (refl, refl)

pub returns-in_default-clause-goes : goal.returns-in_default-clause-goes
returns-in_default-clause-goes g c = goes_nowhere _ _ refl

pub returns-clause-heard : goal.returns-clause-heard
returns-clause-heard g c =
    heard g.M.Mailbox.sends g.M.Mailbox.fails c.args.self.now.partner c.args.self.now.own.now c.args.peer _
    c.in-Ok.message _ _ _ _ c.args.datagram.now c.reply.result c.in-Ok.ensures.found c.reply.ensures.heard
