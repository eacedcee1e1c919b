use Rattle.std.proofs.Common.{refl, subst, []}
use Rattle.client_service.specs.Answering.{IsTold, HasNoReply}
use Rattle.node_threads.specs.Sending.{AnyJournal}
use Rattle.node_threads.proofs.Told.{told_goes, silent_goes}
use Rattle.node_threads.proofs.Replying.{replied, none_replied}
use Rattle.node_threads.proofs.workers.Worker.reply.Goals as goal

pub returns-in-Ok-clause-heard : goal.returns-in-Ok-clause-heard
returns-in-Ok-clause-heard g c =
    let told = subst (λ m. IsTold AnyJournal c.args.self.now.partner c.args.self.now.own.now m c.args.message.now []
    c.args.now c.args.pass.now.receipts c.answer_to.new.pass.receipts c.in-Ok.answer.octets c.in-Ok.answer.line)
    c.plain-manner.ensures c.in-Ok.ensures.told in
    replied g.M.Mailbox.sends g.M.Mailbox.fails c.args.self.now.partner c.args.self.now.own.now c.args.peer c.args.now
    c.args.message.now _ _ _ _ c.in-Ok.answer c.sent.result told c.in-Ok.ensures.back c.sent.ensures

pub returns-in-Ok-clause-goes : goal.returns-in-Ok-clause-goes
returns-in-Ok-clause-goes g c =
    told_goes AnyJournal c.args.now c.args.self.now.partner c.args.message.now c.args.self.now.own.now
    c.plain-manner.result c.args.pass.now.receipts c.answer_to.new.pass.receipts c.in-Ok.answer.octets
    c.in-Ok.answer.line c.in-Ok.ensures.told

pub returns-clause-heard : goal.returns-clause-heard
returns-clause-heard g c =
    let silent = subst (λ m. HasNoReply AnyJournal c.args.self.now.partner c.args.self.now.own.now m c.args.message.now []
    c.args.now c.args.pass.now.receipts c.answer_to.new.pass.receipts c.in-Err.why) c.plain-manner.ensures
    c.in-Err.ensures.silent in
    none_replied g.M.Mailbox.sends g.M.Mailbox.fails c.args.self.now.partner c.args.self.now.own.now c.args.peer
    c.args.now c.args.message.now _ _ _ _ c.in-Err.why c.unanswered.result c.unanswered.ensures silent refl

pub returns-clause-goes : goal.returns-clause-goes
returns-clause-goes g c =
    silent_goes AnyJournal c.args.now c.args.self.now.partner c.args.message.now c.args.self.now.own.now
    c.plain-manner.result c.args.pass.now.receipts c.answer_to.new.pass.receipts c.in-Err.why c.in-Err.ensures.silent
