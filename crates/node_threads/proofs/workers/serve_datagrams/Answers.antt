use Rattle.std.proofs.Common.{rules, refl, ◌≡◌}
use Rattle.node_threads.proofs.Going.{goes_nowhere, goes_on}
use Rattle.node_threads.proofs.Turning.{none_made, one_made, all_made, ended_by}
use Rattle.node_threads.proofs.workers.serve_datagrams.Goals as goal

pub loop-received-init : goal.loop-received-init
loop-received-init g c = record {
  goes = goes_nowhere _ _ refl;
  made = none_made g.M.Mailbox.receives g.M.Mailbox.sends g.M.Mailbox.fails c.args.partner c.args.own.now _ _;
}

pub loop-received-preserved : goal.loop-received-preserved
loop-received-preserved g c = record {
  goes = goes_on _ _ _ c.loop-received.invariant.goes c.in-Ok.ensures.goes;
  made = one_made g.M.Mailbox.receives g.M.Mailbox.sends g.M.Mailbox.fails c.args.partner c.args.own.now _ _ _ _ _ _ _ _
      c.loop-received.invariant.made c.in-Ok.ensures.turn;
}

pub returns-then-not-take-clause-served : goal.returns-then-not-take-clause-served
returns-then-not-take-clause-served g c = c.loop-received.invariant.made

pub returns-then-not-take-clause-goes : goal.returns-then-not-take-clause-goes
returns-then-not-take-clause-goes g c = c.loop-received.invariant.goes

pub returns-in-Err-clause-served : goal.returns-in-Err-clause-served
returns-in-Err-clause-served g c =
    ended_by g.M.Mailbox.receives g.M.Mailbox.sends g.M.Mailbox.fails c.args.partner c.args.own.now
    c.loop-received.received c.in-Err.why _ _ _ _ _ _ c.loop-received.invariant.made c.in-Err.ensures.turn

pub returns-in-Err-clause-goes : goal.returns-in-Err-clause-goes
returns-in-Err-clause-goes g c = goes_on _ _ _ c.loop-received.invariant.goes c.in-Err.ensures.goes

pub returns-clause-served : goal.returns-clause-served
returns-clause-served g c =
    let all : c.loop-received.received ≡ 1000000 = search rules in
    all_made g.M.Mailbox.receives g.M.Mailbox.sends g.M.Mailbox.fails c.args.partner c.args.own.now
    c.loop-received.received 1000000 _ _ _ _ all c.loop-received.invariant.made

pub returns-clause-goes : goal.returns-clause-goes
returns-clause-goes g c = c.loop-received.invariant.goes
