use Rattle.std.specs.Prelude.{◌≡◌}
use Rattle.std.proofs.Common.{rules, refl, ◌∙◌}
use Rattle.node_daemon.specs.Turning.{none}
use Rattle.node_daemon.proofs.Turned.{nothing_since, heard_since, one_more_turn, has_turned}
use Rattle.node_daemon.proofs.daemon.Daemon.run_loop.Goals as goal

pub loop-turn-init : goal.loop-turn-init
loop-turn-init g c = record { transit = refl; turns = none }

pub loop-turn-preserved : goal.loop-turn-preserved
loop-turn-preserved g c = record {
  transit = c.run_turn.ensures.transit ∙ c.loop-turn.invariant.transit;
  turns = one_more_turn g.C.Clocks.gives g.C.Clocks.fails g.G.Datagrams.listens g.G.Datagrams.sends _ _ _ _ _ _ _ c.loop-turn.invariant.turns _
      c.loop-turn.invariant.transit c.in-Ok.ensures.turn;
}

pub returns-in-Err : goal.returns-in-Err
returns-in-Err g c = record {
  turned = has_turned g.C.Clocks.gives g.C.Clocks.fails g.G.Datagrams.listens g.G.Datagrams.sends _ _ _ _ _ _ c.loop-turn.invariant.turns
      (heard_since g.G.Datagrams.listens _ _ c.in-Err.ensures.nothing c.in-Err.ensures.link);
}

pub returns-in-Some-leave : goal.returns-in-Some-leave
returns-in-Some-leave g c =
    let same : c.shut_down.new.self.clients.datagrams ≡ c.run_turn.new.self.clients.datagrams = search rules in
    record {
      turned = has_turned g.C.Clocks.gives g.C.Clocks.fails g.G.Datagrams.listens g.G.Datagrams.sends _ _ _ _ _ _
          (one_more_turn g.C.Clocks.gives g.C.Clocks.fails g.G.Datagrams.listens g.G.Datagrams.sends _ _ _ _ _ _ _ c.loop-turn.invariant.turns _
          c.loop-turn.invariant.transit c.in-Ok.ensures.turn)
          (nothing_since g.G.Datagrams.listens _ _ same c.shut_down.ensures.link);
    }
