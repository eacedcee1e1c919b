use Rattle.std.specs.Prelude.{◌≡◌, ◌++◌, refl, Err}
use Rattle.std.proofs.Common.{ap, ◌∙◌}
use Rattle.failover_session.specs.declared.error.SessionError.TheVariants.{Memory}
use Rattle.failover_session.specs.OutboundFrames.{meanings_of, opening}
use Rattle.node_threads.specs.Ending.{fault_of}
use Rattle.node_threads.proofs.Linking.{opening_lost, opening_told, opening_whole}
use Rattle.node_threads.proofs.link.LinkEnd.greet.Goals as goal

pub returns-in-Err-clause-told : goal.returns-in-Err-clause-told
returns-in-Err-clause-told g c =
    let memory : c.in-Err.error ≡ Memory = c.in-Err.ensures.memory c.in-Err.error refl in
    let lost : c.from.result ≡ fault_of Memory = c.from.ensures ∙ ap fault_of memory in
    opening_lost g.W.Wire.brings g.W.Wire.writes g.W.Wire.fails _ _ _ _ (ap (λ e. Err e) lost)

pub returns-in-Ok-clause-told : goal.returns-in-Ok-clause-told
returns-in-Ok-clause-told g c =
    let said : meanings_of c.send_greeting.new.self.handed ≡ opening c.args.self.now.settings.now.role c.args.pass.now.receipts =
    c.in-Ok.ensures.said
    ∙ ap (λ t. meanings_of t.handed ++ opening c.args.self.now.settings.now.role c.args.pass.now.receipts) c.requires in
    opening_told g.W.Wire.brings g.W.Wire.writes g.W.Wire.fails c.args.self.now.settings.now.role
    c.args.pass.now.receipts c.send_greeting.new.self.handed _ _ _ said
    c.write_out.ensures.out

pub returns-in-Ok-clause-whole : goal.returns-in-Ok-clause-whole
returns-in-Ok-clause-whole g c =
    let said : meanings_of c.send_greeting.new.self.handed ≡ opening c.args.self.now.settings.now.role c.args.pass.now.receipts =
    c.in-Ok.ensures.said
    ∙ ap (λ t. meanings_of t.handed ++ opening c.args.self.now.settings.now.role c.args.pass.now.receipts) c.requires in
    opening_whole g.W.Wire.brings g.W.Wire.writes g.W.Wire.fails c.args.self.now.settings.now.role
    c.args.pass.now.receipts c.send_greeting.new.self.handed _ _ _ said
    c.write_out.ensures.whole
