use Rattle.std.specs.Prelude.{◌≡◌, ◌≤◌, ◌++◌}
use Rattle.std.proofs.Common.{ap, ◌∙◌, subst, rules}
use Rattle.failover_session.specs.OutboundFrames.{meanings_of, answer, sends_above}
use Rattle.failover_session.specs.Receipts.{last_sent}
use Rattle.failover_session.proofs.Hearing.{hears_join}
use Rattle.failover_session.proofs.link_endpoint.LinkEndpoint.complete_handshake.Goals as goal

pub returns-clause-heard : goal.returns-clause-heard
returns-clause-heard g c =
    let all : c.deref-3.result.now ≡ c.in_ok-first.first.items ++ c.in_ok-again.again.items =
    c.deref-3.ensures.value
    ∙ (c.in_ok-extend_from_slice.ensures.items
    ∙ ap (λ fs. c.in_ok-first.first.items ++ fs) c.deref-2.ensures.value) in
    let was : c.args.last ≤ c.last_sent-sent.result = search rules in
    let was_sent : c.args.last ≤ last_sent (g.B.Pass.Receipts.receipts c.args.pass.now) =
    subst (λ n. c.args.last ≤ n) (c.last_sent-sent.ensures ∙ ap (λ rs. last_sent rs) c.receipts-2.ensures) was in
    hears_join _ c.args.last (g.B.Pass.Receipts.receipts c.args.pass.now) _ c.args.duties.now.out.items
    c.push_frames-2.new.self.out.items _ c.in_ok-first.first.items c.in_ok-again.again.items was_sent
    (c.in_ok-first.ensures ∙ ap (λ rs. answer c.args.self.now.role rs) c.receipts.ensures)
    (c.in_ok-again.ensures ∙ ap (λ rs. sends_above c.args.last rs) c.receipts-3.ensures)
    (c.in_ok-push_frames-3.ensures.said ∙ ap (λ fs. meanings_of c.args.duties.now.out.items ++ meanings_of fs) all) c.request_updates.ensures
