-- A line that says what the partner is taken for uses no serial.
use Rattle.std.specs.Prelude.{◌≡◌, ℕ, Option, Some, List, [], ◌∷◌, ◌++◌, refl}
use Rattle.std.proofs.Common.{ap, sym, ◌∙◌, subst}
use Rattle.journal_lines.specs.declared.event.Event.TheVariants.{State as StateLine}
use Rattle.binding_rules.specs.declared.message.ServerState.{ServerState}
use Rattle.locked_book.specs.declared.receipt.Receipt.{Receipt}
use Rattle.order_book.specs.declared.order.Order.TheVariants.{State}
use Rattle.failover_session.specs.Receipts.{sent_by, sent_after, last_sent}
use Rattle.server_core.specs.ServerStates.{CoreState}
use Rattle.server_core.specs.Served.{ServedState, receipts_in, IsApplied}
use Rattle.failover_session.specs.declared.stage.SessionStage.{SessionStage}
use Rattle.failover_session.specs.declared.stage.SessionStage.TheVariants.{Joined}
use Rattle.daemon_endpoints.specs.Serials.{UsesNoSerial, HasJoined}

sent_behind : (last : ℕ) (a b : List Receipt) → sent_after last (a ++ b) ≡ sent_after (sent_after last a) b
sent_behind last [] b = refl
sent_behind last (r ∷ rs) b = sent_behind (sent_by last r.line.event) rs b

-- one line more, which says what the partner is taken for
pub state_uses_none : {P : Type 0} (old new : CoreState P) (now : ℕ) (word : ServerState) (r : Receipt)
    → IsApplied old.volume.served new.volume.served now (State word) r → UsesNoSerial old new
state_uses_none {P} old new now word r applied =
    let had : List Receipt = receipts_in old.volume.served in
    ap last_sent applied.entered.receipts
    ∙ (sent_behind 0 had (r ∷ [])
    ∙ ap (λ e. sent_by (last_sent had) e) applied.entered.answer.line.named)

-- the two have joined
pub joined_is : (stage : Option SessionStage) (last : ℕ) → stage ≡ Some (Joined last) → HasJoined stage
joined_is stage last is = subst HasJoined (sym is) tt

-- no line more
pub same_uses_none : {P : Type 0} (old new : CoreState P) → new.volume ≡ old.volume → UsesNoSerial old new
same_uses_none {P} old new same = ap (λ v. last_sent (receipts_in v.served)) same
