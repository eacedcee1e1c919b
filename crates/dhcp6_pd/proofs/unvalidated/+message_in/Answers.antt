use Rattle.std.proofs.Common.{ℕ, ◌-◌, List, Option, Result, sym, ap, subst, ◌∙◌}
use Rattle.std.specs.Borrow.{Bor}
use Rattle.std.proofs.lemmas.Result.{err_from_is_err_and}
use Rattle.dhcp6_pd.specs.declared.error.PdFault.{PdFault}
use Rattle.dhcp6_pd.specs.declared.message_class.MessageKind.{MessageKind}
use Rattle.dhcp6_pd.specs.declared.unvalidated.UnvalidatedMessage.{UnvalidatedMessage}
use Rattle.dhcp6_pd.specs.declared.message.Relay.{Relay}
use Rattle.dhcp6_pd.specs.Rows.{row_of}
use Rattle.dhcp6_pd.specs.Parsing.{found_in}
use Rattle.dhcp6_pd.specs.Answers.{Gives}
use Rattle.dhcp6_pd.specs.Faults.{or_ignored, message_in}
use Rattle.dhcp6_pd.proofs.Folding.{given}
use Rattle.dhcp6_pd.proofs.Messages.{type_other, type_relay, found_some, found_none, fails_before, fails_inside}
use Rattle.dhcp6_pd.proofs.Messages.{fails_behind, is_whole}
use Rattle.dhcp6_pd.proofs.unvalidated.+message_in.Goals as goal

pub returns-in-Some-kind_of : goal.returns-in-Some-kind_of
returns-in-Some-kind_of t c =
    let other = type_other c.args.reads c.args.left c.args.octets.now c.in-Some.first.now c.in-Some.ensures.value
    c.if-first-ne-RELAY_FORWARD.true in
    let kind = ap (λ (k : Option MessageKind). or_ignored k c.args.octets.now) (sym c.in-Some-kind_of.ensures) in
    subst (λ (r : Result UnvalidatedMessage PdFault). Gives (λ u. u) c.client_in.result r)
    (sym (other ∙ kind)) c.client_in.ensures

pub returns-in_err-inner : goal.returns-in_err-inner
returns-in_err-inner t c =
    let here = type_relay c.args.reads _ _ _ _ _ c.in-Some.ensures.value c.if-first-ne-RELAY_FORWARD.false c.if-left-eq0.false
    c.if-octets-lt34.false c.none-kept.ensures c.new-options.ensures in
    let p = err_from_is_err_and c.from_residual.result c.from_residual.ensures.1 in
    let found = fails_before {X = Option (Bor (List ℕ))}
    (λ f. (c.to_message.new.self, found_in (row_of c.to_message.new.options.rest.now) f))
    (message_in c.args.reads (c.args.left - 1)) c.args.octets.now _ _ c.in_err-inner.ensures in
    subst (λ (r : Result UnvalidatedMessage PdFault). Gives (λ u. u) c.from_residual.result r) (sym here)
    (rw (p.1, p.2) found)

pub returns-in_default-2 : goal.returns-in_default-2
returns-in_default-2 t c =
    let here = type_relay c.args.reads _ _ _ _ _ c.in-Some.ensures.value c.if-first-ne-RELAY_FORWARD.false c.if-left-eq0.false
    c.if-octets-lt34.false c.none-kept.ensures c.new-options.ensures in
    here ∙ found_none _ _ _ _ _ _ c.in_ok-inner.ensures c.in_default-2.is

pub returns-in_err-message : goal.returns-in_err-message
returns-in_err-message t c =
    let here = type_relay c.args.reads _ _ _ _ _ c.in-Some.ensures.value c.if-first-ne-RELAY_FORWARD.false c.if-left-eq0.false
    c.if-octets-lt34.false c.none-kept.ensures c.new-options.ensures in
    let p = err_from_is_err_and c.from_residual-in_err-message.result c.from_residual-in_err-message.ensures.1 in
    let found = fails_inside (message_in c.args.reads (c.args.left - 1)) c.args.octets.now _ _ _ _ _
    (found_some _ _ _ _ _ c.in_ok-inner.ensures c.in-Some-2.is) c.in_err-message.ensures in
    subst (λ (r : Result UnvalidatedMessage PdFault). Gives (λ u. u) c.from_residual-in_err-message.result r) (sym here)
    (rw (p.1, p.2) found)

pub returns-in_err-store_options : goal.returns-in_err-store_options
returns-in_err-store_options t c =
    let here = type_relay c.args.reads _ _ _ _ _ c.in-Some.ensures.value c.if-first-ne-RELAY_FORWARD.false c.if-left-eq0.false
    c.if-octets-lt34.false c.none-kept.ensures c.new-options.ensures in
    let p = err_from_is_err_and c.from_residual-in_err-store_options.result c.from_residual-in_err-store_options.ensures.1 in
    let found = fails_behind (message_in c.args.reads (c.args.left - 1)) c.args.octets.now _ _ c.store_options.new.kept _ _ _ _
    (found_some _ _ _ _ _ c.in_ok-inner.ensures c.in-Some-2.is) c.in_ok-message.ensures c.in_err-store_options.ensures in
    subst (λ (r : Result UnvalidatedMessage PdFault). Gives (λ u. u) c.from_residual-in_err-store_options.result r) (sym here)
    (rw (p.1, p.2) found)

pub returns : goal.returns
returns t c =
    let here = type_relay c.args.reads _ _ _ _ _ c.in-Some.ensures.value c.if-first-ne-RELAY_FORWARD.false c.if-left-eq0.false
    c.if-octets-lt34.false c.none-kept.ensures c.new-options.ensures in
    here ∙ is_whole _ _ _ _ _ _ c.in_ok-message.message _ _ _
    (found_some _ _ _ _ _ c.in_ok-inner.ensures c.in-Some-2.is) c.in_ok-message.ensures
    (given _ _ _ _ c.store_options.ensures c.in_ok-store_options.was) c.into_relay.ensures
    (ap (λ (xs : List Relay). record c.in_ok-message.message { relays = xs }) c.in_ok-push.ensures)
