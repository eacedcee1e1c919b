use Rattle.std.proofs.Common.{ℕ, List, Option, ap, ◌∙◌, Ok}
use Rattle.std.specs.Borrow.{Bor}
use Rattle.std.proofs.lemmas.Bool.{eq-eqb, ne_eqb}
use Rattle.std.proofs.lemmas.Result.{err_from_is_err_and}
use Rattle.dhcp6_pd.specs.Rows.{row_of}
use Rattle.dhcp6_pd.specs.Parsing.{found_in}
use Rattle.dhcp6_pd.proofs.Folding.{took, broke, ended, given}
use Rattle.dhcp6_pd.proofs.UpToMessage.{goes_on, comes, breaks, ends, fails_with}
use Rattle.dhcp6_pd.proofs.relay_options.RelayOptions.to_message.Goals as goal

pub returns-in_err-option : goal.returns-in_err-option
returns-in_err-option c =
    let p = err_from_is_err_and c.from_residual.result c.from_residual.ensures.1 in
    rw (p.1, p.2) (breaks _ _ _ _ c.loop-option.invariant (broke _ _ _ _ c.next_option.ensures c.in_err-option.was))

pub returns-in_err-store_option : goal.returns-in_err-store_option
returns-in_err-store_option c =
    let here = took _ _ _ _ c.next_option.ensures (c.in_ok-option.was ∙ ap (λ o. Ok o) c.in-Some.is) in
    let p = err_from_is_err_and c.from_residual-in_err-store_option.result c.from_residual-in_err-store_option.ensures.1 in
    rw (p.1, p.2) (fails_with {X = Option (Bor (List ℕ))} (λ found.
    (c.loop-option.self, found_in (row_of c.next_option.new.self.rest.now) found)) _ c.store_option.new.self _ _ _ _ _
    c.loop-option.invariant here c.in_err-store_option.ensures)

pub returns-then-option-eq-RELAY_MESSAGE : goal.returns-then-option-eq-RELAY_MESSAGE
returns-then-option-eq-RELAY_MESSAGE c =
    let here = took _ _ _ _ c.next_option.ensures (c.in_ok-option.was ∙ ap (λ o. Ok o) c.in-Some.is) in
    comes _ _ _ _ _ _ c.loop-option.invariant here (given _ _ _ _ c.store_option.ensures c.in_ok-store_option.was)
    (eq-eqb _ _ c.if-option-eq-RELAY_MESSAGE.true)

pub loop-option-preserved : goal.loop-option-preserved
loop-option-preserved c =
    let here = took _ _ _ _ c.next_option.ensures (c.in_ok-option.was ∙ ap (λ o. Ok o) c.in-Some.is) in
    goes_on _ _ _ _ _ _ c.loop-option.invariant here (given _ _ _ _ c.store_option.ensures c.in_ok-store_option.was)
    (ne_eqb _ _ c.if-option-eq-RELAY_MESSAGE.false)

pub returns : goal.returns
returns c = ends _ _ _ c.loop-option.invariant
    (ended _ _ _ c.next_option.ensures (c.in_ok-option.was ∙ ap (λ o. Ok o) c.in_default.is))
