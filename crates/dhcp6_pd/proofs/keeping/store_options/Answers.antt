use Rattle.std.proofs.Common.{ap, ◌∙◌, Ok}
use Rattle.std.proofs.lemmas.Result.{err_from_is_err_and}
use Rattle.dhcp6_pd.proofs.Folding.{goes_on, fails_with, breaks, ends, took, broke, ended, given}
use Rattle.dhcp6_pd.proofs.keeping.store_options.Goals as goal

pub returns-in_err-option : goal.returns-in_err-option
returns-in_err-option g c =
    let p = err_from_is_err_and c.from_residual.result c.from_residual.ensures.1 in
    rw (p.1, p.2) (breaks _ _ _ _ _ c.loop-option.invariant (broke _ _ _ _ c.next_option.ensures c.in_err-option.was))

pub loop-option-preserved : goal.loop-option-preserved
loop-option-preserved g c =
    let here = took _ _ _ _ c.next_option.ensures (c.in_ok-option.was ∙ ap (λ o. Ok o) c.in-Some.is) in
    goes_on _ _ _ _ _ _ _ c.loop-option.invariant here (given _ _ _ _ c.store_option.ensures c.in_ok-store_option.was)

pub returns-in_err-store_option : goal.returns-in_err-store_option
returns-in_err-store_option g c =
    let here = took _ _ _ _ c.next_option.ensures (c.in_ok-option.was ∙ ap (λ o. Ok o) c.in-Some.is) in
    let p = err_from_is_err_and c.from_residual-in_err-store_option.result c.from_residual-in_err-store_option.ensures.1 in
    rw (p.1, p.2) (fails_with {X = Unit {0}} (λ _. c.loop-option.kept) _ _ c.store_option.new.self _ _ _ _ _
    c.loop-option.invariant here c.in_err-store_option.ensures)

pub returns : goal.returns
returns g c = ends _ _ _ _ c.loop-option.invariant
    (ended _ _ _ c.next_option.ensures (c.in_ok-option.was ∙ ap (λ o. Ok o) c.in_default.is))
