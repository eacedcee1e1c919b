use Rattle.std.proofs.Common.{sym, ap, ◌∙◌, Ok}
use Rattle.std.proofs.lemmas.Result.{err_from_is_err_and}
use Rattle.dhcp6_pd.proofs.Folding.{goes_on, fails, breaks, ends, took, broke, ended, kept, refused}
use Rattle.dhcp6_pd.proofs.ia.hint_in.Goals as goal

pub returns-in_err-option : goal.returns-in_err-option
returns-in_err-option c =
    let p = err_from_is_err_and c.from_residual.result c.from_residual.ensures.1 in
    rw (p.1, p.2) (sym (breaks _ _ _ _ _ c.loop-option.invariant
    (broke _ _ _ _ c.next_option.ensures c.in_err-option.was)))

pub loop-option-preserved : goal.loop-option-preserved
loop-option-preserved c =
    let here = took _ _ _ _ c.next_option.ensures (c.in_ok-option.was ∙ ap (λ o. Ok o) c.in-Some.is) in
    goes_on _ _ _ _ _ _ _ c.loop-option.invariant here (kept _ _ _ _ c.keep_hint.ensures c.in_ok-keep_hint.was)

pub returns-in_err-keep_hint : goal.returns-in_err-keep_hint
returns-in_err-keep_hint c =
    let here = took _ _ _ _ c.next_option.ensures (c.in_ok-option.was ∙ ap (λ o. Ok o) c.in-Some.is) in
    let p = err_from_is_err_and c.from_residual-in_err-keep_hint.result c.from_residual-in_err-keep_hint.ensures.1 in
    rw (p.1, p.2) (sym (fails _ _ _ _ _ _ _ c.loop-option.invariant here
    (refused _ _ _ _ c.keep_hint.ensures c.in_err-keep_hint.was)))

pub returns : goal.returns
returns c = sym (ends _ _ _ _ c.loop-option.invariant
    (ended _ _ _ c.next_option.ensures (c.in_ok-option.was ∙ ap (λ o. Ok o) c.in_default.is)))
