use Rattle.std.proofs.Common.{sym, ap, ◌∙◌, List, ℕ}
use Rattle.std.proofs.lemmas.Result.{err_from_is_err_and}
use Rattle.router_options.specs.Names.{labels_on}
use Rattle.router_options.proofs.NameLaws.{goes_on, fails, ends}
use Rattle.router_options.proofs.name.push_labels.Goals as goal

pub loop-label-preserved : goal.loop-label-preserved
loop-label-preserved c =
    goes_on _ _ c.in-Some.label.now _ _
    (ap (λ (ls : List (List ℕ)). labels_on c.loop-label.out.items ls) (sym c.in-Some.ensures) ∙ c.loop-label.invariant)
    c.in_ok-push_label.ensures

pub returns-in_err-push_label : goal.returns-in_err-push_label
returns-in_err-push_label c =
    let p = err_from_is_err_and c.from_residual.result c.from_residual.ensures.1 in
    rw (p.1, p.2) (fails {X = Unit {0}} (λ _. c.loop-label.out.items) _ c.push_label.new.out.items c.in-Some.label.now _ _
    _ (ap (λ (ls : List (List ℕ)). labels_on c.loop-label.out.items ls) (sym c.in-Some.ensures)
    ∙ c.loop-label.invariant) c.in_err-push_label.ensures)

pub returns : goal.returns
returns c = ends _ _
    (ap (λ (ls : List (List ℕ)). labels_on c.loop-label.out.items ls) (sym c.in_default.ensures.0)
    ∙ c.loop-label.invariant)
