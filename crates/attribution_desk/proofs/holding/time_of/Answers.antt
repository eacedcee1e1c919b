use Rattle.std.proofs.Common.{List, ℕ, ◌++◌, sym, ◌∙◌, ap, subst}
use Rattle.time_text.specs.Time.{IsTimeText}
use Rattle.attribution_desk.proofs.holding.time_of.Goals as goal

pub returns : goal.returns
returns c =
    let pushed = c.in_ok-push_time.ensures in
    subst (IsTimeText c.args.moment) (sym (pushed.1 ∙ ap (λ (x : List ℕ). x ++ pushed.0) c.new-text.ensures.items))
    pushed.2
