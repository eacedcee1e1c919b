use Rattle.std.proofs.Common.{ℕ, List, ◌∙◌, subst}
use Rattle.std.specs.Prelude.{◌↔◌, Contains as Has}
use Rattle.causal_order.specs.Naming.{NamesAt}
use Rattle.causal_order.proofs.by_line.ByLine.naming.Goals as goal

pub returns : goal.returns
returns g c =
    subst (λ (entries : List g.row.T.Denot). (k : ℕ) → Has c.naming_in.result.now k
    ↔ NamesAt g.T.NamesLine.named entries c.args.line k)
    (c.deref.ensures.value ∙ c.self.view_is) c.naming_in.ensures
