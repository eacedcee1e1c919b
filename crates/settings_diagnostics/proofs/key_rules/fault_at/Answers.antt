use Rattle.std.proofs.Common.{◌∙◌, ℕ, List, Option, MatchOption, refl, sym, ap, subst}
use Rattle.toml.specs.Data.{Data, get_member}
use Rattle.toml.specs.View.{table_view}
use Rattle.settings_diagnostics.specs.KeyRules.{IsFit, IsWrong}
use Rattle.settings_diagnostics.specs.declared.key_rule.ValueFault.TheVariants.{Missing}
use Rattle.settings_diagnostics.proofs.key_rules.fault_at.Goals as goal

pub returns-in-Some : goal.returns-in-Some
returns-in-Some c =
    let same = ap (λ (k : List ℕ). get_member k (table_view c.args.table.now)) (sym c.name.ensures)
    ∙ c.in-Some.ensures in
    subst (λ (d : Option Data). MatchOption c.fault_of.result (IsFit c.args.wanted.now d)
    (IsWrong c.args.wanted.now d)) (sym same) c.fault_of.ensures

pub returns-in-Optional : goal.returns-in-Optional
returns-in-Optional c =
    let none = ap (λ (k : List ℕ). get_member k (table_view c.args.table.now)) (sym c.name.ensures)
    ∙ c.in-None.ensures in
    subst (λ (d : Option Data). IsFit c.args.wanted.now d) (sym none) c.in-Optional.is

pub returns-in-Required : goal.returns-in-Required
returns-in-Required c =
    let none = ap (λ (k : List ℕ). get_member k (table_view c.args.table.now)) (sym c.name.ensures)
    ∙ c.in-None.ensures in
    subst (λ (d : Option Data). IsWrong c.args.wanted.now d Missing) (sym none) (c.in-Required.is, refl)
