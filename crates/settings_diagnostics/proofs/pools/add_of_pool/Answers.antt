use Rattle.std.proofs.Common.{◌≡◌, ◌++◌, List, String, Global, Option, OnOk, ap, subst}
use Rattle.toml.specs.Data.{Members}
use Rattle.toml.specs.View.{members_view}
use Rattle.toml.specs.declared.value.Value.{Value}
use Rattle.settings_diagnostics.specs.declared.key_diagnostic.KeyDiagnostic.{KeyDiagnostic}
use Rattle.settings_diagnostics.specs.Pools.{AreOfPool, members_or_none}
use Rattle.settings_diagnostics.proofs.pools.add_of_pool.Goals as goal

pub returns-in-Some : goal.returns-in-Some
returns-in-Some c =
    subst (λ (m : Members). OnOk c.add_of_table.result ((more : List KeyDiagnostic)
    × (c.add_of_table.new.out.items ≡ c.args.out.now.items ++ more) × AreOfPool c.args.before m more))
    (ap members_or_none c.in-Some.ensures) c.add_of_table.ensures

pub returns-in-None : goal.returns-in-None
returns-in-None c =
    subst (λ (o : Option Members). OnOk c.add_of_table-in-None.result ((more : List KeyDiagnostic)
    × (c.add_of_table-in-None.new.out.items ≡ c.args.out.now.items ++ more)
    × AreOfPool c.args.before (members_or_none o) more))
    c.in-None.ensures
    (subst (λ (es : List (String Global × Value)). OnOk c.add_of_table-in-None.result ((more : List KeyDiagnostic)
    × (c.add_of_table-in-None.new.out.items ≡ c.args.out.now.items ++ more)
    × AreOfPool c.args.before (members_view es) more))
    c.new.ensures.empty c.add_of_table-in-None.ensures)
