use Rattle.std.proofs.Common.{◌≡◌, ◌∙◌, sym, ap, subst, true, [], List, Option, Result, Ok, Err, map, string_bytes}
use Rattle.std.specs.Prelude.{IfOk}
use Rattle.clap.specs.Words.{App, Row, Text, takes, fault_of, is_simple, is_simple_and_free, subcommand_of}
use Rattle.desk_args.specs.Words.{desk}
use Rattle.desk_args.specs.Surrounding.{around}
use Rattle.desk_args.specs.Orders.{IsOrdered, IsNoOrder}
use Rattle.desk_args.proofs.orders.invocation_of.Goals as goal

-- what holds whatever was found
always : {T E : Type 0} (P : Type 0) (r : Result T E) → P → IfOk r (λ _. P)
always P (Ok x) p = p
always P (Err e) p = tt

pub returns-in-Ok-try_get_matches_from-clause-given : goal.returns-in-Ok-try_get_matches_from-clause-given
returns-in-Ok-try_get_matches_from-clause-given c =
    let rows = (c.in-Ok-try_get_matches_from.ensures.matches (ap is_simple c.in-Ok.ensures)).1
    ∙ ap (λ (a : App). subcommand_of a (map string_bytes c.args.words.now)) c.in-Ok.ensures in
    subst (λ (o : Option (Text × List Row)). IfOk c.order_found.result (IsOrdered (around c.args.surroundings.now) o)) rows c.order_found.ensures.given

pub returns-in-Ok-try_get_matches_from-clause-accepted : goal.returns-in-Ok-try_get_matches_from-clause-accepted
returns-in-Ok-try_get_matches_from-clause-accepted c =
    always (fault_of desk (map string_bytes c.args.words.now) ≡ []) c.order_found.result
    (subst (λ (a : App). fault_of a (map string_bytes c.args.words.now) ≡ []) c.in-Ok.ensures
    (c.in-Ok-try_get_matches_from.ensures.kinds (ap is_simple_and_free c.in-Ok.ensures)))

pub returns-in-Ok-try_get_matches_from-clause-refused : goal.returns-in-Ok-try_get_matches_from-clause-refused
returns-in-Ok-try_get_matches_from-clause-refused c usage taken =
    let rows = (c.in-Ok-try_get_matches_from.ensures.matches (ap is_simple c.in-Ok.ensures)).1
    ∙ ap (λ (a : App). subcommand_of a (map string_bytes c.args.words.now)) c.in-Ok.ensures in
    subst (λ (o : Option (Text × List Row)). IsNoOrder (around c.args.surroundings.now) o) rows (c.order_found.ensures.refused usage)

pub returns-in-Err-clause-refused : goal.returns-in-Err-clause-refused
returns-in-Err-clause-refused c usage taken =
    let kind = c.in-Err.ensures.passes (subst (λ (a : App). takes a (map string_bytes c.args.words.now) ≡ true)
    (sym c.in-Ok.ensures) taken) in
    let memory = c.usage_error.ensures kind in
    absurd (cc)
