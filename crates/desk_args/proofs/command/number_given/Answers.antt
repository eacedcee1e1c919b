use Rattle.std.proofs.Common.{◌≡◌, ◌∙◌, sym, Option, Some, None, subst}
use Rattle.std.specs.Prelude.{IfSome}
use Rattle.clap.specs.Words.{Text, first_of, rows_of, found_of}
use Rattle.clap.proofs.WalkLemmas.{first_value-rows}
use Rattle.desk_args.specs.Given.{IsNumber}
use Rattle.desk_args.proofs.command.number_given.Goals as goal

pub returns-in_err-get_str-clause-none : goal.returns-in_err-get_str-clause-none
returns-in_err-get_str-clause-none c none d is =
    let found : None ≡ first_of c.args.name.now (rows_of (found_of c.args.options.now)) =
    c.in_err-get_str.ensures ∙ first_value-rows (found_of c.args.options.now) c.args.name.now in
    subst (λ (o : Option Text). IsNumber c.args.most o d) (sym found) is

pub returns-clause-given : goal.returns-clause-given
returns-clause-given c =
    let found : Some c.in_ok-get_str.field-0.now ≡ first_of c.args.name.now (rows_of (found_of c.args.options.now)) =
    c.in_ok-get_str.ensures ∙ first_value-rows (found_of c.args.options.now) c.args.name.now in
    subst (λ (o : Option Text). IfSome c.number_in.result (IsNumber c.args.most o)) found c.number_in.ensures.given

pub returns-clause-none : goal.returns-clause-none
returns-clause-none c none d is =
    let found : Some c.in_ok-get_str.field-0.now ≡ first_of c.args.name.now (rows_of (found_of c.args.options.now)) =
    c.in_ok-get_str.ensures ∙ first_value-rows (found_of c.args.options.now) c.args.name.now in
    c.number_in.ensures.none none d (subst (λ (o : Option Text). IsNumber c.args.most o d) (sym found) is)
