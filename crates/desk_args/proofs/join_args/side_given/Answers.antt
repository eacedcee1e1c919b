use Rattle.std.proofs.Common.{◌≡◌, ◌∙◌, sym, Option, Some, None, subst, codes}
use Rattle.std.specs.Prelude.{IfSome}
use Rattle.clap.specs.Words.{Text, first_of, rows_of, found_of}
use Rattle.clap.proofs.WalkLemmas.{first_value-rows}
use Rattle.desk_args.specs.Joins.{IsSide}
use Rattle.desk_args.proofs.Joins.{no_side}
use Rattle.desk_args.proofs.join_args.side_given.Goals as goal

pub returns-in_err-get_str-clause-none : goal.returns-in_err-get_str-clause-none
returns-in_err-get_str-clause-none c none side is =
    let found : None ≡ first_of (codes "side") (rows_of (found_of c.args.options.now)) =
    c.in_err-get_str.ensures ∙ first_value-rows (found_of c.args.options.now) (codes "side") in
    no_side side (subst (λ (o : Option Text). IsSide o side) (sym found) is)

pub returns-clause-given : goal.returns-clause-given
returns-clause-given c =
    let found : Some c.in_ok-get_str.field-0.now ≡ first_of (codes "side") (rows_of (found_of c.args.options.now)) =
    c.in_ok-get_str.ensures ∙ first_value-rows (found_of c.args.options.now) (codes "side") in
    subst (λ (o : Option Text). IfSome c.side_in.result (IsSide o)) found c.side_in.ensures.given

pub returns-clause-none : goal.returns-clause-none
returns-clause-none c none side is =
    let found : Some c.in_ok-get_str.field-0.now ≡ first_of (codes "side") (rows_of (found_of c.args.options.now)) =
    c.in_ok-get_str.ensures ∙ first_value-rows (found_of c.args.options.now) (codes "side") in
    c.side_in.ensures.none none side (subst (λ (o : Option Text). IsSide o side) (sym found) is)
