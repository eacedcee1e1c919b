use Rattle.std.proofs.Common.{◌≡◌, ◌≤◌, ◌∙◌, refl, sym, Option, Some, subst}
use Rattle.clap.specs.Words.{Text, first_of, rows_of, found_of}
use Rattle.clap.proofs.WalkLemmas.{first_value-rows}
use Rattle.desk_args.specs.Given.{IsNumber}
use Rattle.desk_args.specs.Joins.{IsVolumeOrNone}
use Rattle.desk_args.proofs.join_args.volume_given.Goals as goal

pub returns-in_err-volume-in-Some-clause-none : goal.returns-in_err-volume-in-Some-clause-none
returns-in_err-volume-in-Some-clause-none c none n is =
    let found : Some c.in-Some.text.now ≡ first_of c.args.name.now (rows_of (found_of c.args.options.now)) =
    c.in-Some.ensures ∙ first_value-rows (found_of c.args.options.now) c.args.name.now in
    c.in_err-volume-in-Some.ensures.none refl n (subst (λ (o : Option Text). IsVolumeOrNone o n) (sym found) is)

pub returns-in_ok-volume-in-Some-clause-given : goal.returns-in_ok-volume-in-Some-clause-given
returns-in_ok-volume-in-Some-clause-given c =
    let found : Some c.in-Some.text.now ≡ first_of c.args.name.now (rows_of (found_of c.args.options.now)) =
    c.in-Some.ensures ∙ first_value-rows (found_of c.args.options.now) c.args.name.now in
    let n = c.in_ok-volume-in-Some.volume in
    subst (λ (o : Option Text). IsNumber 1048576 o n × (1 ≤ n)) found c.in_ok-volume-in-Some.ensures.given

pub returns-in-None-clause-given : goal.returns-in-None-clause-given
returns-in-None-clause-given c =
    sym (c.in-None.ensures ∙ first_value-rows (found_of c.args.options.now) c.args.name.now)
