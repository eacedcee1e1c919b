use Rattle.std.proofs.Common.{◌∙◌, Option, List, subst, codes}
use Rattle.std.specs.Prelude.{IfOk, option_map}
use Rattle.clap.specs.Words.{Text, all_of, rows_of, found_of}
use Rattle.clap.proofs.WalkLemmas.{first_value-rows, raw_values-rows}
use Rattle.desk_args.specs.Sources.{Judges, IsSourceBy}
use Rattle.desk_args.proofs.sources.source_given.Goals as goal

pub returns-clause-given : goal.returns-clause-given
returns-clause-given c =
    let journals = c.get_strs.ensures ∙ raw_values-rows (found_of c.args.options.now) (codes "journals") in
    let certificate = c.get_str.ensures ∙ first_value-rows (found_of c.args.options.now) (codes "certificate") in
    subst (λ (o : Option Text). IfOk c.source_of.result (IsSourceBy (Judges c.args.name.now)
    (all_of (codes "journals") (rows_of (found_of c.args.options.now))) o)) certificate
    (subst (λ (o : Option (List Text)). IfOk c.source_of.result (IsSourceBy (Judges c.args.name.now) o
    (option_map (λ s. s.now) c.get_str.result))) journals c.source_of.ensures.given)

pub returns-clause-refused : goal.returns-clause-refused
returns-clause-refused c usage source is =
    let journals = c.get_strs.ensures ∙ raw_values-rows (found_of c.args.options.now) (codes "journals") in
    let certificate = c.get_str.ensures ∙ first_value-rows (found_of c.args.options.now) (codes "certificate") in
    c.source_of.ensures.refused usage source (rw (journals, certificate) is)
