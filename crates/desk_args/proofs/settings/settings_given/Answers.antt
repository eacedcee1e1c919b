use Rattle.std.proofs.Common.{◌≡◌, ◌≢◌, ◌∙◌, Option, Some, None, subst, codes}
use Rattle.clap.specs.Words.{Text, first_of, rows_of, found_of}
use Rattle.clap.proofs.WalkLemmas.{first_value-rows}
use Rattle.desk_args.specs.Given.{IsSettings}
use Rattle.desk_args.proofs.settings.settings_given.Goals as goal

pub returns-in-Some : goal.returns-in-Some
returns-in-Some c =
    let found : Some c.in-Some.word.now ≡ first_of (codes "settings-differ") (rows_of (found_of c.args.options.now)) =
    c.in-Some.ensures ∙ first_value-rows (found_of c.args.options.now) (codes "settings-differ") in
    subst (λ (o : Option Text). IsSettings o c.settings_in.result) found c.settings_in.ensures

pub returns-in-None : goal.returns-in-None
returns-in-None c =
    let found : None ≡ first_of (codes "settings-differ") (rows_of (found_of c.args.options.now)) =
    c.in-None.ensures ∙ first_value-rows (found_of c.args.options.now) (codes "settings-differ") in
    subst (λ (o : Option Text). o ≢ Some (codes "true")) found (λ e. absurd (cc))
