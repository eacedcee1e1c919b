use Rattle.std.proofs.Common.{◌≡◌, subst, codes, false}
use Rattle.std.specs.Prelude.{IfOk}
use Rattle.clap.specs.Words.{App, app_of, with_rule}
use Rattle.desk_args.specs.Words.{option_rule}
use Rattle.desk_args.proofs.subcommands.with_case.Goals as goal

pub returns-clause-app : goal.returns-clause-app
returns-clause-app c =
    subst (λ (a : App). IfOk c.with_option-2.result (λ told. app_of told ≡ with_rule a (option_rule (codes "asked-by") false)))
    c.in_ok-told.ensures.app c.with_option-2.ensures.app
