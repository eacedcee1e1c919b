use Rattle.std.proofs.Common.{◌∙◌, ap, subst, List, Option, map, string_bytes}
use Rattle.std.specs.Prelude.{IfOk}
use Rattle.clap.specs.Words.{App, Row, Text, is_simple, subcommand_of}
use Rattle.desk_args.specs.Outlines.{IsOutlined}
use Rattle.desk_args.proofs.outlines.outline_of.Goals as goal

pub returns-in-Ok-try_get_matches_from : goal.returns-in-Ok-try_get_matches_from
returns-in-Ok-try_get_matches_from c =
    let rows = (c.in-Ok-try_get_matches_from.ensures.matches (ap is_simple c.in-Ok.ensures)).1
    ∙ ap (λ (a : App). subcommand_of a (map string_bytes c.args.words.now)) c.in-Ok.ensures in
    subst (λ (o : Option (Text × List Row)). IfOk c.outline_found.result (IsOutlined o)) rows c.outline_found.ensures
