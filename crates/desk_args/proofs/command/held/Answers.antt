use Rattle.std.proofs.Common.{rules}
use Rattle.desk_args.specs.declared.command.Command.TheVariants.{Audit, Batch, Timeline, Clocks, Find, Who}
use Rattle.desk_args.proofs.command.held.Goals as goal

pub returns-in-Err-clause-refused : goal.returns-in-Err-clause-refused
returns-in-Err-clause-refused c usage (Who query settings) is = c.in-Err.ensures.refused (search rules) query is.1
returns-in-Err-clause-refused c usage (Audit skew transit) is = let name = is.0 in search rules
returns-in-Err-clause-refused c usage (Batch skew transit workers) is = let name = is.0 in search rules
returns-in-Err-clause-refused c usage Timeline is = let name = is in search rules
returns-in-Err-clause-refused c usage Clocks is = let name = is in search rules
returns-in-Err-clause-refused c usage (Find query) is = let name = is.0 in search rules
