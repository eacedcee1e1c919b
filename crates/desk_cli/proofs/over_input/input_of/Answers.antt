use Rattle.std.proofs.Common.{[]}
use Rattle.desk_cli.proofs.over_input.input_of.Goals as goal

pub finish-input-requires : goal.finish-input-requires
finish-input-requires g c = let taken = c.in_ok-intake.ensures.taken in (taken.0, taken.1 [] c.new.ensures)
