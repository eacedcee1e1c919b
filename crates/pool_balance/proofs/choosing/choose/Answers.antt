use Rattle.std.proofs.Common.{rules}
use Rattle.pool_balance.proofs.Choices.{choice, kept}
use Rattle.pool_balance.proofs.choosing.choose.Goals as goal

pub returns-clause-choice : goal.returns-clause-choice
returns-clause-choice c =
    let left = kept _ _ _ c.sort_highest_first.new.units _ (search rules) (search rules) c.truncate.ensures.items in
    (choice c.args.units.now _ _ _ _ _ c.in-Ok.ensures c.backup_units-backup.ensures (search rules)
    (search rules) c.sort_highest_first.ensures.descending left).0

pub returns-clause-many : goal.returns-clause-many
returns-clause-many c =
    let left = kept _ _ _ c.sort_highest_first.new.units _ (search rules) (search rules) c.truncate.ensures.items in
    (choice c.args.units.now _ _ _ _ _ c.in-Ok.ensures c.backup_units-backup.ensures (search rules)
    (search rules) c.sort_highest_first.ensures.descending left).1
