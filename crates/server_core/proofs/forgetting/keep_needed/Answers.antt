use Rattle.std.proofs.Common.{rules}
use Rattle.std.proofs.lemmas.Fn.{filter_same}
use Rattle.server_core.specs.Forgetting.{is_needed}
use Rattle.server_core.proofs.forgetting.keep_needed.Goals as goal

pub returns-clause-kept : goal.returns-clause-kept
returns-clause-kept c =
    filter_same _ (is_needed c.args.taken c.args.older.now.items) _ (λ x b f' k. search rules) _ _
    c.retain.ensures.filtered
