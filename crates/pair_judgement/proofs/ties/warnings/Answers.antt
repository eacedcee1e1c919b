use Rattle.std.proofs.Common.{rules}
use Rattle.pair_judgement.specs.Ties.{pair_note, skew_note, unless}
use Rattle.pair_judgement.proofs.Settings.{noted}
use Rattle.pair_judgement.proofs.ties.warnings.Goals as goal

pub returns : goal.returns
returns c = (
  unless c.are_one_pair-alike.result pair_note,
  unless c.are_both_covered-covered.result skew_note,
  noted _ pair_note _ c.are_one_pair-alike.ensures,
  noted _ skew_note _ c.are_both_covered-covered.ensures,
  search rules,
)
