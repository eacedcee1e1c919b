use Rattle.std.proofs.lemmas.Bool.Decides.{Decides-eqb}
use Rattle.std.proofs.lemmas.Slice.Eq.{strip_suffix_is}
use Rattle.desk_reports.proofs.LineLaws.{cut_so}
use Rattle.desk_reports.proofs.unanswered.cut_end.Goals as goal

pub returns : goal.returns
returns c = cut_so c.args.text.now c.strip_suffix.result (strip_suffix_is Decides-eqb _ _ _ c.strip_suffix.ensures.cases)
