-- The journals of an answer over spans are closed.
use Rattle.std.specs.Prelude.{ℕ, List}
use Rattle.archive_files.specs.Showing.{AreClosed}
use Rattle.journal_archive.specs.declared.archive.Archive.{Archive}
use Rattle.plain_search.specs.declared.query.HolderQuery.{HolderQuery}
use Rattle.desk_args.specs.declared.settings.SettingsCheck.{SettingsCheck}
use Rattle.joined_answers.specs.declared.answer.SpannedAnswer.{SpannedAnswer}
use Rattle.joined_answers.specs.Widening.{IsOverSpans}

pub closed_over : (had : ℕ → List ℕ → Type 0) (archive : Archive) (q : HolderQuery) (settings : SettingsCheck)
    (a : SpannedAnswer) → IsOverSpans had archive q settings a → AreClosed a.shown
closed_over had archive q settings a h = let answer = h.2 in let shown = answer.is_shown in shown.5
