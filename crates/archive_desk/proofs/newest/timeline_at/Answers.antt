use Rattle.std.specs.Prelude.{IfOk}
use Rattle.std.proofs.Common.{ℕ, List, Result, Ok, Err, sym, subst, refl}
use Rattle.journal_archive.specs.declared.pair_lookup.VolumePair.{VolumePair}
use Rattle.journal_archive.specs.declared.archive.Archive.{Archive}
use Rattle.journal_archive.specs.declared.pair.PairJournals.{PairJournals}
use Rattle.archive_files.specs.declared.error.FilesError.{FilesError}
use Rattle.archive_files.specs.declared.showing.ShownJournals.{ShownJournals}
use Rattle.archive_files.specs.declared.showing.ShownJournals.TheVariants.{Journals}
use Rattle.archive_files.specs.Showing.{IsShownAt}
use Rattle.archive_desk.specs.declared.newest.TimelineReply.{TimelineReply}
use Rattle.archive_desk.specs.declared.newest.TimelineReply.TheVariants.{Answered, Lacking}
use Rattle.archive_desk.specs.Newest.{IsTimelineOver, IsTimelineAt}
use Rattle.archive_desk.proofs.newest.timeline_at.Goals as goal

-- what is answered over the pair that shows the moment is what is answered of the moment
over : (had : ℕ → List ℕ → Type 0) (archive : Archive) (moment skew : ℕ) (pair : VolumePair) (shown : PairJournals)
    → IsShownAt had archive skew 0 moment (Journals pair shown) → (r : Result TimelineReply FilesError)
    → IfOk r (IsTimelineOver pair shown) → IfOk r (IsTimelineAt had archive moment skew)
over had archive moment skew pair shown at (Ok (Answered of answer)) h =
    (shown, subst (λ (p : VolumePair). IsShownAt had archive skew 0 moment (Journals p shown)) (sym h.0) at, (refl, h.1))
over had archive moment skew pair shown at (Ok (Lacking side lack)) h = absurd h
over had archive moment skew pair shown at (Err e) h = tt

pub returns-in-Journals : goal.returns-in-Journals
returns-in-Journals g c =
    over (g.F.JournalFiles.had c.args.files.now) c.args.archive.now c.args.moment c.args.skew c.in-Journals.pair
    c.in-Journals.shown
    (subst (λ (s : ShownJournals). IsShownAt (g.F.JournalFiles.had c.args.files.now) c.args.archive.now c.args.skew 0
    c.args.moment s) c.in-Journals.is c.in_ok-pair.ensures.shown)
    c.timeline_over.result c.timeline_over.ensures
