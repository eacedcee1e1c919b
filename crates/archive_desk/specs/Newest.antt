-- The lines of the newest pair of volumes, in one order.
use Rattle.std.specs.Prelude.{◌≡◌, ℕ, ◌-◌, min, List, Option, Some, None, Ok, length, slice_get}
use Rattle.journal_archive.specs.declared.outline.FiledVolume.{FiledVolume}
use Rattle.journal_archive.specs.declared.pair_lookup.VolumePair.{VolumePair}
use Rattle.journal_archive.specs.declared.archive.Archive.{Archive}
use Rattle.journal_archive.specs.declared.pair.PairJournals.{PairJournals}
use Rattle.archive_files.specs.Showing.{IsShownAt}
use Rattle.archive_files.specs.declared.showing.ShownJournals.TheVariants.{Journals as ShownJournals, Lacking as ShownLacking}
use Rattle.attribution_desk.specs.Timeline.{IsTimelineOf}
use Rattle.archive_desk.specs.declared.newest.TimelineReply.{TimelineReply}
use Rattle.archive_desk.specs.declared.newest.TimelineReply.TheVariants.{Answered, Lacking}

abbrev pub last_by : Option FiledVolume → ℕ
last_by (Some v) = v.outline.last
last_by None = 0

-- the last reading of a side's last volume
abbrev pub last_of : List FiledVolume → ℕ
last_of vs = last_by (slice_get vs (length vs - 1))

-- the last moment before both sides' last readings
abbrev pub last_moment : Archive → ℕ
last_moment archive = min (last_of archive.primary) (last_of archive.secondary) - 1

-- the order of the lines of the journals that two volumes show
abbrev pub IsTimelineOver : VolumePair → PairJournals → TimelineReply → Type 0
IsTimelineOver pair shown (Answered of answer) =
    (of ≡ pair) × IsTimelineOf (Ok shown.primary) (Ok shown.secondary) answer.line.items answer.status
IsTimelineOver pair shown (Lacking side lack) = ⊥

abbrev pub IsTimelineAt : (had : ℕ → List ℕ → Type 0) → Archive → (moment skew : ℕ) → TimelineReply → Type 0
IsTimelineAt had archive moment skew (Answered pair answer) =
    (shown : PairJournals) × IsShownAt had archive skew 0 moment (ShownJournals pair shown)
    × IsTimelineOver pair shown (Answered pair answer)
IsTimelineAt had archive moment skew (Lacking side lack) =
    IsShownAt had archive skew 0 moment (ShownLacking side lack)

-- of the pair that shows the last moment before both sides' last readings
abbrev pub IsNewest : (had : ℕ → List ℕ → Type 0) → Archive → TimelineReply → Type 0
IsNewest had archive reply = IsTimelineAt had archive (last_moment archive) 0 reply
