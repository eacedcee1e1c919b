-- A copy up to the lines that a shown journal uses is what was shown.
use Rattle.std.specs.Prelude.{◌≡◌, ◌≤◌, List, Ok, length}
use Rattle.journal_lines.specs.declared.line.Journal.{Journal}
use Rattle.attribution.specs.Snapshot.{closed_now}
use Rattle.open_volume.specs.declared.volume.VolumeSoFar.{VolumeSoFar}
use Rattle.open_volume.specs.Faults.{volume_of}
use Rattle.journal_archive.specs.declared.pair.PairJournals.{PairJournals}
use Rattle.volume_spans.specs.declared.reading.ReadVolume.{ReadVolume}
use Rattle.volume_spans.specs.declared.showing.SpannedJournals.TheVariants.{Journals}
use Rattle.volume_spans.specs.Reading.{AreWritten}
use Rattle.volume_spans.specs.Shown.{IsShownOver}
use Rattle.volume_spans.specs.Together.{IsTogether}
use Rattle.journal_copies.specs.Used.{lines_used}
use Rattle.journal_copies.specs.Text.{text_up_to}

-- a journal as the desk closes it
abbrev pub as_closed : Journal → Journal
as_closed j = record { role = j.role; head = j.head; lines = closed_now j.lines }

-- The copy of a journal up to the lines that are used of what it showed.
pub record IsCopyOfShown (own shown : Journal) : Type 0 where
  -- it has so many lines
  pub few : lines_used shown.lines ≤ length own.lines
  -- of what was shown that's the same text
  pub same : text_up_to (lines_used shown.lines) own ≡ text_up_to (lines_used shown.lines) shown
  -- read again, the text is a volume so far
  pub volume : VolumeSoFar
  pub read : volume_of (text_up_to (lines_used shown.lines) own) ≡ Ok volume
  -- that the desk closes to what was shown
  pub shows : as_closed volume.journal ≡ shown

-- the journal that volumes are together, copied so, is what they showed
abbrev pub IsCopiedOfShown : List ReadVolume → Journal → Type 0
IsCopiedOfShown rs shown = (j : Journal) × IsTogether rs j × IsCopyOfShown j shown

-- so it is with both journals that spans show
abbrev pub CopiesAreWhatWasShown : Type 0
CopiesAreWhatWasShown = (primary secondary : List ReadVolume) (shown : PairJournals)
    → AreWritten primary → AreWritten secondary → IsShownOver primary secondary (Journals shown)
    → IsCopiedOfShown primary shown.primary × IsCopiedOfShown secondary shown.secondary
