-- What comes of volumes that are copied.
use Rattle.std.specs.Prelude.{◌≡◌, ℕ, ◌<◌, ◌≤◌, ⊤, List, length}
use Rattle.binding_rules.specs.declared.role.Role.{Role}
use Rattle.binding_rules.specs.declared.role.Role.TheVariants.{Primary, Secondary}
use Rattle.journal_lines.specs.declared.line.Journal.{Journal}
use Rattle.journal_archive.specs.declared.archive.Archive.{Archive}
use Rattle.journal_archive.specs.declared.outline.FiledVolume.{FiledVolume}
use Rattle.archive_files.specs.declared.error.FilesError.{FilesError}
use Rattle.archive_files.specs.declared.error.FilesError.TheVariants.{Changed, Memory}
use Rattle.volume_spans.specs.declared.reading.ReadVolume.{ReadVolume}
use Rattle.volume_spans.specs.declared.reader.SpanReader.{SpanReader}
use Rattle.volume_spans.specs.declared.reader.GivenSpan.TheVariants.{Missing as SpanMissing}
use Rattle.volume_spans.specs.Reading.{IsSpanRead, IsGiven, span_of}
use Rattle.volume_spans.specs.Together.{IsTogether, IsRefusedSpan}
use Rattle.journal_copies.specs.declared.query.CopyQuery.{CopyQuery}
use Rattle.journal_copies.specs.declared.query.CopyOutcome.{CopyOutcome}
use Rattle.journal_copies.specs.declared.query.CopyOutcome.TheVariants.{Copied, Missing, OtherLines, Refused}
use Rattle.journal_copies.specs.Text.{text_up_to}

-- the volumes of a side
abbrev pub shelf_of : Role → Archive → List FiledVolume
shelf_of Primary archive = archive.primary
shelf_of Secondary archive = archive.secondary

-- why volumes that were read can't be put together, beside that they aren't one journal
abbrev pub IsJoiningFault : FilesError → Type 0
IsJoiningFault (Changed file) = ⊤
IsJoiningFault Memory = ⊤
IsJoiningFault error = ⊥

-- what comes of the journal that the volumes are: its text up to the line that is asked for, or it has fewer lines
abbrev pub IsCopied : CopyQuery → Journal → CopyOutcome → Type 0
IsCopied q j (Copied copied) =
    (q.lines ≤ length j.lines) × (copied.text.items ≡ text_up_to q.lines j) × (copied.volumes ≡ q.span)
IsCopied q j (OtherLines count) = (count ≡ length j.lines) × (count < q.lines)
IsCopied q j outcome = ⊥

-- what comes of volumes that were read: of the journal that they are, or why they are none
abbrev pub IsCopyOver : CopyQuery → List ReadVolume → CopyOutcome → Type 0
IsCopyOver q rs (Refused refusal) = IsRefusedSpan rs refusal
IsCopyOver q rs outcome = (j : Journal) × IsTogether rs j × IsCopied q j outcome

-- What comes of the volumes of the side that are asked for, read of its files; or one of them is missing.
abbrev pub IsCopy : (had : ℕ → List ℕ → Type 0) → Archive → CopyQuery → CopyOutcome → Type 0
IsCopy had archive q (Missing side number) =
    (side ≡ q.side) × IsGiven had (shelf_of q.side archive) q.span (SpanMissing number)
IsCopy had archive q outcome =
    (s : SpanReader) × IsSpanRead had (shelf_of q.side archive) s × (span_of s.volumes.items ≡ q.span)
    × IsCopyOver q s.volumes.items outcome
