-- What comes of volumes that were read is what comes of those that are asked for.
use Rattle.std.specs.Prelude.{◌≡◌, ℕ, List, Result, Ok, Err, IfOk}
use Rattle.journal_archive.specs.declared.archive.Archive.{Archive}
use Rattle.volume_spans.specs.declared.reader.SpanReader.{SpanReader}
use Rattle.volume_spans.specs.Reading.{IsSpanRead, span_of}
use Rattle.journal_copies.specs.declared.query.CopyQuery.{CopyQuery}
use Rattle.journal_copies.specs.declared.query.CopyOutcome.{CopyOutcome}
use Rattle.journal_copies.specs.declared.query.CopyOutcome.TheVariants.{Copied, Missing, OtherLines, Refused}
use Rattle.journal_copies.specs.Copying.{shelf_of, IsCopyOver, IsCopy}

pub copy_is : {E : Type 0} (had : ℕ → List ℕ → Type 0) (archive : Archive) (q : CopyQuery) (s : SpanReader)
    (result : Result CopyOutcome E) → IsSpanRead had (shelf_of q.side archive) s → span_of s.volumes.items ≡ q.span
    → IfOk result (IsCopyOver q s.volumes.items) → IfOk result (IsCopy had archive q)
copy_is had archive q s (Err e) read span over = tt
copy_is had archive q s (Ok (Copied copied)) read span over = (s, read, span, over)
copy_is had archive q s (Ok (OtherLines count)) read span over = (s, read, span, over)
copy_is had archive q s (Ok (Refused refusal)) read span over = (s, read, span, over)
copy_is had archive q s (Ok (Missing side number)) read span over = absurd over.2
