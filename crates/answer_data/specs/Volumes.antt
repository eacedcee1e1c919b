-- Over which volumes an answer is, in an object.
use Rattle.std.specs.Prelude.{◌≡◌, ◌==◌, ◌&&◌, Bool, true, false, Option, Some, None}
use Rattle.serde_json.specs.Data.{Data, null}
use Rattle.report_data.specs.Fields.{IsText}
use Rattle.volume_spans.specs.declared.span.SpanPair.{SpanPair}
use Rattle.volume_spans.specs.Spelling.{pair_text}

-- they are one volume of each side
abbrev pub is_single : SpanPair → Bool
is_single spans =
    (spans.primary.first == spans.primary.last) && (spans.secondary.first == spans.secondary.last)

-- over which volumes; null where they are one of each side, or texts were given
abbrev pub IsSpanData : SpanPair → Data → Type 0
IsSpanData spans d = (is_single spans ≡ true → d ≡ null) × (is_single spans ≡ false → IsText (pair_text spans) d)

abbrev pub IsVolumesData : Option SpanPair → Data → Type 0
IsVolumesData None d = d ≡ null
IsVolumesData (Some spans) d = IsSpanData spans d
