-- Whatever certificate is found over the journals of spans is true in every run of the pair that leaves the volumes.
use Rattle.plain_search.specs.declared.query.Query.{Query}
use Rattle.volume_spans.specs.declared.spans.ReadSpans.{ReadSpans}
use Rattle.joined_rulings.specs.Truth.{IsTrueOverSpans}
use Rattle.joined_evidence.specs.declared.span_searching.SpanEvidence.{SpanEvidence}
use Rattle.joined_evidence.specs.Searches.{IsSpanEvidence}

-- the evidence over spans is true over them
abbrev pub FoundIsTrue : Type 0
FoundIsTrue = (r : ReadSpans) (q : Query) (e : SpanEvidence) → IsSpanEvidence r q e
    → IsTrueOverSpans r q.skew q.transit e.certificate
