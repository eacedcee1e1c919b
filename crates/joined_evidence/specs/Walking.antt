-- A search for evidence over spans that are widened one volume of each side at a time, up to the first over which some
-- is found.
use Rattle.std.specs.Prelude.{◌≡◌, ◌⊎◌, ⊤, ℕ, zero, suc, List, Option, Some, None}
use Rattle.plain_search.specs.declared.query.Query.{Query}
use Rattle.plain_search.specs.declared.query.HolderQuery.{HolderQuery}
use Rattle.journal_archive.specs.declared.archive.Archive.{Archive}
use Rattle.volume_spans.specs.declared.spans.ReadSpans.{ReadSpans}
use Rattle.volume_spans.specs.Spans.{ArePairRead}
use Rattle.joined_answers.specs.declared.starting.MomentSpans.TheVariants.{Read}
use Rattle.joined_answers.specs.Starting.{AreMomentSpans}
use Rattle.joined_answers.specs.Reach.{reach}
use Rattle.joined_answers.specs.Widening.{AreWidenedWithin, MayWidenWithin}
use Rattle.joined_rulings.specs.Walking.{HasBarrier}
use Rattle.joined_rulings.specs.Trying.{IsUnshown}
use Rattle.joined_evidence.specs.declared.span_searching.SpanEvidence.{SpanEvidence}
use Rattle.joined_evidence.specs.declared.span_searching.SpanSearch.{SpanSearch}
use Rattle.joined_evidence.specs.declared.span_searching.SpanSearch.TheVariants.{Found, Carried, NotFound, Barred}
use Rattle.joined_evidence.specs.Asking.{asked_at}
use Rattle.joined_evidence.specs.Searches.{IsSpanSearch}

-- earlier volumes may say more
abbrev pub IsCarried : SpanSearch → Type 0
IsCarried Carried = ⊤
IsCarried _ = ⊥

abbrev pub found_of : SpanSearch → Option SpanEvidence
found_of (Found e) = Some e
found_of _ = None

-- No evidence is found over these spans, and no wider ones are tried: no lease of the prefix is carried, or something
-- stands against them; or no earlier volume is within reach, or a file stands against wider ones.
abbrev pub IsEnd : (had : ℕ → List ℕ → Type 0) → Query → HolderQuery → ReadSpans → Type 0
IsEnd had q h r =
    IsSpanSearch r q h NotFound
    ⊎ (IsSpanSearch r q h Barred
    ⊎ (IsSpanSearch r q h Carried × ((MayWidenWithin h.at (reach h r) r → ⊥) ⊎ HasBarrier had)))

-- The evidence over the first spans that have some of these, widened so many times, each time while none is given, a
-- lease is carried, and an earlier volume is within reach; or none do.
abbrev pub IsWalk : (had : ℕ → List ℕ → Type 0) → Archive → Query → HolderQuery → (times : ℕ) → ReadSpans
    → Option SpanEvidence → Type 0
IsWalk had archive q h zero r (Some e) = IsSpanSearch r q h (Found e)
IsWalk had archive q h zero r None = IsEnd had q h r
IsWalk had archive q h (suc n) r end =
    IsSpanSearch r q h Carried × MayWidenWithin h.at (reach h r) r
    × ((s : ReadSpans) × AreWidenedWithin h.at (reach h r) r s × ArePairRead had archive s
    × IsWalk had archive q h n s end)

-- of those that show a moment and wider ones
abbrev pub IsTriedAt : (had : ℕ → List ℕ → Type 0) → Archive → Query → HolderQuery → Option SpanEvidence → Type 0
IsTriedAt had archive q h end =
    ((r : ReadSpans) × (times : ℕ) × AreMomentSpans had archive h.skew h.transit h.at (Read r)
    × IsWalk had archive q h times r end)
    ⊎ (IsUnshown had archive h × (end ≡ None))

-- of those that show where the interval begins
abbrev pub IsTried : (had : ℕ → List ℕ → Type 0) → Archive → Query → Option SpanEvidence → Type 0
IsTried had archive q end = IsTriedAt had archive q (asked_at q) end
