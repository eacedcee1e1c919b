-- A certificate, tried over spans that are widened one volume of each side at a time, up to the first that accept it.
use Rattle.std.specs.Prelude.{◌⊎◌, ⊤, ℕ, zero, suc, List, Option, Some, None}
use Rattle.causal_order.specs.declared.certificate.Certificate.{Certificate as Claim}
use Rattle.plain_search.specs.declared.query.HolderQuery.{HolderQuery}
use Rattle.journal_archive.specs.declared.archive.Archive.{Archive}
use Rattle.archive_files.specs.declared.error.FilesError.{FilesError}
use Rattle.archive_files.specs.declared.error.FilesError.TheVariants.{OtherHead, Faulty, Torn}
use Rattle.archive_files.specs.Rereading.{IsReadingRefusal}
use Rattle.volume_spans.specs.declared.spans.ReadSpans.{ReadSpans}
use Rattle.volume_spans.specs.Spans.{ArePairRead}
use Rattle.joined_answers.specs.Reach.{reach}
use Rattle.joined_answers.specs.Widening.{AreWidenedWithin, MayWidenWithin}
use Rattle.joined_rulings.specs.declared.trial.SpanAcceptance.{SpanAcceptance}
use Rattle.joined_rulings.specs.declared.trial.SpanTrial.{SpanTrial}
use Rattle.joined_rulings.specs.declared.trial.SpanTrial.TheVariants.{Accepted, Carried, Refused, Barred}
use Rattle.joined_rulings.specs.Trials.{IsTrial}

-- by what a file has: a volume begins otherwise than the one before it names, is no journal, or is torn
abbrev pub IsBarring : FilesError → Type 0
IsBarring (OtherHead file line) = ⊤
IsBarring (Faulty file fault) = ⊤
IsBarring (Torn file line) = ⊤
IsBarring _ = ⊥

-- some file has that
abbrev pub HasBarrier : (had : ℕ → List ℕ → Type 0) → Type 0
HasBarrier had = (error : FilesError) × IsBarring error × IsReadingRefusal had error

-- earlier volumes may say more
abbrev pub IsCarried : SpanTrial → Type 0
IsCarried Carried = ⊤
IsCarried _ = ⊥

abbrev pub accepted_of : SpanTrial → Option SpanAcceptance
accepted_of (Accepted a) = Some a
accepted_of _ = None

-- The certificate isn't accepted over these spans, and no wider ones are tried: no lease of its prefix is carried, or
-- something stands against them; or no earlier volume is within reach, or a file stands against wider ones.
abbrev pub IsEnd : (had : ℕ → List ℕ → Type 0) → HolderQuery → Claim → ReadSpans → Type 0
IsEnd had q c r =
    IsTrial r q c Refused
    ⊎ (IsTrial r q c Barred
    ⊎ (IsTrial r q c Carried × ((MayWidenWithin q.at (reach q r) r → ⊥) ⊎ HasBarrier had)))

-- The first spans that accept it of these, widened so many times, each time while it's refused, a lease is carried, and
-- an earlier volume is within reach; or none do.
abbrev pub IsWalk : (had : ℕ → List ℕ → Type 0) → Archive → HolderQuery → Claim → (times : ℕ) → ReadSpans
    → Option SpanAcceptance → Type 0
IsWalk had archive q c zero r (Some a) = IsTrial r q c (Accepted a)
IsWalk had archive q c zero r None = IsEnd had q c r
IsWalk had archive q c (suc n) r end =
    IsTrial r q c Carried × MayWidenWithin q.at (reach q r) r
    × ((s : ReadSpans) × AreWidenedWithin q.at (reach q r) r s × ArePairRead had archive s
    × IsWalk had archive q c n s end)
