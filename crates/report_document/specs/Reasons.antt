-- What is told of why nobody is named: the values of the blocks, in order. Its prose isn't said here.
use Rattle.std.specs.Prelude.{ℕ, ◌+◌, ◌-◌, ◌*◌, List, [], ◌∷◌, ◌++◌, Option, Some, None, nat_eq, if◌then◌else◌}
use Rattle.std.specs.List.{flat_map}
use Rattle.attribution.specs.Run.{infinity}
use Rattle.attribution.specs.declared.delegation.Lasting.{Lasting}
use Rattle.attribution.specs.declared.delegation.Lasting.TheVariants.{For, Until}
use Rattle.plain_search.specs.declared.query.HolderQuery.{HolderQuery}
use Rattle.candidate_leases.specs.declared.candidates.CandidateLease.{CandidateLease}
use Rattle.candidate_leases.specs.declared.why.NoHolderReason.{NoHolderReason}
use Rattle.candidate_leases.specs.declared.why.NoHolderReason.TheVariants as reason
use Rattle.candidate_leases.specs.declared.at_moment.AtMoment.{AtMoment}
use Rattle.candidate_leases.specs.declared.at_moment.AtMoment.TheVariants.{NotBegun, Ended, GivenBack, Carried}
use Rattle.candidate_leases.specs.declared.at_moment.AtMoment.TheVariants.{Beginning, Ending, MayBeGivenBack}
use Rattle.candidate_leases.specs.declared.at_moment.AtMoment.TheVariants.{EarlierVolumes, LaterVolumes, Shown}
use Rattle.candidate_leases.specs.Near.{may_begin, shows_to}
use Rattle.binding_rules.specs.declared.role.Role.{Role}
use Rattle.pair_judgement.specs.declared.judging.Judgement.{Judgement}
use Rattle.report_document.specs.declared.word.ReportWord.TheVariants as word
use Rattle.report_document.specs.Telling.{Told, heading, paragraph, item}
use Rattle.report_document.specs.Refusing.{ruling_told}

-- the line, and what it tells of
abbrev pub line_told : CandidateLease → Told
line_told n = heading (
    word.Line n.line.at ∷ word.Prefix n.delegation.prefix ∷ word.Client n.delegation.client
    ∷ word.Association n.delegation.iaid ∷ []
    )

-- by when what was granted had begun
abbrev pub begun_told : HolderQuery → (reading : ℕ) → Told
begun_told q reading = item (
    word.Reading reading ∷ word.Number reading ∷ word.Number q.skew ∷ word.Number q.transit
    ∷ word.Moment (reading + q.skew + q.transit) ∷ []
    )

-- up to when it surely lasts
abbrev pub lasts_told : HolderQuery → (reading valid : ℕ) → Option ℕ → Told
lasts_told q reading valid None = item []
lasts_told q reading valid (Some end) = item (
    word.Number reading ∷ word.Number (valid * 1000) ∷ word.Number q.skew ∷ word.Moment end ∷ []
    )

-- from when on it may have begun
abbrev pub may_begin_told : HolderQuery → (reading : ℕ) → Told
may_begin_told q reading = item (
    word.Number reading ∷ word.Number q.skew ∷ word.Moment (may_begin reading q.skew) ∷ []
    )

-- up to when it may have lasted
abbrev pub may_last_told : HolderQuery → (reading valid : ℕ) → List Told
may_last_told q reading valid = if nat_eq valid infinity then [] else item (
    word.Number reading ∷ word.Number (valid * 1000) ∷ word.Number q.skew ∷ word.Number q.transit
    ∷ word.Moment (reading + q.skew + q.transit + valid * 1000) ∷ []
    ) ∷ []

-- from when to when it is shown, and from when to when it may have been
abbrev pub shown_told : HolderQuery → (reading valid : ℕ) → List Told
shown_told q reading valid =
    begun_told q reading ∷ lasts_told q reading valid (shows_to q.skew reading valid) ∷ []

abbrev pub possible_told : HolderQuery → (reading valid : ℕ) → List Told
possible_told q reading valid = may_begin_told q reading ∷ may_last_told q reading valid

-- what is carried may have lasted up to its end, the skew and the transit
abbrev pub carried_told : HolderQuery → (end : ℕ) → List Told
carried_told q end = item (
    word.Number end ∷ word.Number q.skew ∷ word.Number q.transit ∷ word.Moment (end + q.skew + q.transit) ∷ []
    ) ∷ []

abbrev pub lasting_told : HolderQuery → (reading : ℕ) → Lasting → List Told
lasting_told q reading (For valid) = shown_told q reading valid ++ possible_told q reading valid
lasting_told q reading (Until end) = carried_told q end

-- what is so at the moment, and by how much it falls short
abbrev pub state_told : (at : ℕ) → AtMoment → Told
state_told at NotBegun = item (word.Moment at ∷ [])
state_told at (Ended end) = item (word.Moment at ∷ word.Moment end ∷ [])
state_told at (GivenBack release) = item (word.Moment at ∷ word.Line release.at ∷ [])
state_told at Carried = item (word.Moment at ∷ [])
state_told at (Beginning begun) = item (word.Moment at ∷ word.Milliseconds (begun - at) ∷ [])
state_told at (Ending end) = item (word.Moment at ∷ word.Milliseconds (at + 1 - end) ∷ [])
state_told at (MayBeGivenBack release) = item (word.Moment at ∷ word.Line release.at ∷ [])
state_told at (EarlierVolumes side needed) = item (word.Moment at ∷ word.Side side ∷ word.Reading needed ∷ [])
state_told at (LaterVolumes side needed closed) =
    item (word.Moment at ∷ word.Side side ∷ word.Reading closed ∷ word.Reading needed ∷ [])
state_told at Shown = item (word.Moment at ∷ [])

-- all that is told of a delegation
abbrev pub lease_told : HolderQuery → CandidateLease → List Told
lease_told q n = line_told n ∷ (lasting_told q n.line.reading n.delegation.lasting ++ state_told q.at n.state ∷ [])

abbrev pub question_told : HolderQuery → List Told
question_told q =
    heading []
    ∷ paragraph (word.Prefix q.prefix ∷ word.Moment q.at ∷ word.Milliseconds q.skew ∷ word.Milliseconds q.transit ∷ [])
    ∷ []

-- a side, what its clock showed last, and the least that it must have shown
abbrev pub ending_told : Role → (closed needed : ℕ) → Told
ending_told side closed needed = paragraph (word.Side side ∷ word.Reading closed ∷ word.Reading needed ∷ [])

-- the reason, with the values that were compared
abbrev pub reason_told : NoHolderReason → Told
reason_told reason.OutsidePools = paragraph []
reason_told (reason.BeforeFirstVolume primary secondary) =
    paragraph (word.Reading primary ∷ word.Reading secondary ∷ [])
reason_told (reason.BeforeOpen side needed) = paragraph (word.Side side ∷ word.Moment needed ∷ [])
reason_told (reason.AfterLastLine side needed last) = ending_told side last needed
reason_told (reason.PastEnd side needed closed) = ending_told side closed needed
reason_told (reason.SeveralCustomers unit_length) = paragraph (word.Number unit_length ∷ [])
reason_told (reason.Several first other) = paragraph (word.Line first.at ∷ word.Line other.at ∷ [])
reason_told (reason.Carried line) = paragraph (word.Line line.at ∷ [])
reason_told reason.NotShown = paragraph []
reason_told reason.Nobody = paragraph []

abbrev pub why_told : NoHolderReason → List Told
why_told why = heading [] ∷ reason_told why ∷ []

-- the question, the reason, and each delegation in its order
abbrev pub reasons_told : HolderQuery → NoHolderReason → List CandidateLease → List Told
reasons_told q why leases = question_told q ++ why_told why ++ flat_map (lease_told q) leases

-- the question, and what stands against the journals or against it: no lease is told of
abbrev pub refusal_told : HolderQuery → Judgement → List Told
refusal_told q ruling = question_told q ++ heading [] ∷ ruling_told ruling
