-- What the objects of answers over files say.
use Rattle.std.specs.Prelude.{ℕ, List, [], ◌∷◌, Option, Some, None, codes}
use Rattle.std.specs.declared.path.buf.PathBuf.{PathBuf}
use Rattle.attribution.specs.declared.verdict.Verdict.TheVariants.{Accepted}
use Rattle.pair_judgement.specs.declared.judging.Judgement.{Judgement}
use Rattle.pair_judgement.specs.declared.judging.Judgement.TheVariants.{Verdict}
use Rattle.volume_spans.specs.declared.span.SpanPair.{SpanPair}
use Rattle.archive_desk.specs.Certificates.{line_of}
use Rattle.archive_desk.specs.Names.{journals_line, volumes_note}
use Rattle.archive_desk.specs.Telling.{holder_status}
use Rattle.archive_desk.specs.declared.holding.HolderReply.{HolderReply}
use Rattle.archive_desk.specs.declared.holding.HolderReply.TheVariants as holder
use Rattle.archive_desk.specs.declared.holding.WhoAnswer.{WhoAnswer}
use Rattle.archive_desk.specs.declared.stretches.EvidenceReply.{EvidenceReply}
use Rattle.archive_desk.specs.declared.stretches.EvidenceReply.TheVariants as evidence
use Rattle.joined_evidence.specs.declared.span_searching.SpanEvidence.{SpanEvidence}
use Rattle.joined_evidence.specs.declared.stretches.SpannedStretch.{SpannedStretch}
use Rattle.joined_evidence.specs.declared.stretches.SpannedStretch.TheVariants as stretch
use Rattle.joined_evidence.specs.declared.stretches.SpannedEvidence.{SpannedEvidence}
use Rattle.joined_rulings.specs.Lacks.{refusal_line}
use Rattle.joined_rulings.specs.declared.widest.CertificateRuling.{CertificateRuling}
use Rattle.joined_rulings.specs.declared.widest.CertificateRuling.TheVariants as ruled
use Rattle.joined_rulings.specs.declared.widest.SpannedAudit.{SpannedAudit}
use Rattle.joined_rulings.specs.declared.given.GivenReply.{GivenReply}
use Rattle.joined_rulings.specs.declared.given.GivenReply.TheVariants as given
use Rattle.joined_rulings.specs.declared.given.GivenAudit.{GivenAudit}
use Rattle.answer_data.specs.Answers.{IsAnswerLine}
use Rattle.answer_data.specs.Parts.{Said, nothing, with_line, with_certificate, with_ruling, with_none}
use Rattle.answer_data.specs.Parts.{with_found, with_answer, with_access, with_over, with_volumes}
use Rattle.answer_data.specs.Texts.{without_feed}

-- ---- who held a prefix

-- the answer over these volumes, or that there is none
abbrev pub who_said : HolderReply → Said → Said
who_said (holder.Answered pair spans answer until) s = with_answer answer (with_volumes spans s)
who_said (holder.Lacking side lack) s = with_none s

-- and what access records say
abbrev pub IsWhoData : WhoAnswer → (notes text : List ℕ) → Type 0
IsWhoData answer notes text = IsAnswerLine (codes "who") (holder_status answer.reply)
    (with_access answer.access.items (who_said answer.reply nothing)) notes text

-- ---- the evidence of an interval

-- what a pair of volumes answers of a stretch, behind the names of their files
abbrev pub stretch_said : {A : Type 0} → List (PathBuf A) → EvidenceReply → Said → Said
stretch_said names (evidence.Answered pair answer warnings until) s =
    with_found answer (with_line (without_feed (journals_line names pair)) s)
stretch_said names (evidence.Lacking side lack) s = with_none s

-- what spans show, behind the names of the two last files and the volumes
abbrev pub spanned_said : {A : Type 0} → List (PathBuf A) → SpanEvidence → Said → Said
spanned_said names e s = with_certificate e.certificate (with_line (without_feed (volumes_note e.spans))
    (with_line (without_feed (journals_line names e.pair)) s))

abbrev pub evidence_said : {A : Type 0} → List (PathBuf A) → SpannedStretch → Said → Said
evidence_said names (stretch.Own found) s = stretch_said names found.reply s
evidence_said names (stretch.Joined e end) s = spanned_said names e s

-- of one behind the other
abbrev pub all_evidence : {A : Type 0} → List (PathBuf A) → List SpannedStretch → Said → Said
all_evidence names [] s = s
all_evidence names (x ∷ xs) s = all_evidence names xs (evidence_said names x s)

-- the volumes of an answer that is one stretch over spans
abbrev pub evidence_over : List SpannedStretch → Option SpanPair
evidence_over (stretch.Joined e end ∷ []) = Some e.spans
evidence_over _ = None

abbrev pub IsFindData : {A : Type 0} → List (PathBuf A) → SpannedEvidence → (status : ℕ) → (notes text : List ℕ) → Type 0
IsFindData names answer status notes text = IsAnswerLine (codes "find") status
    (all_evidence names answer.stretches.items (with_over (evidence_over answer.stretches.items) nothing)) notes text

-- ---- rulings on certificates

-- over its own pair of volumes, or accepted over spans, which are named
abbrev pub ruling_said : CertificateRuling → Said → Said
ruling_said (ruled.Own own) s = with_line (without_feed (line_of own)) s
ruling_said (ruled.Joined joined) s = with_ruling (Verdict Accepted) (with_volumes joined.spans s)

abbrev pub all_rulings : List CertificateRuling → Said → Said
all_rulings [] s = s
all_rulings (r ∷ rs) s = all_rulings rs (ruling_said r s)

abbrev pub IsAuditData : SpannedAudit → (status : ℕ) → (notes text : List ℕ) → Type 0
IsAuditData audit status notes text =
    IsAnswerLine (codes "audit") status (all_rulings audit.rulings.items nothing) notes text

-- over given volumes
abbrev pub all_given : List Judgement → Said → Said
all_given [] s = s
all_given (r ∷ rs) s = all_given rs (with_ruling r s)

abbrev pub given_said : {A : Type 0} → List (PathBuf A) → GivenReply → Said → Said
given_said names (given.Ruled g) s = all_given g.rulings.items (with_volumes g.spans s)
given_said names (given.Missing side number) s = with_line (without_feed (codes "none\n")) s
given_said names (given.Refused refusal) s = with_line (without_feed (refusal_line names refusal)) s

abbrev pub IsGivenData : {A : Type 0} → List (PathBuf A) → GivenAudit → (status : ℕ) → (notes text : List ℕ) → Type 0
IsGivenData names audit status notes text =
    IsAnswerLine (codes "audit") status (given_said names audit.reply nothing) notes text
