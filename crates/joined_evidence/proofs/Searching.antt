-- What a search comes to, put together.
use Rattle.std.specs.Prelude.{◌≡◌, ℕ, List, Option, Some, None, Result, Ok, Err, IfOk}
use Rattle.std.proofs.Common.{subst, inl, inr}
use Rattle.journal_lines.specs.declared.line.Journal.{Journal}
use Rattle.causal_order.specs.Journals.{Journals, journals_of}
use Rattle.causal_order.specs.declared.certificate.Certificate.{Certificate}
use Rattle.pair_judgement.specs.PairJudgements.{IsFit}
use Rattle.plain_search.specs.declared.query.Query.{Query}
use Rattle.plain_search.specs.declared.query.HolderQuery.{HolderQuery}
use Rattle.candidate_leases.specs.declared.candidates.CandidateLease.{CandidateLease}
use Rattle.candidate_leases.specs.Conditions.{asked_of}
use Rattle.candidate_leases.specs.Leases.{AreNearLeases}
use Rattle.journal_archive.specs.declared.archive.Archive.{Archive}
use Rattle.archive_files.specs.declared.error.FilesError.{FilesError}
use Rattle.attribution_desk.specs.declared.search.Search.TheVariants.{Find}
use Rattle.attribution_desk.specs.declared.finding.Finding.{Finding}
use Rattle.attribution_desk.specs.declared.finding.Finding.TheVariants.{Shown as IsShown, NoneFound, TooLong}
use Rattle.attribution_desk.specs.declared.search_answer.SearchAnswer.{SearchAnswer}
use Rattle.attribution_desk.specs.Find.{IsFound, IsFinding}
use Rattle.attribution_desk.specs.Searching.{IsAsked}
use Rattle.joined_answers.specs.declared.starting.MomentSpans.TheVariants.{Read}
use Rattle.joined_answers.specs.Starting.{AreMomentSpans}
use Rattle.volume_spans.specs.declared.spans.ReadSpans.{ReadSpans}
use Rattle.joined_evidence.specs.declared.searched.JournalSearch.{JournalSearch}
use Rattle.joined_evidence.specs.declared.searched.JournalSearch.TheVariants.{Shown, Carried, NotShown, Barred}
use Rattle.joined_evidence.specs.declared.span_searching.SpanEvidence.{SpanEvidence}
use Rattle.joined_evidence.specs.Searches.{certificate_by, certificate_in, IsNotGivenWith}
use Rattle.joined_evidence.specs.Searches.{IsOpenSearch, IsJournalSearch}
use Rattle.joined_evidence.specs.Walking.{IsWalk, IsTriedAt}

shown_by : (js : Journals) (q : Query) (f : Finding) (c : Certificate) → IsFinding js q f → certificate_by f ≡ Some c
    → IsFound js q c
shown_by js q (IsShown d) c is same = let e : d ≡ c = cc in subst (IsFound js q) e is
shown_by js q NoneFound c is same = let e = same in absurd (cc)
shown_by js q TooLong c is same = let e = same in absurd (cc)

-- the certificate that is given is found
pub shown_so : (a b : Journal) (js : Journals) (q : Query) (answer : SearchAnswer) (c : Certificate)
    → IsAsked (Find q) a b js answer → certificate_in answer ≡ Some c → IsFound js q c
shown_so a b js q answer c (inl h) is = absurd h.1
shown_so a b js q answer c (inr h) is =
    shown_by js q h.1.0 c h.1.1
    (subst (λ (x : SearchAnswer). certificate_in x ≡ Some c) h.1.2 is)

-- none is given
pub none_so : (a b : Journal) (js : Journals) (q : Query) (h : HolderQuery) (answer : SearchAnswer)
    (leases : List CandidateLease) → IsAsked (Find q) a b js answer → certificate_in answer ≡ None
    → AreNearLeases js h.prefix (asked_of h) leases → IsNotGivenWith js q h leases
none_so a b js q h answer leases (inl x) is near = absurd x.1
none_so a b js q h answer leases (inr x) is near = record {
  finding = x.1.0;
  is_finding = x.1.1;
  none = subst (λ (y : SearchAnswer). certificate_in y ≡ None) x.1.2 is;
  near = near;
}

-- nothing stands against the two journals
pub open_so : (a b : Journal) (q : Query) (h : HolderQuery) (js : Journals) (came : JournalSearch) → IsFit a b q.skew
    → js ≡ journals_of a b → IsOpenSearch js q h came → IsJournalSearch a b q h came
open_so a b q h js (Shown c) fit same is = (fit, subst (λ (x : Journals). IsOpenSearch x q h (Shown c)) same is)
open_so a b q h js Carried fit same is = (fit, subst (λ (x : Journals). IsOpenSearch x q h Carried) same is)
open_so a b q h js NotShown fit same is = (fit, subst (λ (x : Journals). IsOpenSearch x q h NotShown) same is)
open_so a b q h js Barred fit same is = absurd is

pub all_open_so : (a b : Journal) (q : Query) (h : HolderQuery) (js : Journals) → IsFit a b q.skew
    → js ≡ journals_of a b → (came : Result JournalSearch FilesError) → IfOk came (IsOpenSearch js q h)
    → IfOk came (IsJournalSearch a b q h)
all_open_so a b q h js fit same (Ok came) is = open_so a b q h js came fit same is
all_open_so a b q h js fit same (Err error) is = tt

-- what comes of the moment's own spans comes of the moment
pub walked_so : (had : ℕ → List ℕ → Type 0) (archive : Archive) (q : Query) (h : HolderQuery) (r : ReadSpans)
    → AreMomentSpans had archive h.skew h.transit h.at (Read r)
    → (end : Result (Option SpanEvidence) FilesError)
    → IfOk end (λ (x : Option SpanEvidence). (times : ℕ) × IsWalk had archive q h times r x)
    → IfOk end (IsTriedAt had archive q h)
walked_so had archive q h r moment (Ok end) walk = inl (r, walk.0, moment, walk.1)
walked_so had archive q h r moment (Err error) walk = tt
