-- What a search finds is true in every run of the pair that leaves the journals.
use Rattle.std.specs.Prelude.{◌≡◌, ℕ, List, Result, Ok, Err}
use Rattle.std.proofs.Common.{arith, inl, inr, subst, sym, refl, ap, ◌∙◌}
use Rattle.binding_rules.specs.declared.role.Role.TheVariants.{Primary, Secondary}
use Rattle.journal_lines.specs.declared.line.Journal.{Journal as Lines}
use Rattle.journal_lines.specs.declared.fault.JournalFault.{JournalFault}
use Rattle.journal_text.specs.Faults.{journal_of_side}
use Rattle.causal_order.specs.Journals.{journals_of}
use Rattle.causal_order.specs.declared.certificate.Certificate.{Certificate as Claim}
use Rattle.certificate.specs.Faults.{certificate_of}
use Rattle.certificate.specs.Laws.{CertificatesAreSpelled}
use Rattle.certificate.specs.Spelling.{certificate_text}
use Rattle.attribution.specs.declared.verdict.Verdict.{Verdict as VerdictValue}
use Rattle.attribution.specs.declared.verdict.Verdict.TheVariants.{Accepted}
use Rattle.auditor.specs.Pair.{IsPairRefused}
use Rattle.auditor.specs.Texts.{IsVerdictOfParsed, AcceptedTextsAreTrue}
use Rattle.auditor.proofs.Pairs.{refused_not_accepted}
use Rattle.pair_judgement.specs.declared.judging.Judgement.{Judgement}
use Rattle.pair_judgement.specs.declared.judging.Judgement.TheVariants.{Verdict, Clocks, Pair, Skew, Carried}
use Rattle.pair_judgement.specs.PairJudgements.{IsRuledOut, IsFit}
use Rattle.pair_judgement.specs.Judgements.{status_of as ruling_status}
use Rattle.plain_search.specs.declared.query.Query.{Query}
use Rattle.plain_search.specs.declared.query.HolderQuery.{HolderQuery}
use Rattle.desk_args.specs.declared.settings.SettingsCheck.{SettingsCheck}
use Rattle.desk_args.specs.declared.settings.SettingsCheck.TheVariants.{MustAgree, MayDiffer}
use Rattle.attribution_desk.specs.declared.search.Search.{Search}
use Rattle.attribution_desk.specs.declared.search.Search.TheVariants.{Find, Who}
use Rattle.attribution_desk.specs.declared.finding.Finding.{Finding}
use Rattle.attribution_desk.specs.declared.finding.Finding.TheVariants.{Shown, NoneFound, TooLong}
use Rattle.attribution_desk.specs.declared.search_answer.SearchAnswer.{SearchAnswer}
use Rattle.attribution_desk.specs.declared.search_answer.SearchAnswer.TheVariants.{Refused, Found}
use Rattle.attribution_desk.specs.Find.{finding_status}
use Rattle.attribution_desk.specs.Who.{IsHeldText}
use Rattle.attribution_desk.specs.Input.{first_text, text_behind}
use Rattle.attribution_desk.specs.Searching.{skew_of, transit_of, Forbids, IsFindingOf, IsSearchOf, Tells, status_of}
use Rattle.attribution_desk.specs.Searching.{IsSearchTold}
use Rattle.attribution_desk.specs.Headline.{IsTrueCertificate, IsTrueEvidence, IsTrueHolder}
use Rattle.attribution_desk.proofs.Headline.{accepts}

-- a certificate that is what its text is read as, and that is accepted over what two texts are as journals
pub record IsShown (a b : Result Lines JournalFault) (skew transit : ℕ) (c : Claim) : Type 0 where
  pub read : certificate_of (certificate_text c) ≡ Ok c
  pub verdict : IsVerdictOfParsed a b skew transit (Ok c) Accepted

-- ---- no ruling has status 0

ruled_out : (a b : Lines) (skew : ℕ) (r : Judgement) → IsRuledOut a b skew r → ruling_status r ≡ 0 → ⊥
ruled_out a b skew (Verdict v) h none =
    refused_not_accepted a b (subst (λ (x : VerdictValue). IsPairRefused a b x) (accepts v none) h)
ruled_out a b skew (Clocks take) h none = absurd (omega (arith, none))
ruled_out a b skew Pair h none = absurd (omega (arith, none))
ruled_out a b skew Skew h none = absurd (omega (arith, none))
ruled_out a b skew (Carried line) h none = absurd (omega (arith, none))

forbidden : (q : Search) (a b : Lines) (r : Judgement) → Forbids q a b r → ruling_status r ≡ 0 → ⊥
forbidden (Who q MustAgree) a b (Verdict v) h none = absurd h
forbidden (Who q MustAgree) a b (Clocks take) h none = absurd h
forbidden (Who q MustAgree) a b Pair h none = absurd (omega (arith, none))
forbidden (Who q MustAgree) a b Skew h none = absurd (omega (arith, none))
forbidden (Who q MustAgree) a b (Carried line) h none = absurd h
forbidden (Who q MayDiffer) a b r h none = absurd h
forbidden (Find q) a b r h none = absurd h

-- ---- what is found is accepted

found_in : (q : Search) (a b : Lines) (f : Finding) → IsFit a b (skew_of q) → IsFindingOf q (journals_of a b) f
    → finding_status f ≡ 0 → (c : Claim) × (f ≡ Shown c) × IsShown (Ok a) (Ok b) (skew_of q) (transit_of q) c
found_in (Find q) a b (Shown c) fit h none =
    (c, refl, record { read = h.read; verdict = inr (fit.0, h.shown.verdict) })
found_in (Who q settings) a b (Shown c) fit h none =
    (c, refl, record { read = h.read; verdict = inr (fit.0, h.shown.verdict) })
found_in q a b NoneFound fit h none = absurd (omega (arith, none))
found_in q a b TooLong fit h none = absurd (omega (arith, none))

same_status : (answer : SearchAnswer) (r : Judgement) → answer ≡ Refused r → status_of answer ≡ 0 → ruling_status r ≡ 0
same_status answer r is none = subst (λ (x : SearchAnswer). status_of x ≡ 0) is none

same_finding : (answer : SearchAnswer) (f : Finding) → answer ≡ Found f → status_of answer ≡ 0 → finding_status f ≡ 0
same_finding answer f is none = subst (λ (x : SearchAnswer). status_of x ≡ 0) is none

pub shown_of : (q : Search) (a b : Result Lines JournalFault) (answer : SearchAnswer) → IsSearchOf a b q answer
    → status_of answer ≡ 0
    → (c : Claim) × (answer ≡ Found (Shown c)) × IsShown a b (skew_of q) (transit_of q) c
shown_of q (Ok a) (Ok b) answer (inl (r, out, is)) none =
    absurd (ruled_out a b (skew_of q) r out (same_status answer r is none))
shown_of q (Ok a) (Ok b) answer (inr (fit, inl (r, forbids, is))) none =
    absurd (forbidden q a b r forbids (same_status answer r is none))
shown_of q (Ok a) (Ok b) answer (inr (fit, inr (allows, (f, finding, is)))) none =
    let found = found_in q a b f fit finding (same_finding answer f is none) in
    (found.0, is ∙ ap (λ (x : Finding). Found x) found.1, found.2)
shown_of q (Ok a) (Err fault) answer h none = absurd (omega (arith, same_status answer _ h none))
shown_of q (Err fault) b answer h none = absurd (omega (arith, same_status answer _ h none))

-- ---- what is accepted is true

module _ (spells : CertificatesAreSpelled) (law : AcceptedTextsAreTrue) where
  shown_is_true : (input : List ℕ) (skew transit : ℕ) (c : Claim)
      → IsShown (journal_of_side Primary (first_text input)) (journal_of_side Secondary (text_behind input)) skew transit c
      → IsTrueCertificate input skew transit c
  shown_is_true input skew transit c s =
      let written = (spells (certificate_text c) c).0 s.read in
      let read = subst (λ x. IsVerdictOfParsed (journal_of_side Primary (first_text input))
      (journal_of_side Secondary (text_behind input)) skew transit x Accepted) (sym s.read) s.verdict in record {
        spelled = record { written = written.0; spelled = written.1 };
        holds = law (first_text input) (text_behind input) (certificate_text c) skew transit read;
      }

  -- who is named
  pub holder_true : (q : HolderQuery) (settings : SettingsCheck) (input notes text : List ℕ) (status : ℕ)
      → IsSearchTold input (Who q settings) notes text status → status ≡ 0 → IsTrueHolder input text q.skew q.transit
  holder_true q settings input notes text status (answer, searched, tells, same, noted) none =
      let shown = shown_of (Who q settings) (journal_of_side Primary (first_text input))
      (journal_of_side Secondary (text_behind input)) answer searched (sym same ∙ none) in (
        shown.0,
        subst (λ (x : SearchAnswer). Tells (Who q settings) x text) shown.1 tells,
        shown_is_true input q.skew q.transit shown.0 shown.2,
      )

  -- what is found
  pub evidence_true : (q : Query) (input notes text : List ℕ) (status : ℕ)
      → IsSearchTold input (Find q) notes text status → status ≡ 0 → IsTrueEvidence input text q.skew q.transit
  evidence_true q input notes text status (answer, searched, tells, same, noted) none =
      let shown = shown_of (Find q) (journal_of_side Primary (first_text input))
      (journal_of_side Secondary (text_behind input)) answer searched (sym same ∙ none) in (
        shown.0,
        subst (λ (x : SearchAnswer). Tells (Find q) x text) shown.1 tells,
        shown_is_true input q.skew q.transit shown.0 shown.2,
      )
