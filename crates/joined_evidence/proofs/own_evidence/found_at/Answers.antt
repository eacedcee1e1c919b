use Rattle.std.specs.Prelude.{IfOk}
use Rattle.std.proofs.Common.{ℕ, List, Result, Ok, Err, sym, subst, refl}
use Rattle.plain_search.specs.declared.query.Query.{Query}
use Rattle.journal_archive.specs.declared.pair_lookup.VolumePair.{VolumePair}
use Rattle.journal_archive.specs.declared.archive.Archive.{Archive}
use Rattle.journal_archive.specs.declared.pair.PairJournals.{PairJournals}
use Rattle.archive_files.specs.declared.error.FilesError.{FilesError}
use Rattle.archive_files.specs.declared.showing.ShownJournals.{ShownJournals}
use Rattle.archive_files.specs.declared.showing.ShownJournals.TheVariants.{Journals}
use Rattle.archive_files.specs.Showing.{IsShownAt}
use Rattle.archive_desk.specs.declared.stretches.EvidenceReply.{EvidenceReply}
use Rattle.archive_desk.specs.declared.stretches.EvidenceReply.TheVariants.{Answered, Lacking}
use Rattle.archive_desk.specs.Stretches.{IsEvidenceOver, IsFoundAt}
use Rattle.joined_evidence.proofs.own_evidence.found_at.Goals as goal

-- what is answered over the pair that shows the moment is what is found at the moment
over : (had : ℕ → List ℕ → Type 0) (archive : Archive) (moment : ℕ) (q : Query) (pair : VolumePair)
    (shown : PairJournals)
    → IsShownAt had archive q.skew q.transit moment (Journals pair shown) → (r : Result EvidenceReply FilesError)
    → IfOk r (IsEvidenceOver pair shown q) → IfOk r (IsFoundAt had archive moment q)
over had archive moment q pair shown at (Ok (Answered of answer warnings until)) h = (
  shown,
  subst (λ (p : VolumePair). IsShownAt had archive q.skew q.transit moment (Journals p shown)) (sym h.0) at,
  (refl, h.1, h.2, h.3),
)
over had archive moment q pair shown at (Ok (Lacking side lack)) h = absurd h
over had archive moment q pair shown at (Err e) h = tt

pub returns-in-Journals : goal.returns-in-Journals
returns-in-Journals g c =
    let had = g.F.JournalFiles.had c.args.files.now in
    let q = c.args.query.now in
    over had c.args.archive.now c.args.moment q c.in-Journals.pair c.in-Journals.shown
    (subst (λ (s : ShownJournals). IsShownAt had c.args.archive.now q.skew q.transit c.args.moment s) c.in-Journals.is
    c.in_ok-pair.ensures.shown)
    c.evidence_over.result c.evidence_over.ensures
