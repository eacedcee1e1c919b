-- Stretches, found and told of one behind the other.
use Rattle.std.specs.Prelude.{◌≡◌, ℕ, ◌+◌, ◌<◌, ◌≤◌, ◌++◌, List, [], ◌∷◌, length, drop}
use Rattle.std.proofs.Common.{get_or, sym, subst, append_assoc, append-nil}
use Rattle.std.specs.declared.path.buf.PathBuf.{PathBuf}
use Rattle.plain_search.specs.declared.query.Query.{Query}
use Rattle.journal_archive.specs.declared.archive.Archive.{Archive}
use Rattle.journal_archive.specs.declared.spans.CoverageSpan.{CoverageSpan}
use Rattle.archive_desk.specs.CommandOutputs.{Said}
use Rattle.archive_desk.specs.Stretches.{stretch_of}
use Rattle.archive_desk.proofs.Dropping.{drop_more, drop_end}
use Rattle.joined_evidence.specs.declared.stretches.SpannedStretch.{SpannedStretch}
use Rattle.joined_evidence.specs.Stretches.{IsStretchAt, AreStretches}
use Rattle.joined_evidence.specs.Telling.{IsStretchMore, AreStretchesSaid}

-- one more is found, and what is found of those that are left is found behind it
pub one_found : (had : ℕ → List ℕ → Type 0) (archive : Archive) (q : Query) (spans : List CoverageSpan) (i : ℕ)
    (s : CoverageSpan) (asked : Query) (f : SpannedStretch) (fs new rest : List SpannedStretch)
    → i < length spans → s ≡ get_or spans i s → asked ≡ stretch_of q s → IsStretchAt had archive s.from asked s.to f
    → new ≡ fs ++ f ∷ []
    → ((more : List SpannedStretch) → AreStretches had archive q (drop i spans) more
    → AreStretches had archive q spans (fs ++ more))
    → AreStretches had archive q (drop (i + 1) spans) rest → AreStretches had archive q spans (new ++ rest)
one_found had archive q spans i s asked f fs new rest lt at is found made before left =
    let found' = subst (λ (a : Query). IsStretchAt had archive s.from a s.to f) is found in
    let all = before (f ∷ rest) (subst (λ (ss : List CoverageSpan). AreStretches had archive q ss (f ∷ rest))
    (sym (drop_more spans i s lt at)) (found', left)) in
    subst (λ (xs : List SpannedStretch). AreStretches had archive q spans (xs ++ rest)) (sym made)
    (subst (AreStretches had archive q spans) (sym (append_assoc fs (f ∷ []) rest)) all)

-- none is left
pub all_found : (had : ℕ → List ℕ → Type 0) (archive : Archive) (q : Query) (spans : List CoverageSpan) (i : ℕ)
    (fs : List SpannedStretch) → length spans ≤ i
    → ((more : List SpannedStretch) → AreStretches had archive q (drop i spans) more
    → AreStretches had archive q spans (fs ++ more))
    → AreStretches had archive q spans fs
all_found had archive q spans i fs le before =
    subst (AreStretches had archive q spans) (append-nil fs)
    (before [] (subst (λ (ss : List CoverageSpan). AreStretches had archive q ss []) (sym (drop_end spans i le)) tt))

-- one more is told of
pub one_said : {A : Type 0} (names : List (PathBuf A)) (fs : List SpannedStretch) (i : ℕ) (f : SpannedStretch)
    (before mid after : Said) → i < length fs → f ≡ get_or fs i f → IsStretchMore names f before mid
    → AreStretchesSaid names (drop (i + 1) fs) mid after → AreStretchesSaid names (drop i fs) before after
one_said names fs i f before mid after lt at more rest =
    subst (λ (xs : List SpannedStretch). AreStretchesSaid names xs before after) (sym (drop_more fs i f lt at))
    (mid, more, rest)
