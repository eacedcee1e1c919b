-- What was told of files, and one file more.
use Rattle.std.specs.Prelude.{◌≡◌, ℕ, ◌+◌, ◌<◌, ◌⊎◌, List, [], ◌∷◌, ◌++◌, Some, slice_get, length}
use Rattle.std.proofs.Common.{zero, suc, arith, sym, ◌∙◌, subst, inl, inr, refl}
use Rattle.std.proofs.lemmas.Bool.{cases_lt}
use Rattle.binding_rules.specs.declared.role.Role.{Role}
use Rattle.binding_rules.specs.declared.role.Role.TheVariants.{Primary, Secondary}
use Rattle.journal_archive.specs.declared.outline.FiledVolume.{FiledVolume}
use Rattle.journal_archive.specs.VolumeLists.{IsVolumeListOf, AreTwo, AreDifferent}
use Rattle.archive_files.specs.declared.file_content.FileContent.TheVariants.{Volume}
use Rattle.archive_files.specs.declared.cataloguing.SkippedFile.{SkippedFile}
use Rattle.archive_files.specs.declared.cataloguing.Catalogue.{Catalogue}
use Rattle.archive_files.specs.Found.{IsFound}
use Rattle.archive_files.specs.Catalogues.{IsIn, AreFound, IsKept, IsCatalogue}
use Rattle.archive_files.specs.Alike.{AreCopiesOf, AreUnlike}
use Rattle.archive_files.specs.Telling.{AreTold}

in_or : {X : Type 0} (xs : List X) (x y : X) (k : ℕ) → slice_get (xs ++ x ∷ []) k ≡ Some y → IsIn xs y ⊎ (x ≡ y)
in_or [] x y zero h = inr cc
in_or [] x y (suc k) h = absurd (cc)
in_or (z ∷ zs) x y zero h = inl (zero, h)
in_or (z ∷ zs) x y (suc k) h = elim (in_or zs x y k h) [ inl a ↦ inl (suc a.0, a.1) | inr e ↦ inr e ]

in_left : {X : Type 0} (xs : List X) (x y : X) (k : ℕ) → slice_get xs k ≡ Some y → slice_get (xs ++ x ∷ []) k ≡ Some y
in_left [] x y k h = absurd (cc)
in_left (z ∷ zs) x y zero h = h
in_left (z ∷ zs) x y (suc k) h = in_left zs x y k h

in_last : {X : Type 0} (xs : List X) (x : X) → slice_get (xs ++ x ∷ []) (length xs) ≡ Some x
in_last [] x = refl
in_last (z ∷ zs) x = in_last zs x

-- a volume that was found in a file says which
in_its_file : (had : ℕ → List ℕ → Type 0) (file : ℕ) (v : FiledVolume) → IsFound (had file) file (Volume v)
    → IsFound (had v.file) v.file (Volume v)
in_its_file had file v found = subst (λ n. IsFound (had n) n (Volume v)) (sym found.0) found

pub less_or : (count k : ℕ) → k < count + 1 → (k < count) ⊎ (k ≡ count)
less_or count k lt = elim (cases_lt k count) [ inl a ↦ inl a | inr b ↦ inr (omega arith) ]

pub none_told : (had : ℕ → List ℕ → Type 0) (vs : List FiledVolume) (ps : List SkippedFile) → vs ≡ [] → ps ≡ []
    → AreTold had 0 vs ps
none_told had [] [] e f = record {
  found = λ v a. absurd (let h = a.1 in cc);
  passed_over = λ p a. absurd (let h = a.1 in cc);
  all = λ k lt. absurd (omega arith);
}
none_told had (v ∷ vs) ps e f = absurd (cc)
none_told had [] (p ∷ ps) e f = absurd (cc)

module _ (had : ℕ → List ℕ → Type 0) (count : ℕ) (vs : List FiledVolume) (ps : List SkippedFile)
    (are : AreTold had count vs ps) where
  pub more_volume : (new : List FiledVolume) (x : FiledVolume) → new ≡ vs ++ x ∷ [] → IsFound (had count) count (Volume x)
      → AreTold had (count + 1) new ps
  more_volume new x is found = subst (λ (zs : List FiledVolume). AreTold had (count + 1) zs ps) (sym is) (record {
    found = λ v a. elim (in_or vs x v a.0 a.1) [
      | inl h ↦ are.found v h
      | inr e ↦ subst (λ (z : FiledVolume). IsFound (had z.file) z.file (Volume z)) e (in_its_file had count x found)
    ];
    passed_over = are.passed_over;
    all = λ k lt. elim (less_or count k lt) [
      | inl less ↦ elim (are.all k less) [
        | inl p ↦ inl p
        | inr h ↦ inr (h.0, (h.1.0, in_left vs x h.0 h.1.0 h.1.1), h.2)
      ]
      | inr e ↦ inr (x, (length vs, in_last vs x), subst (λ n. IsFound (had n) n (Volume x)) (sym e) found)
    ];
  })

  pub more_passed : (new : List SkippedFile) (x : SkippedFile) → new ≡ ps ++ x ∷ [] → x.file ≡ count
      → IsFound (had x.file) x.file x.found → AreTold had (count + 1) vs new
  more_passed new x is file found = subst (λ (zs : List SkippedFile). AreTold had (count + 1) vs zs) (sym is) (record {
    found = are.found;
    passed_over = λ p a. elim (in_or ps x p a.0 a.1) [
      | inl h ↦ are.passed_over p h
      | inr e ↦ subst (λ (z : SkippedFile). IsFound (had z.file) z.file z.found) e found
    ];
    all = λ k lt. elim (less_or count k lt) [
      | inl less ↦ elim (are.all k less) [
        | inl p ↦ inl (p.0, (p.1.0, in_left ps x p.0 p.1.0 p.1.1), p.2)
        | inr h ↦ inr h
      ]
      | inr e ↦ inl (x, (length ps, in_last ps x), file ∙ sym e)
    ];
  })

-- a volume that was told of stands on its side's shelf
kept_by : (had : ℕ → List ℕ → Type 0) (file : ℕ) (files primary secondary : List FiledVolume) (v : FiledVolume) (side : Role)
    → v.outline.side ≡ side → IsVolumeListOf Primary files primary → IsVolumeListOf Secondary files secondary
    → AreCopiesOf had primary files → AreCopiesOf had secondary files → IsIn files v
    → IsFound (had file) file (Volume v) → IsKept had primary secondary file
kept_by had file files primary secondary v Primary of one other copies copied a found =
    let r = one.all v a of in
    (v, r.0, found, inl r.1, r.2, copies a.0 v a.1 r.1.0 r.0 r.1.1 r.2)
kept_by had file files primary secondary v Secondary of one other copies copied a found =
    let r = other.all v a of in
    (v, r.0, found, inr r.1, r.2, copied a.0 v a.1 r.1.0 r.0 r.1.1 r.2)

pub catalogued : (had : ℕ → List ℕ → Type 0) (count : ℕ) (files : List FiledVolume) (c : Catalogue)
    → AreTold had count files c.passed_over.items → IsVolumeListOf Primary files c.archive.primary
    → IsVolumeListOf Secondary files c.archive.secondary → AreCopiesOf had c.archive.primary files
    → AreCopiesOf had c.archive.secondary files → IsCatalogue had count c
catalogued had count files c told one other copies copied = record {
  primary = λ v a. told.found v (one.each v a).0;
  secondary = λ v a. told.found v (other.each v a).0;
  passed_over = told.passed_over;
  all = λ k lt. elim (told.all k lt) [
    | inl p ↦ inl p
    | inr h ↦ inr (kept_by had k files c.archive.primary c.archive.secondary h.0 h.0.outline.side refl one other copies
        copied h.1 h.2)
  ];
}

-- a shelf's volumes were found in their files
pub on_shelf_found : (had : ℕ → List ℕ → Type 0) (side : Role) (files vs : List FiledVolume) → AreFound had files
    → IsVolumeListOf side files vs → AreFound had vs
on_shelf_found had side files vs found shelf v a = found v (shelf.each v a).0

-- two files of which the edges say different things
pub differ_told : (had : ℕ → List ℕ → Type 0) (files : List FiledVolume) (first second : ℕ) → AreFound had files
    → AreTwo files first second AreDifferent → AreUnlike had first second
differ_told had files first second found two = record {
  one = two.first;
  other = two.second;
  is_one = (
    two.counted.0,
    subst (λ n. IsFound (had n) n (Volume two.first)) two.counted.0 (found two.first two.has_first),
  );
  is_other = (
    two.counted.1,
    subst (λ n. IsFound (had n) n (Volume two.second)) two.counted.1 (found two.second two.has_second),
  );
  of_side = two.of_side;
  numbered = two.are.0;
  differ = inl two.are.1;
}
