-- Which files are copies of others, one file after the other.
use Rattle.std.specs.Prelude.{◌≡◌, ℕ, ◌+◌, ◌<◌, ◌≤◌, List, Some, slice_get, length}
use Rattle.std.proofs.Common.{arith, ap, inl, inr, subst}
use Rattle.journal_archive.specs.declared.outline.FiledVolume.{FiledVolume}
use Rattle.journal_archive.specs.declared.error.ArchiveError.TheVariants.{Differ}
use Rattle.journal_archive.proofs.Among.{within}
use Rattle.archive_files.specs.declared.error.FilesError.TheVariants.{Archive}
use Rattle.archive_files.specs.declared.file_content.FileContent.TheVariants.{Volume}
use Rattle.archive_files.specs.Found.{IsFound}
use Rattle.archive_files.specs.Alike.{AreSameUpTo, AreUnlike}
use Rattle.archive_files.proofs.Listed.{less_or}

same_at : (vs : List FiledVolume) (k j : ℕ) (v x : FiledVolume) → k ≡ j → slice_get vs k ≡ Some v → slice_get vs j ≡ Some x
    → x ≡ v
same_at vs k j v x e h i =
    let f : slice_get vs j ≡ Some v = subst (λ n. slice_get vs n ≡ Some v) e h in
    cc

-- what is so of the first files, and of the next, is so of these
pub one_more : (P : FiledVolume → Type 0) (vs : List FiledVolume) (count : ℕ) (x : FiledVolume) → slice_get vs count ≡ Some x
    → ((k : ℕ) (v : FiledVolume) → k < count → slice_get vs k ≡ Some v → P v) → P x
    → (k : ℕ) (v : FiledVolume) → k < count + 1 → slice_get vs k ≡ Some v → P v
one_more P vs count x at all next k v lt h = elim (less_or count k lt) [
  | inl less ↦ all k v less h
  | inr e ↦ subst P (same_at vs k count v x e h at) next
]

pub all_of : (P : FiledVolume → Type 0) (vs : List FiledVolume) (count : ℕ) → length vs ≤ count
    → ((k : ℕ) (v : FiledVolume) → k < count → slice_get vs k ≡ Some v → P v)
    → (k : ℕ) (v : FiledVolume) → slice_get vs k ≡ Some v → P v
all_of P vs count le all k v h =
    let lt = within vs v k h in
    all k v (omega arith) h

-- the two that differ are those that are named
pub unlike : (had : ℕ → List ℕ → Type 0) (v w : FiledVolume) (a b : List ℕ) (first second : ℕ)
    → IsFound (had v.file) v.file (Volume v) → IsFound (had w.file) w.file (Volume w) → v.outline ≡ w.outline
    → had v.file a → had w.file b → (AreSameUpTo v.outline.octets a b → ⊥)
    → Archive (Differ v.file w.file) ≡ Archive (Differ first second) → AreUnlike had first second
unlike had v w a b first second one other same has holds differ e =
    let f : v.file ≡ first = cc in
    let s : w.file ≡ second = cc in
    record {
      one = v;
      other = w;
      is_one = (f, subst (λ n. IsFound (had n) n (Volume v)) f one);
      is_other = (s, subst (λ n. IsFound (had n) n (Volume w)) s other);
      of_side = ap (λ o. o.side) same;
      numbered = ap (λ o. o.number) same;
      differ = inr (a, b, has, holds, differ);
    }
