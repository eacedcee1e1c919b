-- Volumes by their numbers.
use Rattle.std.specs.Prelude.{◌≡◌, ℕ, ◌+◌, ◌<◌, ◌≤◌, List, [], ◌∷◌, ◌++◌, Some, slice_get, length, take, drop, ◌-◌}
use Rattle.std.proofs.Common.{get_or, zero, suc, arith, sym, ◌∙◌, ap, subst, refl, inl, inr}
use Rattle.std.proofs.lemmas.Bool.{cases_lt}
use Rattle.std.proofs.lemmas.List.{take_all}
use Rattle.journal_archive.specs.declared.outline.FiledVolume.{FiledVolume}
use Rattle.archive_files.specs.Catalogues.{IsIn}
use Rattle.join_desk.specs.Choosing.{HasNumber, AreInRow, IsMissing}

pub is_number : (v : FiledVolume) (vs : List FiledVolume) → IsIn (v ∷ vs) v
is_number v vs = (0, refl)

pub in_more : (v w : FiledVolume) (vs : List FiledVolume) → IsIn vs w → IsIn (v ∷ vs) w
in_more v w vs h = (suc h.0, h.1)

pub other_number : (v : FiledVolume) (vs : List FiledVolume) (number : ℕ) → (v.outline.number ≡ number → ⊥)
    → HasNumber (v ∷ vs) number → HasNumber vs number
other_number v vs number other h = by_place h.0 h.1.0 h.1.1 h.2 where
  by_place : (w : FiledVolume) (k : ℕ) → slice_get (v ∷ vs) k ≡ Some w → w.outline.number ≡ number → HasNumber vs number
  by_place w zero at is = let same : v ≡ w = cc in
      absurd (other (ap (λ (x : FiledVolume). x.outline.number) same ∙ is))
  by_place w (suc k) at is = (w, (k, at), is)

pub none_there : (number : ℕ) → HasNumber [] number → ⊥
none_there number h = let at = h.1.1 in absurd (cc)

-- one more at the end of a row
pub row_more : (vs : List FiledVolume) (from : ℕ) (cs : List FiledVolume) (v : FiledVolume) → AreInRow vs from cs
    → v.outline.number ≡ from + length cs → IsIn vs v → AreInRow vs from (cs ++ v ∷ [])
row_more vs from [] v row is there = (omega arith, there, tt)
row_more vs from (c ∷ cs) v row is there =
    (row.0, row.1, row_more vs (from + 1) cs v row.2 (omega arith) there)

-- a row has each number that it goes over
pub row_has : (vs : List FiledVolume) (from : ℕ) (cs : List FiledVolume) (n : ℕ) → AreInRow vs from cs → from ≤ n
    → n < from + length cs → HasNumber vs n
row_has vs from [] n row low high = absurd (omega arith)
row_has vs from (c ∷ cs) n row low high = elim (cases_lt from n) [
  | inl lt ↦ row_has vs (from + 1) cs n row.2 (omega arith) (omega arith)
  | inr ge ↦ (c, row.1, (let e = row.0 in omega arith))
]

pub missing : (vs : List FiledVolume) (from to number : ℕ) (cs : List FiledVolume) → AreInRow vs from cs
    → from + length cs ≡ number → number ≤ to → (HasNumber vs number → ⊥) → IsMissing vs from to number
missing vs from to number cs row count high none = record {
  low = omega arith;
  high = high;
  before = λ n low lt. row_has vs from cs n row low (omega arith);
  none = none;
}

pub take_whole : (xs : List FiledVolume) (n : ℕ) → length xs ≤ n → xs ≡ take n xs
take_whole xs n past = sym (take_all n xs past)

-- a list is its first item and what stands behind it
pub behind_first : (vs : List FiledVolume) (v : FiledVolume) → 1 ≤ length vs → v ≡ get_or vs 0 v
    → vs ≡ v ∷ take (length vs - 1) (drop 1 vs)
behind_first [] v some is = absurd (omega arith)
behind_first (x ∷ xs) v some is =
    let n : length (x ∷ xs) - 1 ≡ length xs = omega arith in
    let rest : take (length (x ∷ xs) - 1) xs ≡ xs = ap (λ k. take k xs) n ∙ take_all (length xs) xs (omega arith) in
    ap (λ (y : FiledVolume). y ∷ xs) (sym is) ∙ ap (λ (ys : List FiledVolume). v ∷ ys) (sym rest)

-- ---- the volumes that are left of a search for a number

pub record IsRest (all : List FiledVolume) (number : ℕ) (rest : List FiledVolume) : Type 0 where
  pub kept : HasNumber all number → HasNumber rest number
  pub within : (v : FiledVolume) → IsIn rest v → IsIn all v

pub rest_all : (all : List FiledVolume) (number : ℕ) → IsRest all number all
rest_all all number = record { kept = λ h. h; within = λ v h. h }

pub rest_more : (all : List FiledVolume) (number : ℕ) (v : FiledVolume) (vs : List FiledVolume) → (v.outline.number ≡ number → ⊥)
    → IsRest all number (v ∷ vs) → IsRest all number vs
rest_more all number v vs other h = record {
  kept = λ there. other_number v vs number other (h.kept there);
  within = λ w there. h.within w (in_more v w vs there);
}

pub rest_found : (all : List FiledVolume) (number : ℕ) (v : FiledVolume) (vs : List FiledVolume) → IsRest all number (v ∷ vs)
    → IsIn all v
rest_found all number v vs h = h.within v (is_number v vs)

pub rest_none : (all : List FiledVolume) (number : ℕ) → IsRest all number [] → HasNumber all number → ⊥
rest_none all number h there = none_there number (h.kept there)

pub rest_step : (all : List FiledVolume) (number : ℕ) (rest : List FiledVolume) (v : FiledVolume) → 1 ≤ length rest
    → v ≡ get_or rest 0 v → (v.outline.number ≡ number → ⊥) → IsRest all number rest
    → IsRest all number (take (length rest - 1) (drop 1 rest))
rest_step all number rest v some is other h =
    rest_more all number v (take (length rest - 1) (drop 1 rest)) other
    (subst (IsRest all number) (behind_first rest v some is) h)
