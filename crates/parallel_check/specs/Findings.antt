-- What workers find, and where it is put: for bodies only. `Q n v` says that v is the verdict at index n, of `count`.
use Rattle.std.specs.Prelude.{◌≡◌, ℕ, ◌<◌, ◌≤◌, List, [], ◌∷◌, ◌++◌, map, get_or, set, All, IfOk}
use Rattle.atomic_table.specs.Seated.{TableId}
use Rattle.attribution.specs.declared.verdict.Verdict.{Verdict}
use Rattle.parallel_check.specs.Counting.{times}
use Rattle.parallel_check.specs.declared.drawing.IndexedVerdict.{IndexedVerdict}
use Rattle.parallel_check.specs.declared.drawing.WorkerResult.{WorkerResult}

-- what was found is of an index, and is its verdict
pub record IsRight (Q : ℕ → Verdict → Type 0) (count : ℕ) (f : IndexedVerdict) : Type 0 where
  pub within : f.index < count
  pub verdict : Q f.index f.verdict

-- the numbers are those of what was found, in order, and then one that is no index
pub record IsDrawn (Q : ℕ → Verdict → Type 0) (count : ℕ) (numbers : List ℕ) (found : List IndexedVerdict) : Type 0 where
  pub right : All (IsRight Q count) found
  pub last : ℕ
  pub past : count ≤ last
  pub numbers_are : numbers ≡ map (λ (f : IndexedVerdict). f.index) found ++ last ∷ []

-- what a worker gives back: a seat of the table, with one part, and what it found at its numbers
pub record IsDone (Q : ℕ → Verdict → Type 0) (count : ℕ) (table : TableId) (d : WorkerResult) : Type 0 where
  pub table_is : d.seat.table_id ≡ table
  pub slots : d.seat.me.1 ≡ []
  pub parts : d.seat.me.0.parts ≡ 1
  pub found : IfOk d.found (λ found. IsDrawn Q count d.seat.me.0.numbers found.items)

-- the verdicts, when each that was found is put at its index, one after the other
abbrev pub placed : List IndexedVerdict → List Verdict → List Verdict
placed [] verdicts = verdicts
placed (f ∷ found) verdicts = placed found (set verdicts f.index f.verdict)

-- the verdict stands at each index that was drawn
pub record Settled (Q : ℕ → Verdict → Type 0) (count : ℕ) (numbers : List ℕ) (verdicts : List Verdict) : Type 0 where
  pub each : (x : ℕ) (d : Verdict) → x < count → 0 < times x numbers → Q x (get_or verdicts x d)
