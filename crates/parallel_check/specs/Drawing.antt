-- The numbers that seats have drawn from one word, for bodies only: all views together have the numbers below the
-- word, each once.
use Rattle.std.specs.Prelude.{◌≡◌, ℕ, ◌+◌, ◌-◌, ◌<◌, ◌≤◌, List, [], ◌∷◌, ◌++◌, length, slice_index, sum_by}
use Rattle.std.specs.Prelude.{nat_lt, if◌then◌else◌}
use mathlib.Core.Option.{some}
use lib.ListN.{get_elem?}
use Rattle.atomic_table.specs.Table.{State, Me, Step}
use Rattle.parallel_check.specs.Counting.{times, once_below}
use Rattle.parallel_check.specs.declared.word.View.{View}

-- a seat that has not ended
abbrev pub seat_of : ℕ → ℕ → List ℕ → View
seat_of limit parts numbers = record { limit = limit; parts = parts; ended = 0; numbers = numbers }

-- the view of the first seat, which has every part
abbrev pub whole : ℕ → View
whole limit = seat_of limit 64 []

-- a new seat's
abbrev pub fresh : View → View
fresh v = record { limit = v.limit; parts = 1; ended = 0; numbers = [] }

-- what is left of a view from which a seat was split
abbrev pub cut : View → View
cut v = record { limit = v.limit; parts = v.parts - 1; ended = v.ended; numbers = v.numbers }

abbrev pub joined : View → View → View
joined v w = record {
  limit = v.limit;
  parts = v.parts + w.parts;
  ended = v.ended + w.ended;
  numbers = v.numbers ++ w.numbers;
}

abbrev pub spent : View
spent = record { limit = 0; parts = 0; ended = 0; numbers = [] }

-- a draw at or past the limit ends a part
abbrev pub drew : View → ℕ → View
drew v n = record {
  limit = v.limit;
  parts = v.parts;
  ended = (if nat_lt n v.limit then v.ended else v.ended + 1);
  numbers = v.numbers ++ n ∷ [];
}

-- no part ends twice, a view with no part has no number, and the limit is known
pub record Fits (bound : ℕ) (v : View) : Type 0 where
  pub ended : v.ended ≤ v.parts
  pub idle : v.parts ≡ 0 → v.numbers ≡ []
  pub limit : 0 < v.parts → v.limit ≡ bound

abbrev pub parts_of : List View → ℕ
parts_of views = sum_by (λ (v : View). v.parts) views

abbrev pub ended_of : List View → ℕ
ended_of views = sum_by (λ (v : View). v.ended) views

abbrev pub times_of : ℕ → List View → ℕ
times_of x views = sum_by (λ (v : View). times x v.numbers) views

-- the rule
pub record IsDealt (limit : ℕ) (words : List ℕ) (views : List View) : Type 0 where
  pub word : 0 < length words
  pub parts : parts_of views ≡ 64
  pub numbers : (x : ℕ) → times_of x views ≡ once_below x (slice_index words 0)
  pub within : slice_index words 0 ≤ limit + ended_of views
  pub each : (j : ℕ) (v : View) → get_elem? views j ≡ some v → Fits limit v

abbrev pub IsSoundDrawing : {S : Type 0} → ℕ → State S View → Type 0
IsSoundDrawing limit s = IsDealt limit s.words s.views

-- what a draw tells: the number is one more of the seat's own
abbrev pub Drew : {S : Type 0} → Step S → Me S View → ℕ → Me S View → Type 0
Drew step before n after = (after.0 ≡ drew before.0 n) × (after.1 ≡ before.1)

-- a seat with one part that has drawn nothing
abbrev pub IsFresh : {S : Type 0} → ℕ → Me S View → Type 0
IsFresh limit me = (me.0 ≡ seat_of limit 1 []) × (me.1 ≡ [])
