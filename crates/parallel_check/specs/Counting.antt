-- How often a number stands in a list: for bodies only.
use Rattle.std.specs.Prelude.{ℕ, List, count_by, nat_eq, nat_lt, if◌then◌else◌}

abbrev pub times : ℕ → List ℕ → ℕ
times x numbers = count_by (λ n. nat_eq n x) numbers

-- 1 for a number below the bound, and else 0
abbrev pub once_below : ℕ → ℕ → ℕ
once_below x bound = if nat_lt x bound then 1 else 0
