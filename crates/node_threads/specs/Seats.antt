-- What workers in seats of their own received together.
use Rattle.std.specs.Prelude.{ℕ, List, [], ◌∷◌, ◌+◌, min, Result, Ok, Err}
use Rattle.node_threads.specs.declared.error.NodeError.{NodeError}

-- how many were received by then: in all, or why the first worker did that failed
abbrev pub with_next : Result ℕ NodeError → Result ℕ NodeError → Result ℕ NodeError
with_next (Ok one) (Ok other) = Ok (min (one + other) 4294967295)
with_next (Ok _) (Err why) = Err why
with_next (Err why) _ = Err why

abbrev pub received_after : Result ℕ NodeError → List (Result ℕ NodeError) → Result ℕ NodeError
received_after so_far [] = so_far
received_after so_far (r ∷ rs) = received_after (with_next so_far r) rs
