-- For bodies only: a call as it is noted.
use Rattle.std.specs.Prelude.{ℕ, zero, suc, List, slice_index}
use Rattle.disk_model.specs.Names.{NameCall, held, made, removed, settled, refused}

-- by the number of its kind, and a count of files
abbrev pub call_of_kind : ℕ → ℕ → NameCall
call_of_kind zero n = held n
call_of_kind (suc zero) n = made
call_of_kind (suc (suc zero)) n = removed
call_of_kind (suc (suc (suc zero))) n = settled
call_of_kind (suc (suc (suc (suc more)))) n = refused

abbrev pub call_of : List ℕ → NameCall
call_of numbers = call_of_kind (slice_index numbers 0) (slice_index numbers 1)
