-- For bodies only: a call as it is noted.
use Rattle.std.specs.Prelude.{ℕ, zero, suc, List, slice_index}
use Rattle.disk_model.specs.Disk.{Call, opened, appended, cut, flushed, failed}

-- by the number of its kind, a length, and octets
abbrev pub call_of_kind : ℕ → ℕ → List ℕ → Call
call_of_kind zero n octets = opened octets
call_of_kind (suc zero) n octets = appended octets
call_of_kind (suc (suc zero)) n octets = cut n
call_of_kind (suc (suc (suc zero))) n octets = flushed
call_of_kind (suc (suc (suc (suc more)))) n octets = failed

abbrev pub call_of : List ℕ → List ℕ → Call
call_of numbers octets = call_of_kind (slice_index numbers 0) (slice_index numbers 1) octets
