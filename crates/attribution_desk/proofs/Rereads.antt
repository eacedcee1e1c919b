-- A read behind others that consumed nothing.
use Rattle.std.proofs.Common.{ℕ, List, Option, Some, None, Result, Ok, Err, subst}
use Rattle.std.specs.Io.KnownBytes.{Keeps, ReadConsumes}

pub read_behind : {E : Type 0} (a b c : Option (List ℕ)) (result : Result ℕ E) (buffer : List ℕ)
    → Keeps a b → ReadConsumes b c result buffer → ReadConsumes a c result buffer
read_behind None b c (Ok n) buffer kept read = (tt, read.1)
read_behind None b c (Err e) buffer kept read = tt
read_behind (Some xs) None c result buffer kept read = absurd kept
read_behind (Some xs) (Some ys) c result buffer kept read =
    subst (λ (zs : List ℕ). ReadConsumes (Some zs) c result buffer) kept read
