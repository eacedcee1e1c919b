-- One lease more.
use Rattle.std.specs.Prelude.{ℕ, ◌+◌, ◌<◌, List, [], ◌∷◌, ◌++◌, length, take, get_or}
use Rattle.std.specs.declared.alloc.Global.{Global}
use Rattle.std.specs.declared.vec.Vec.{Vec}
use Rattle.serde_json.specs.View.{view, items_view}
use Rattle.serde_json.specs.declared.value.Value.{Value, Array}
use Rattle.plain_search.specs.declared.query.HolderQuery.{HolderQuery}
use Rattle.candidate_leases.specs.declared.candidates.CandidateLease.{CandidateLease}
use Rattle.answer_data.specs.Leases.{IsLease, AreLeases}
use Rattle.answer_data.specs.Texts.{AreEach}
use Rattle.answer_data.proofs.Lists.{each_step, is_array}

-- these values stand for these leases
pub record AreLeasesSoFar (q : HolderQuery) (xs : List CandidateLease) (vs : List Value) : Type 0 where
  pub are : AreEach (IsLease q) xs (items_view vs)

pub leases_begun : (q : HolderQuery) → AreLeasesSoFar q [] []
leases_begun q = record { are = tt }

pub leases_step : (q : HolderQuery) (xs : List CandidateLease) (i : ℕ) (d : CandidateLease) (vs : List Value)
    (v : Value) → i < length xs → AreLeasesSoFar q (take i xs) vs → IsLease q (get_or xs i d) (view v)
    → AreLeasesSoFar q (take (i + 1) xs) (vs ++ v ∷ [])
leases_step q xs i d vs v h so is = record { are = each_step (IsLease q) xs i d vs v h so.are is }

pub are_leases : (q : HolderQuery) (xs : List CandidateLease) (values : Vec Value Global)
    → AreLeasesSoFar q xs values.items → AreLeases q xs (view (Array values))
are_leases q xs values so = is_array (IsLease q) xs values so.are
