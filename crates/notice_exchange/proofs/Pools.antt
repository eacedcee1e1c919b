-- Pools as a notice has them, one after another.
use Rattle.std.specs.Prelude.{◌≡◌, ◌<◌, ℕ, List, [], ◌∷◌, ◌++◌, map, length}
use Rattle.std.proofs.Common.{ap, sym, ◌∙◌, take, get_or, suc}
use Rattle.std.proofs.Math.Seq.{take-suc}
use Rattle.std.proofs.lemmas.List.{map-append}
use Rattle.book_state.specs.declared.pool.Pool.{Pool}
use Rattle.notice_exchange.specs.Exchanges.{unit_pool}

pub one_more : (ps : List Pool) (i : ℕ) (p : Pool) → i < length ps → p ≡ get_or ps i p
    → map unit_pool (take i ps) ++ unit_pool p ∷ [] ≡ map unit_pool (take (suc i) ps)
one_more ps i p within its =
    sym (map-append unit_pool (take i ps) (p ∷ []))
    ∙ ap (map unit_pool) (ap (λ g. take i ps ++ g ∷ []) its ∙ sym (take-suc ps i p within))
