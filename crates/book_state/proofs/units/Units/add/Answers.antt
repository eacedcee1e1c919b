use Rattle.std.proofs.Common.{arith, ap, sym, ◌∙◌, ◌≡◌, ◌≤◌, ◌+◌, ◌++◌, subst}
use Rattle.std.specs.Prelude.{replicate, Contains as Has}
use Rattle.std.specs.List.{sum_by}
use Rattle.std.specs.Vec.{vec_len}
use Rattle.prefix_range.specs.Prefix.{Overlaps}
use Rattle.binding_rules.specs.Unit.{fresh}
use Rattle.book_state.specs.declared.pool.Pool.{Pool}
use Rattle.book_state.specs.Book.{units_in}
use Rattle.book_state.specs.Places.{Delegable, unit_at}
use Rattle.book_state.proofs.TableLaws.{delegable_push, add_pool, filled_up}
use Rattle.book_state.proofs.units.Units.add.Goals as goal

pub invariant_of-self-in-Ok : goal.invariant_of-self-in-Ok
invariant_of-self-in-Ok c =
    let units : c.resize.new.self.items ≡ c.self.inside.units.items ++ replicate (units_in c.args.pool) fresh
    = c.in-Ok.ensures.items ∙ filled_up c.self.inside.units.items (c.len.result + c.count.result)
    (vec_len c.self.inside.units) (units_in c.args.pool) c.fresh.result (omega arith)
    (omega (arith, c.len.ensures, c.count.ensures)) c.fresh.ensures in
    let apart : (q : Pool) → Has c.self.inside.pools.items q → Overlaps q.prefix c.args.pool.prefix → ⊥
    = subst (λ (t : Delegable). (q : Pool) → Has t.pools q → Overlaps q.prefix c.args.pool.prefix
    → ⊥) (sym c.self.view_is) c.requires.apart in
    let few : sum_by units_in c.self.inside.pools.items + units_in c.args.pool ≤ 65536
    = subst (λ (t : Delegable). sum_by units_in t.pools + units_in c.args.pool ≤ 65536)
    (sym c.self.view_is) c.requires.few in
    let whole = delegable_push _ _ c.self.inside.marks c.args.pool c.self.invariant.delegable c.requires.pool apart few
    in
    record { delegable = rw (c.in_ok-push.ensures.items, units) whole; is_fresh = c.self.invariant.is_fresh }

pub returns-in-Ok-clause-units : goal.returns-in-Ok-clause-units
returns-in-Ok-clause-units c q =
    let units : c.resize.new.self.items ≡ c.self.inside.units.items ++ replicate (units_in c.args.pool) fresh
    = c.in-Ok.ensures.items ∙ filled_up c.self.inside.units.items (c.len.result + c.count.result)
    (vec_len c.self.inside.units) (units_in c.args.pool) c.fresh.result (omega arith)
    (omega (arith, c.len.ensures, c.count.ensures)) c.fresh.ensures in
    let added = add_pool c.self.inside.pools.items c.self.inside.units.items c.self.inside.marks
    (units_in c.args.pool) c.args.pool c.self.invariant.delegable c.requires.pool q in
    rw (c.in_ok-push.ensures.items, units) (added ∙ ap (λ (t : Delegable). unit_at t q) c.self.view_is)
