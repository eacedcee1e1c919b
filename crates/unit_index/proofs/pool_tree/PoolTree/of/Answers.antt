use Rattle.std.proofs.Common.{arith, ap, ◌∙◌, sym, ◌≡◌, ◌≤◌, ◌-◌, ◌^◌, ℕ, ap₂, inl, inr, ◌==◌}
use Rattle.std.specs.Prelude.{if◌then◌else◌}
use Rattle.book_rules.specs.State.{state}
use Rattle.book_state.proofs.Ranges.{many_bits}
use Rattle.unit_index.specs.Kinds.{kinds_of}
use Rattle.unit_index.specs.KindTrees.{leaf}
use Rattle.unit_index.proofs.Charts.{side_of}
use Rattle.unit_index.proofs.PoolCharts.{made_on, made_all}
use Rattle.unit_index.proofs.pool_tree.PoolTree.of.Goals as goal

few_levels : (k n : ℕ) → n ≤ 65536 → n ≡ 2 ^ k → k ≤ 16
few_levels k n few is = elim (side_of 16 k) [ inl lt ↦ absurd (omega (arith, many_bits k lt, few, is)) | inr le ↦ le ]

pub new-requires : goal.new-requires
new-requires c = few_levels _ _ c.requires.few
    (ap (λ (n : ℕ). 2 ^ (c.args.pool.now.unit_length - n)) (sym c.len.ensures.value))

pub loop-index-preserved : goal.loop-index-preserved
loop-index-preserved c =
    made_on (state c.args.table.now).role (state c.args.table.now).units c.args.pool.now c.loop-index.chart
    c.put.new.self c.loop-index.index c.unit.result c.requires.pool c.unit.ensures c.put.ensures.levels
    (λ k. c.put.ensures.leaves k ∙ ap (λ m. if k == c.loop-index.index then m else leaf c.loop-index.chart k)
    (c.of.ensures ∙ ap₂ kinds_of c.role.ensures c.unit_or_fresh-unit.ensures.unit)) c.loop-index.invariant

pub returns-clause-kinds : goal.returns-clause-kinds
returns-clause-kinds c = made_all _ _ _ c.loop-index.index c.requires.pool
    (omega (arith, c.loop-index-test.false, c.count-index-end.ensures)) c.loop-index.invariant
