use Rattle.std.proofs.Common.{arith, ◌≡◌, suc, ◌-◌, sym, ◌∙◌, ap, subst, ℕ, ◌+◌, ◌*◌}
use Rattle.unit_index.specs.Kinds.{may_be}
use Rattle.unit_index.specs.KindTrees.{IsSpan, IsFree}
use Rattle.unit_index.proofs.Charts.{halves, found_left, found_right, none_right, none_below, node_within, read_at}
use Rattle.unit_index.proofs.kind_tree.KindTree.+first_in.Goals as goal

pub first_in-requires : goal.first_in-requires
first_in-requires t c =
    let deeper : c.args.levels ≡ suc (c.args.levels - 1) = omega (arith, c.if-levels-eq0.false) in
    let half = halves _ _ _ _ _ deeper c.requires in
    (omega (arith, c.decreases, deeper), half.left)

pub first_in-requires-in-None : goal.first_in-requires-in-None
first_in-requires-in-None t c =
    let deeper : c.args.levels ≡ suc (c.args.levels - 1) = omega (arith, c.if-levels-eq0.false) in
    let half = halves _ _ _ _ _ deeper c.requires in (
      omega (arith, c.decreases, deeper),
      subst
          (λ (n : ℕ). IsSpan c.args.self.now.levels (c.args.levels - 1) (2 * c.args.node + 1) (c.args.start + n))
          (sym c.places-2.ensures) half.right,
    )

pub returns-in-Some-clause-found : goal.returns-in-Some-clause-found
returns-in-Some-clause-found t c =
    let deeper : c.args.levels ≡ suc (c.args.levels - 1) = omega (arith, c.if-levels-eq0.false) in
    found_left c.args.wanted.now c.args.self.now c.args.from c.args.start c.args.levels _ c.in-Some.place deeper
    c.in-Some.ensures.found

pub returns-in-None-clause-found : goal.returns-in-None-clause-found
returns-in-None-clause-found t c =
    let deeper : c.args.levels ≡ suc (c.args.levels - 1) = omega (arith, c.if-levels-eq0.false) in
    let free = subst (λ (n : ℕ). IsFree c.args.wanted.now c.args.self.now c.args.from c.args.start (c.args.start + n))
    (sym c.places-2.ensures) c.in-None.ensures.none in
    found_right c.args.wanted.now c.args.self.now c.args.from c.args.start _ c.args.levels _ c.first_in-in-None.result
    deeper (ap (λ (n : ℕ). c.args.start + n) c.places-2.ensures) free c.first_in-in-None.ensures.found

pub returns-in-None-clause-none : goal.returns-in-None-clause-none
returns-in-None-clause-none t c =
    let deeper : c.args.levels ≡ suc (c.args.levels - 1) = omega (arith, c.if-levels-eq0.false) in
    let free = subst (λ (n : ℕ). IsFree c.args.wanted.now c.args.self.now c.args.from c.args.start (c.args.start + n))
    (sym c.places-2.ensures) c.in-None.ensures.none in
    none_right c.args.wanted.now c.args.self.now c.args.from c.args.start _ c.args.levels _ c.first_in-in-None.result
    deeper (ap (λ (n : ℕ). c.args.start + n) c.places-2.ensures) free c.first_in-in-None.ensures.none

pub returns-then-not-may_be-clause-none : goal.returns-then-not-may_be-clause-none
returns-then-not-may_be-clause-none t c =
    let whole = c.args.self.now.whole in
    let nodes = c.args.self.now.nodes.items in
    let bound = node_within _ _ _ _ c.requires in
    let at_node = read_at nodes c.args.node c.index.result.now (omega (arith, bound.1, whole.whole)) c.index.ensures in
    none_below c.args.wanted.now c.args.self.now c.args.from c.args.levels c.args.node c.args.start whole c.requires
    (ap (may_be c.args.wanted.now) (sym at_node) ∙ (sym c.may_be.ensures ∙ c.if-not-may_be.true))
