use Rattle.std.proofs.Common.{arith, subst, sym, ◌≡◌, Bool, true, false, refl}
use Rattle.std.specs.Prelude.{not}
use Rattle.std.specs.declared.ops.Bound.TheVariants.{Included, Unbounded}
use Rattle.std.specs.BTreeSet.{IsKeyRangeOf}
use Rattle.std.proofs.lemmas.Bool.Decides.{nat_tests}
use Rattle.std.proofs.lemmas.Slice.Eq.{bytes_eq-Decides}
use Rattle.prefix_range.specs.Prefix.{Prefix}
use Rattle.unit_index.specs.Leases.{leased, leased_cmp}
use Rattle.unit_index.proofs.LeaseOrder.{IsFrom, none_leased, other_leased, lowest_leased}
use Rattle.unit_index.proofs.leasing.leases.lowest_leased.Goals as goal

out : (t : Bool) → true ≡ not t → t ≡ false
out true e = absurd (cc)
out false e = refl

back : (t : Bool) → false ≡ not t → t ≡ true
back true e = refl
back false e = absurd (cc)

pub returns-in_default : goal.returns-in_default
returns-in_default c =
    let from : IsFrom c.args.client.now c.args.iaid c.args.leases.now c.range.result =
    subst (λ (p : Prefix). IsKeyRangeOf leased_cmp (Included (leased c.args.client.now c.args.iaid p)) Unbounded
    c.args.leases.now c.range.result) c.first_prefix.ensures (c.range.ensures.in_range tt) in
    none_leased c.args.leases.now c.args.client.now c.args.iaid c.range.result from c.in_default.ensures.steps.0

pub returns-then-ne : goal.returns-then-ne
returns-then-ne c =
    let from : IsFrom c.args.client.now c.args.iaid c.args.leases.now c.range.result =
    subst (λ (p : Prefix). IsKeyRangeOf leased_cmp (Included (leased c.args.client.now c.args.iaid p)) Unbounded
    c.args.leases.now c.range.result) c.first_prefix.ensures (c.range.ensures.in_range tt) in
    other_leased c.args.leases.now c.args.client.now c.args.iaid c.range.result _ c.in-Some.first.now from
    c.in-Some.ensures.steps (λ i d. (let e = out _ c.if-ne.ensures in absurd (grind (arith, nat_tests))))

pub returns-then-ne-2 : goal.returns-then-ne-2
returns-then-ne-2 c =
    let from : IsFrom c.args.client.now c.args.iaid c.args.leases.now c.range.result =
    subst (λ (p : Prefix). IsKeyRangeOf leased_cmp (Included (leased c.args.client.now c.args.iaid p)) Unbounded
    c.args.leases.now c.range.result) c.first_prefix.ensures (c.range.ensures.in_range tt) in
    other_leased c.args.leases.now c.args.client.now c.args.iaid c.range.result _ c.in-Some.first.now from
    c.in-Some.ensures.steps (λ i d. (let yes =
    (bytes_eq-Decides c.in-Some.first.now.client c.args.client.now).1 (sym d) in
    let e = out _ c.if-ne-2.ensures in absurd (cc)))

pub returns : goal.returns
returns c =
    let from : IsFrom c.args.client.now c.args.iaid c.args.leases.now c.range.result =
    subst (λ (p : Prefix). IsKeyRangeOf leased_cmp (Included (leased c.args.client.now c.args.iaid p)) Unbounded
    c.args.leases.now c.range.result) c.first_prefix.ensures (c.range.ensures.in_range tt) in
    let same_iaid : c.args.iaid ≡ c.in-Some.first.now.iaid = (let e = back _ c.if-ne.ensures in
    grind (arith, nat_tests)) in
    let same_client = (bytes_eq-Decides c.in-Some.first.now.client c.args.client.now).0 (back _ c.if-ne-2.ensures) in
    lowest_leased c.args.leases.now c.args.client.now c.args.iaid c.range.result _ c.in-Some.first.now from
    c.in-Some.ensures.steps same_iaid (sym same_client)
