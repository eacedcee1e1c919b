use Rattle.std.proofs.Common.{◌∙◌, sym, refl, arith, eq-eqb}
use Rattle.std.proofs.lemmas.Bool.{eqb-true}
use Rattle.link_auth.proofs.CompareLaws.{one_more, all_compared}
use Rattle.link_auth.proofs.compare.equal_in_constant_time.Goals as goal

pub loop-i-init : goal.loop-i-init
loop-i-init g c = record { same = λ e. refl; each = λ e k below. omega arith }

pub loop-i-preserved : goal.loop-i-preserved
loop-i-preserved g c = one_more c.args.one.now c.args.other.now c.loop-i.difference c.loop-i.i c.loop-i.invariant

pub returns : goal.returns
returns g c = (
  λ t. all_compared c.args.one.now c.args.other.now c.loop-i.difference c.loop-i.i
      (omega (arith, c.told-one, c.loop-i-test.false)) (c.told-one ∙ sym c.told-other) c.loop-i.invariant
      (eqb-true c.loop-i.difference 0 t),
  λ e. eq-eqb c.loop-i.difference 0 (c.loop-i.invariant.same e),
)
