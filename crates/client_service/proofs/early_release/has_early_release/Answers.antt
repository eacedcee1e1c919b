use Rattle.std.proofs.Common.{rules, arith}
use Rattle.std.proofs.lemmas.Bool.{iff_false}
use Rattle.client_service.proofs.Early.{none_more, none_at_all}
use Rattle.client_service.proofs.early_release.has_early_release.Goals as goal

pub loop-place-preserved : goal.loop-place-preserved
loop-place-preserved c = (
  search rules,
  search rules,
  none_more c.args.book.now c.args.terms.now c.args.now c.args.message.now c.args.permits.now c.loop-place.place
      c.loop-place.invariant.2 (iff_false c.is_ordered_early.ensures c.if-is_ordered_early.false),
)

pub returns : goal.returns
returns c = (
  λ yes. absurd (cc),
  λ early. absurd (none_at_all c.args.book.now c.args.terms.now c.args.now c.args.message.now c.args.permits.now
      c.loop-place.place
      (omega (arith, c.loop-place-test.false, c.loop-place.invariant.1)) c.loop-place.invariant.2 early),
)
