use Rattle.std.proofs.Common.{ap, Err, subst, IfSome}
use Rattle.evidence_search.specs.Claim.{held_by, HasNoPlainEvidence}
use Rattle.plain_search.proofs.Collecting.{none_recent}
use Rattle.evidence_search.proofs.Holders.{none_asked, asked_on, names_none, asked_client, all_asked}
use Rattle.evidence_search.proofs.holder.holder_over.Goals as goal

pub loop-at-init : goal.loop-at-init
loop-at-init g c = (
  none_asked (g.S.Lines.journals c.args.source.now) c.args.query.now _ c.overlaps-walk.ensures.exact
      c.len-bits.ensures.whole,
  none_recent (g.S.Lines.journals c.args.source.now) c.new-recent.result c.new-recent.ensures,
)

pub loop-at-preserved-in_default-found : goal.loop-at-preserved-in_default-found
loop-at-preserved-in_default-found g c =
    let js = g.S.Lines.journals c.args.source.now in
    let none = rw c.in_default-found.is at c.in_ok-found.ensures.client in (
      asked_on js c.args.query.now _ _ c.in-Some.at _ _ c.in-Some.ensures
          (names_none js c.args.query.now c.in-Some.at none) c.loop-at.invariant.0.last_asked c.loop-at.invariant.0,
      c.in_ok-found.ensures.recent,
    )

pub loop-at-preserved-then-is_last : goal.loop-at-preserved-then-is_last
loop-at-preserved-then-is_last g c =
    let js = g.S.Lines.journals c.args.source.now in
    let q = c.args.query.now in
    let same = rw c.in-Some-found.is at c.in_ok-found.ensures.client in
    let asked = subst (λ o. IfSome o (λ h. HasNoPlainEvidence js (held_by q h)))
    (c.is_last.ensures c.if-is_last.true) c.loop-at.invariant.0.last_asked in (
      asked_on js q _ _ c.in-Some.at _ _ c.in-Some.ensures
          (asked_client js q c.in-Some.at c.in-Some-found.client same asked) c.loop-at.invariant.0.last_asked
          c.loop-at.invariant.0,
      c.in_ok-found.ensures.recent,
    )

pub loop-at-preserved : goal.loop-at-preserved
loop-at-preserved g c =
    let js = g.S.Lines.journals c.args.source.now in
    let q = c.args.query.now in
    let same = rw c.in-Some-found.is at c.in_ok-found.ensures.client in
    let none = c.in-Err-NoneFound.ensures.none (ap Err c.in-Err-NoneFound.field-0-is) in (
      asked_on js q _ _ c.in-Some.at _ _ c.in-Some.ensures
          (asked_client js q c.in-Some.at c.in-Some-found.client same none) none c.loop-at.invariant.0,
      c.in_ok-found.ensures.recent,
    )

pub returns-clause-none : goal.returns-clause-none
returns-clause-none g c _ = all_asked (g.S.Lines.journals c.args.source.now) c.args.query.now _ _ c.in_default.ensures
    c.loop-at.invariant.0
