use Rattle.std.specs.Prelude.{Option, ℕ, None}
use Rattle.std.proofs.Common.{subst, refl, inr}
use Rattle.volume_spans.specs.declared.span.SpanPair.{SpanPair}
use Rattle.joined_rulings.specs.Between.{AreSpansBetween}
use Rattle.joined_rulings.proofs.Trials.{between_so}
use Rattle.joined_rulings.proofs.trying.tried_between.Goals as goal

pub returns-in-Some : goal.returns-in-Some
returns-in-Some g c =
    let had = g.F.JournalFiles.had c.args.files.now in
    let claim = c.args.claim.now in
    between_so had c.args.archive.now c.args.bounds.now claim c.last_moment-last.result c.asked_at-query.result
    c.last_moment-last.ensures c.asked_at-query.ensures c.in-Some.spans
    (subst (λ (o : Option SpanPair). AreSpansBetween c.args.archive.now c.args.bounds.now claim.from
    c.last_moment-last.result o) c.in-Some.is c.spans_between.ensures.between) c.tried_behind.result
    c.tried_behind.ensures

pub returns-in-None : goal.returns-in-None
returns-in-None g c =
    let claim = c.args.claim.now in
    let between = subst (λ (o : Option SpanPair). AreSpansBetween c.args.archive.now c.args.bounds.now claim.from
    c.last_moment-last.result o) c.in-None.is c.spans_between.ensures.between in
    inr (
      subst (λ (n : ℕ). AreSpansBetween c.args.archive.now c.args.bounds.now claim.from n None) c.last_moment-last.ensures
          between,
      refl,
    )
