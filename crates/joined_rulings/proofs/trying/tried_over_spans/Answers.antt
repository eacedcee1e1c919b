use Rattle.std.specs.Prelude.{Option, Some}
use Rattle.std.proofs.Common.{subst, refl, inl}
use Rattle.plain_search.specs.declared.query.HolderQuery.{HolderQuery}
use Rattle.joined_rulings.specs.declared.trial.SpanAcceptance.{SpanAcceptance}
use Rattle.joined_rulings.specs.Trying.{IsTriedAt}
use Rattle.joined_rulings.proofs.Trials.{first_so}
use Rattle.joined_rulings.proofs.trying.tried_over_spans.Goals as goal

pub returns-in-Some : goal.returns-in-Some
returns-in-Some g c =
    let had = g.F.JournalFiles.had c.args.files.now in
    let tried = subst (λ (o : Option SpanAcceptance). IsTriedAt had c.args.archive.now c.asked_at-first.result
    c.args.claim.now o) c.in-Some.is c.in_ok-accepted.ensures in
    inl (
      c.in-Some.accepted,
      refl,
      subst (λ (q : HolderQuery). IsTriedAt had c.args.archive.now q c.args.claim.now
          (Some c.in-Some.accepted)) c.asked_at-first.ensures tried,
    )

pub returns : goal.returns
returns g c =
    let had = g.F.JournalFiles.had c.args.files.now in
    let claim = c.args.claim.now in
    let none = subst (λ (o : Option SpanAcceptance). IsTriedAt had c.args.archive.now c.asked_at-first.result claim o)
    c.in_default.is c.in_ok-accepted.ensures in
    first_so had c.args.archive.now c.args.bounds.now claim c.asked_at-first.result c.asked_at-first.ensures none
    c.tried_later.result c.tried_later.ensures
