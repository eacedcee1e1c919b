use Rattle.std.specs.Prelude.{Option, Some}
use Rattle.std.proofs.Common.{subst, refl, inl, ap, ◌∙◌, ℕ}
use Rattle.plain_search.specs.declared.query.HolderQuery.{HolderQuery}
use Rattle.joined_rulings.specs.declared.trial.SpanAcceptance.{SpanAcceptance}
use Rattle.joined_rulings.specs.Trying.{asked_at, IsTriedAt}
use Rattle.joined_rulings.proofs.Trials.{later_so}
use Rattle.joined_rulings.proofs.trying.tried_later.Goals as goal

pub returns-in-Some : goal.returns-in-Some
returns-in-Some g c =
    let had = g.F.JournalFiles.had c.args.files.now in
    let claim = c.args.claim.now in
    let is_last = c.asked_at-last.ensures
    ∙ ap (λ (at : ℕ). asked_at claim c.args.bounds.now at) c.last_moment.ensures in
    let tried = subst (λ (o : Option SpanAcceptance). IsTriedAt had c.args.archive.now c.asked_at-last.result claim o)
    c.in-Some.is c.in_ok-accepted.ensures in
    inl (
      c.in-Some.accepted,
      refl,
      subst (λ (q : HolderQuery). IsTriedAt had c.args.archive.now q claim (Some c.in-Some.accepted)) is_last tried,
    )

pub returns : goal.returns
returns g c =
    let had = g.F.JournalFiles.had c.args.files.now in
    let claim = c.args.claim.now in
    let is_last = c.asked_at-last.ensures
    ∙ ap (λ (at : ℕ). asked_at claim c.args.bounds.now at) c.last_moment.ensures in
    let none = subst (λ (o : Option SpanAcceptance). IsTriedAt had c.args.archive.now c.asked_at-last.result claim o)
    c.in_default.is c.in_ok-accepted.ensures in
    later_so had c.args.archive.now c.args.bounds.now claim c.asked_at-last.result is_last none
    c.tried_between.result c.tried_between.ensures
