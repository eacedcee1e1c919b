use Rattle.std.proofs.Common.{rules, ◌≡◌, ◌∙◌, ap, subst}
use Rattle.std.proofs.Math.Path.{subst₂}
use Rattle.attribution_desk.specs.Claims.{texts_of, AreRuledOn, woven}
use Rattle.attribution_desk.proofs.Gathering.{texts_ruled, written_over}
use Rattle.attribution_desk.proofs.batch.judge_certificates.Goals as goal

pub returns-clause-rulings : goal.returns-clause-rulings
returns-clause-rulings g c =
    texts_ruled c.args.primary.now c.args.secondary.now c.args.skew c.args.transit c.args.claims.items _
    c.in_ok-found.found.faults.items c.in_ok-found.found.certificates.items c.in_ok-rulings.rulings.items
    c.in_ok-woven.field-0.items
    (written_over c.read_all.new.claims c.args.claims.items _ c.args.claims.len (search rules)
    (c.read_all.ensures.texts ∙ ap (λ cs. texts_of cs) c.deref_mut.ensures.value)) c.in_ok-found.ensures
    (subst (λ cs. AreRuledOn c.args.primary.now c.args.secondary.now c.args.skew c.args.transit cs
    c.in_ok-rulings.rulings.items) c.deref.ensures.value c.in_ok-rulings.ensures.rulings)
    (subst₂ (λ fs vs. c.in_ok-woven.field-0.items ≡ woven fs vs) c.deref-2.ensures.value c.deref-3.ensures.value
    c.in_ok-woven.ensures)
