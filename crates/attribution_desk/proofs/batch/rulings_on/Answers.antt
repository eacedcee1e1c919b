use Rattle.std.proofs.Common.{rules, ◌≡◌, ◌∙◌, ap, subst}
use Rattle.std.proofs.Math.Path.{subst₂}
use Rattle.attribution_desk.specs.Claims.{texts_of, AreRuledOn, woven}
use Rattle.attribution_desk.proofs.Gathering.{refused_by_a, refused_by_b, ruled_by_both}
use Rattle.attribution_desk.proofs.batch.rulings_on.Goals as goal

pub returns-in-Err-clause-rulings : goal.returns-in-Err-clause-rulings
returns-in-Err-clause-rulings g c =
    refused_by_a c.args.a c.args.b c.args.rest.now c.args.skew c.args.transit c.in_ok-claims.claims.items
    c.in_ok-claims.ensures
    c.in-Err.fault c.len.result _ c.in-Err.is (search rules)
    (c.in_ok-vec-in-Err.ensures.items_if_clones_equal (λ y e. search rules))

pub returns-in-Err-b-clause-rulings : goal.returns-in-Err-b-clause-rulings
returns-in-Err-b-clause-rulings g c =
    refused_by_b c.args.a c.args.b c.args.rest.now c.args.skew c.args.transit c.in_ok-claims.claims.items
    c.in_ok-claims.ensures c.in-Ok.journal c.in-Ok.is
    c.in-Err-b.fault c.len-in-Err-b.result _ c.in-Err-b.is (search rules)
    (c.in_ok-vec-in-Err-b.ensures.items_if_clones_equal (λ y e. search rules))

pub returns-clause-rulings : goal.returns-clause-rulings
returns-clause-rulings g c =
    ruled_by_both c.args.a c.args.b c.args.rest.now c.args.skew c.args.transit c.in_ok-claims.claims.items
    c.in_ok-claims.ensures c.in-Ok.journal c.in-Ok.is c.in-Ok-b.journal c.in_ok-rulings.rulings.items c.in-Ok-b.is
    c.in_ok-rulings.ensures.rulings
