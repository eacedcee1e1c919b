use Rattle.std.proofs.Common.{arith, ◌≡◌, ◌<◌, ◌++◌, [], length, sym, subst, append-nil}
use Rattle.std.proofs.lemmas.Bool.Decides.{nat_tests}
use Rattle.attribution_desk.specs.Batch.{AreTexts}
use Rattle.attribution_desk.specs.Claims.{texts_of}
use Rattle.attribution_desk.proofs.Lines.{text_within}
use Rattle.attribution_desk.proofs.Batches.{some_text, none_left, one_text, one_claim}
use Rattle.attribution_desk.proofs.certificates.texts_in.Goals as goal

pub loop-rest-init : goal.loop-rest-init
loop-rest-init c = λ more h. subst (λ cs. AreTexts c.args.rest.now (texts_of cs ++ more))
    (sym c.new-claims.ensures.items) h

pub split_at-requires : goal.split_at-requires
split_at-requires c = omega (arith, c.in_ok-first_length.ensures, text_within c.loop-rest.rest.now)

pub loop-rest-smaller : goal.loop-rest-smaller
loop-rest-smaller c =
    let some : 0 < length c.loop-rest.rest.now = grind (arith, nat_tests) in
    omega (arith, c.split_at.ensures.back_len, c.in_ok-first_length.ensures, some_text c.loop-rest.rest.now some)

pub loop-rest-preserved : goal.loop-rest-preserved
loop-rest-preserved c = λ more h.
    let some : 0 < length c.loop-rest.rest.now = grind (arith, nat_tests) in
    subst (AreTexts c.args.rest.now)
    (sym (one_claim c.loop-rest.claims.items c.push.new.self.items _ more c.in_ok-push.ensures.items))
    (c.loop-rest.invariant _ (one_text c.loop-rest.rest.now c.split_at.result.0.now c.split_at.result.1.now _ more
    c.in_ok-first_length.ensures some c.split_at.ensures.front c.split_at.ensures.back h))

pub returns : goal.returns
returns c =
    let none : length c.loop-rest.rest.now ≡ 0 = grind (arith, nat_tests) in
    subst (AreTexts c.args.rest.now) (append-nil (texts_of c.loop-rest.claims.items))
    (c.loop-rest.invariant [] (none_left c.loop-rest.rest.now none))
