use Rattle.std.proofs.Common.{◌≤◌, ◌++◌, length, take, [], subst}
use Rattle.std.specs.Prelude.{MatchOption, IfSome}
use Rattle.attribution_desk.specs.Intake.{IsWholeText, TextGoesOn}
use Rattle.attribution_desk.proofs.Batches.{goes_on_from_none, length_of_whole, length_of_all}
use Rattle.attribution_desk.proofs.certificates.first_length.Goals as goal

pub returns-in-Some : goal.returns-in-Some
returns-in-Some c =
    let end = c.in_ok-length.ensures.end [] (goes_on_from_none c.new-line.result.items c.new-line.ensures.items) in
    let whole = subst (λ o. MatchOption o (TextGoesOn ([] ++ c.args.rest.now) c.end_in.new.line.items)
    (λ n. IsWholeText ([] ++ take n c.args.rest.now))) c.in-Some.is end in
    let within = subst (λ o. IfSome o (λ n. n ≤ length c.args.rest.now)) c.in-Some.is c.in_ok-length.ensures.within in
    length_of_whole c.args.rest.now c.in-Some.length within whole

pub returns : goal.returns
returns c =
    let end = c.in_ok-length.ensures.end [] (goes_on_from_none c.new-line.result.items c.new-line.ensures.items) in
    let on = subst (λ o. MatchOption o (TextGoesOn ([] ++ c.args.rest.now) c.end_in.new.line.items)
    (λ n. IsWholeText ([] ++ take n c.args.rest.now))) c.in-None.is end in
    length_of_all c.args.rest.now c.end_in.new.line.items on
