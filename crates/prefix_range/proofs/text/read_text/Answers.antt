use Rattle.std.proofs.Common.{◌≡◌, ◌∙◌, ap}
use Rattle.prefix_range.specs.Parsing.{spelled, prefix_spelled}
use Rattle.prefix_range.proofs.SpellingLaws.{found_is, found, only, no_text, too_long, host_bits}
use Rattle.prefix_range.proofs.text.read_text.Goals as goal

pub returns-clause-found : goal.returns-clause-found
returns-clause-found c =
    let e : c.prefix_spelled.result ≡ prefix_spelled (spelled c.args.text.now) =
    c.prefix_spelled.ensures.value ∙ ap prefix_spelled (found_is _ _ c.spelled.ensures) in
    found c.args.text.now _ e c.prefix_spelled.ensures.whole

pub returns-clause-only : goal.returns-clause-only
returns-clause-only c p h spells =
    let e : c.prefix_spelled.result ≡ prefix_spelled (spelled c.args.text.now) =
    c.prefix_spelled.ensures.value ∙ ap prefix_spelled (found_is _ _ c.spelled.ensures) in
    e ∙ only c.args.text.now p h spells

pub returns-clause-no_text : goal.returns-clause-no_text
returns-clause-no_text c =
    let e : c.prefix_spelled.result ≡ prefix_spelled (spelled c.args.text.now) =
    c.prefix_spelled.ensures.value ∙ ap prefix_spelled (found_is _ _ c.spelled.ensures) in
    rw e (no_text c.args.text.now)

pub returns-clause-too_long : goal.returns-clause-too_long
returns-clause-too_long c =
    let e : c.prefix_spelled.result ≡ prefix_spelled (spelled c.args.text.now) =
    c.prefix_spelled.ensures.value ∙ ap prefix_spelled (found_is _ _ c.spelled.ensures) in
    rw e (too_long c.args.text.now)

pub returns-clause-host_bits : goal.returns-clause-host_bits
returns-clause-host_bits c =
    let e : c.prefix_spelled.result ≡ prefix_spelled (spelled c.args.text.now) =
    c.prefix_spelled.ensures.value ∙ ap prefix_spelled (found_is _ _ c.spelled.ensures) in
    rw e (host_bits c.args.text.now)
