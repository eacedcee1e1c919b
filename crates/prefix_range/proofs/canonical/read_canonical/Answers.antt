use Rattle.std.proofs.Common.{◌∙◌, ap, sym}
use Rattle.prefix_range.specs.Text.{prefix_word}
use Rattle.prefix_range.proofs.TextLaws.{prefix_takes, prefix_again}
use Rattle.prefix_range.proofs.canonical.read_canonical.Goals as goal

pub returns-in-Some-clause-found : goal.returns-in-Some-clause-found
returns-in-Some-clause-found c = prefix_takes _ _ c.in-Some.ensures

pub returns-in-Some-clause-only : goal.returns-in-Some-clause-only
returns-in-Some-clause-only c p h e = let same = sym c.in-Some.ensures ∙ (ap prefix_word e ∙ prefix_again p h) in cc

pub returns-in-None-clause-only : goal.returns-in-None-clause-only
returns-in-None-clause-only c p h e = let same = sym c.in-None.ensures ∙ (ap prefix_word e ∙ prefix_again p h) in
    absurd cc
