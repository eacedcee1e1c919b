use Rattle.std.proofs.Common.{◌∙◌, ap, sym}
use Rattle.client_id.specs.Duid.{iaid_word}
use Rattle.client_id.proofs.TextLaws.{iaid_takes, iaid_again}
use Rattle.client_id.proofs.iaid.Iaid.from_hex.Goals as goal

pub returns-in-Some-clause-found : goal.returns-in-Some-clause-found
returns-in-Some-clause-found c = iaid_takes _ _ c.in-Some.ensures

pub returns-in-Some-clause-only : goal.returns-in-Some-clause-only
returns-in-Some-clause-only c iaid h e = let same = sym c.in-Some.ensures ∙ (ap iaid_word e ∙ iaid_again iaid h) in cc

pub returns-in-None-clause-only : goal.returns-in-None-clause-only
returns-in-None-clause-only c iaid h e = let same = sym c.in-None.ensures ∙ (ap iaid_word e ∙ iaid_again iaid h) in
    absurd cc
