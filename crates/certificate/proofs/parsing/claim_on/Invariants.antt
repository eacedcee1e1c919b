use Rattle.std.proofs.Common.{◌≡◌, suc, length}
use Rattle.certificate.specs.Faults.{claim_on}
use Rattle.certificate.proofs.parsing.claim_on.Given as goal

-- the lines that are left make of the certificate so far what all lines make of the first
abbrev pub invariant-loop-draft : goal.invariant-loop-draft
invariant-loop-draft l = claim_on (suc l.lines.count) l.draft l.lines.left
    ≡ claim_on (suc l.initial.lines.count) l.initial.draft l.initial.lines.left

abbrev pub decreases-loop-draft : goal.decreases-loop-draft
decreases-loop-draft l = length l.lines.left
