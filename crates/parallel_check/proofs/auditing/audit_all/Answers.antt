use Rattle.std.proofs.Common.{◌<◌, ℕ, length, arith}
use Rattle.attribution.specs.declared.verdict.Verdict.{Verdict}
use Rattle.parallel_check.specs.Verdicts.{IsVerdictAt}
use Rattle.parallel_check.proofs.Placing.{all_settled, all_each}
use Rattle.parallel_check.proofs.auditing.audit_all.Goals as goal

pub returns-clause-verdicts : goal.returns-clause-verdicts
returns-clause-verdicts g c =
    let certificates = c.args.certificates.now in
    let count = length certificates in
    let js = g.S.Lines.journals c.args.source.now in
    let Q : ℕ → Verdict → Type 0 = IsVerdictAt js c.args.skew c.args.transit certificates in
    let e = c.in_ok-verdicts.ensures in
    let all = c.closed.ensures in
    let threads = c.in_ok-done.ensures.len in
    let seats = c.in_ok-seats.ensures.seats.0 in
    let some : 0 < length c.in_ok-done.done.items = omega arith in
    let each = all_settled Q count c.settled.new.mine.me.0.numbers c.in_ok-verdicts.verdicts.items all.0 e.settled
    all.1 (e.past some) in
    record { count = e.count; each = all_each Q count c.in_ok-verdicts.verdicts.items each e.count }
