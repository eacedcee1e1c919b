use Rattle.std.proofs.Common.{◌≡◌, ◌≤◌, ◌+◌, ◌*◌, drop}
use Rattle.time_text.specs.Time.{fraction}
use Rattle.report_times.proofs.unix_time.decimal_part.Given as goal

abbrev pub invariant-loop-octet : goal.invariant-loop-octet
invariant-loop-octet l =
    (l.total + fraction l.worth (drop l.octet-index l.digits) ≡ fraction 100 l.digits) × (l.total + 10 * l.worth ≤ 1000)
