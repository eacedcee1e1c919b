use Rattle.std.proofs.Common.{◌≡◌, ◌≢◌, ◌≤◌, ℕ, inr, rules}
use Rattle.report_times.specs.declared.error.ReportTimeError.TheVariants.{Memory}
use Rattle.report_times.proofs.LocalTimes.{why_in, found_in, none_in}
use Rattle.report_times.proofs.local_time.otherwise.Goals as goal

pub local_moment-requires : goal.local_moment-requires
local_moment-requires c = why_in c.args.zone.now.table c.args.text.now c.args.error c.requires.why

pub returns-clause-given : goal.returns-clause-given
returns-clause-given c = found_in c.args.zone.now.table c.args.text.now c.local_moment.result c.local_moment.ensures.given

pub returns-clause-none : goal.returns-clause-none
returns-clause-none c =
    let other : c.args.error ≢ Memory =
    λ e. let same = c.eq.ensures in let differ = c.if-eq.false in search rules in
    none_in c.args.zone.now.table c.args.text.now c.local_moment.result (c.requires.none other) c.local_moment.ensures.none
