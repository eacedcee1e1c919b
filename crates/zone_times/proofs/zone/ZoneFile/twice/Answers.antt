use Rattle.zone_times.proofs.Says.{in_fold}
use Rattle.zone_times.proofs.zone.ZoneFile.twice.Goals as goal

pub returns-in_default : goal.returns-in_default
returns-in_default c = in_fold c.args.self.now.table c.args.shown c.args.before c.args.after c.requires

pub returns-in-Some-moment_at : goal.returns-in-Some-moment_at
returns-in-Some-moment_at c = (
  record {
    before = c.args.before;
    after = c.args.after;
    says = c.requires;
    earlier = c.in-Some.ensures.given;
    later = c.in-Some-moment_at.ensures.given;
  },
  in_fold c.args.self.now.table c.args.shown c.args.before c.args.after c.requires,
)

pub returns-in-None : goal.returns-in-None
returns-in-None c = in_fold c.args.self.now.table c.args.shown c.args.before c.args.after c.requires
