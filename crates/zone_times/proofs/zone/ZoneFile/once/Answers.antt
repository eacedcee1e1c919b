use Rattle.std.proofs.Common.{refl}
use Rattle.zone_times.proofs.Says.{no_moment}
use Rattle.zone_times.proofs.zone.ZoneFile.once.Goals as goal

pub returns-in-None : goal.returns-in-None
returns-in-None c =
    no_moment c.args.self.now.table c.args.shown c.args.offset c.requires (λ m within is. c.in-None.ensures.none refl m within is)
