use Rattle.std.proofs.Common.{refl, subst}
use Rattle.jiff_tz.specs.declared.ambiguous.AmbiguousOffset.{AmbiguousOffset}
use Rattle.zone_times.specs.Shown.{FileSays}
use Rattle.zone_times.proofs.Says.{in_gap}
use Rattle.zone_times.proofs.zone.ZoneFile.moments_showing.Goals as goal

pub once-requires : goal.once-requires
once-requires c =
    subst (λ (o : AmbiguousOffset). FileSays c.args.self.now.table c.args.shown o) c.in-Some-Unambiguous.field-0-is
    c.in-Some-Unambiguous.ensures.given

pub twice-requires : goal.twice-requires
twice-requires c =
    subst (λ (o : AmbiguousOffset). FileSays c.args.self.now.table c.args.shown o) c.in-Some-Fold.field-0-is
    c.in-Some-Fold.ensures.given

pub returns-in-Some-Gap : goal.returns-in-Some-Gap
returns-in-Some-Gap c =
    let says = subst (λ (o : AmbiguousOffset). FileSays c.args.self.now.table c.args.shown o) c.in-Some-Gap.field-0-is
    c.in-Some-Gap.ensures.given in (
      record { before = c.in-Some-Gap.field-0-0; after = c.in-Some-Gap.field-0-1; says = says },
      in_gap c.args.self.now.table c.args.shown c.in-Some-Gap.field-0-0 c.in-Some-Gap.field-0-1 says,
    )

pub returns-in-None : goal.returns-in-None
returns-in-None c = λ m within once. c.in-None.ensures.none refl _ once.says
