use Rattle.std.proofs.Common.{◌≡◌, ◌∙◌, sym, ap, refl, rules, pos, ℤ, ◌*◌}
use Rattle.jiff_tz.specs.Tzif.{offset_at}
use Rattle.jiff_tz.specs.Zone as Zone
use Rattle.zone_times.proofs.Says.{seconds_kept}
use Rattle.zone_times.proofs.zone.ZoneFile.seconds_at.Goals as goal

pub returns-in-Ok-clause-given : goal.returns-in-Ok-clause-given
unfolding Zone.offset_at
returns-in-Ok-clause-given c =
    let value : c.in-Ok.timestamp.nanosecond ≡ pos (c.args.moment * 1000000) = search rules in
    let within = c.in-Ok.ensures.succeeds.0 refl in
    record {
      within = search rules;
      offset =
          sym (seconds_kept c.to_offset.result ∙ c.to_offset.ensures ∙ ap (λ (n : ℤ). (offset_at c.args.self.now.table n).seconds) value);
    }

pub returns-in-Err-clause-none : goal.returns-in-Err-clause-none
returns-in-Err-clause-none c none seconds is =
    let within = is.within in
    let fails = c.in-Err.ensures.succeeds in
    search rules
