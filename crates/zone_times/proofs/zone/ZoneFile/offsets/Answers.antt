use Rattle.std.proofs.Common.{◌≡◌, sym, refl, arith, rules, true, false}
use Rattle.jiff_core.proofs.SignedLemmas.{signed_arith}
use Rattle.jiff_core.proofs.DateTimeLemmas.{civil_nanos_range}
use Rattle.jiff_tz.specs.Zone.{ambiguous_at}
use Rattle.zone_times.proofs.zone.ZoneFile.offsets.Goals as goal

pub returns-in-Ok-clause-given : goal.returns-in-Ok-clause-given
unfolding ambiguous_at
returns-in-Ok-clause-given c = record {
  time = c.in-Ok.time;
  shown_is = search rules;
  says = sym c.to_ambiguous_offset.ensures;
}

pub returns-in-Err-clause-none : goal.returns-in-Err-clause-none
returns-in-Err-clause-none c none offsets says =
    let range = civil_nanos_range says.time in
    let is = says.shown_is in
    let fails = c.in-Err.ensures.succeeds in
    search rules
