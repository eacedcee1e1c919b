-- Records of what both clocks showed.
use Rattle.std.specs.Prelude.{ℕ, ◌+◌, ◌-◌, ◌*◌, ◌^◌, ◌<◌, ◌≤◌, ◌++◌, ◌∷◌, [], Bool, true, false, List, min}
use Rattle.std.specs.Str.{bytes_eq}
use Rattle.std.specs.Fmt.{decimal}
use Rattle.text_fields.specs.Cuts.{joined}
use Rattle.clock_watch.specs.Boots.{IsBootId}
use Rattle.clock_watch.specs.Watching.{judged, is_near}
use Rattle.clock_watch.specs.declared.record.ClockRecord.{ClockRecord}
use Rattle.clock_watch.specs.declared.record.RecordVerdict.{RecordVerdict}
use Rattle.clock_watch.specs.declared.record.RecordVerdict.TheVariants.{Unknown, Same, Set}

-- ---- the text of a record

pub record IsRecord (r : ClockRecord) : Type 0 where
  pub boot : IsBootId r.boot
  pub wall : r.wall ≤ 2 ^ 48
  pub uptime : r.uptime < 2 ^ 64

-- the boot, the time of day and the uptime, and a line feed
abbrev pub record_text : ClockRecord → List ℕ
record_text r = joined 32 (r.boot ∷ decimal r.wall ∷ decimal r.uptime ∷ []) ++ 10 ∷ []

-- ---- two records

-- what the time of day would show by the monotonic clock
abbrev pub expected : ClockRecord → (now : ClockRecord) → ℕ
expected r now = min (r.wall + now.uptime - r.uptime) (2 ^ 48)

abbrev pub of_one_boot : (near : Bool) → (shown : ℕ) → RecordVerdict
of_one_boot true shown = Same
of_one_boot false shown = Set shown

abbrev pub of_boots : (same : Bool) → RecordVerdict → RecordVerdict
of_boots true verdict = verdict
of_boots false verdict = Unknown

-- of one boot the time of day less the uptime changed by no more than twice the skew, or the clock was set
abbrev pub compared : ClockRecord → (now : ClockRecord) → (skew : ℕ) → RecordVerdict
compared r now skew = of_boots (bytes_eq r.boot now.boot)
    (of_one_boot (is_near (2 * judged skew) (r.wall + now.uptime) (now.wall + r.uptime)) (expected r now))
