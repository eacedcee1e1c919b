-- Times on the clocks of a zone.
use Rattle.std.proofs.Common.{◌≡◌, ◌≢◌, ◌≤◌, ℕ, List, arith, subst, sym, inl, inr, Result, Ok, Err}
use Rattle.std.specs.Prelude.{IfOk, IfErr}
use Rattle.jiff_tz.specs.declared.tzif.Tzif.{Tzif}
use Rattle.time_text.specs.Time.{IsTimeOf}
use Rattle.zone_times.specs.Shown.{IsShownOnce, IsNotShownOnce}
use Rattle.report_times.specs.DateTimes.{IsLocalTime}
use Rattle.report_times.specs.ReportTimes.{IsReportTime, IsNoReportTime, IsLocalMoment, IsReportTimeIn, IsWhyNot, IsWhyNotIn}
use Rattle.report_times.specs.declared.error.ReportTimeError.{ReportTimeError}
use Rattle.report_times.specs.declared.error.ReportTimeError.TheVariants.{SecondsOrMilliseconds, ZoneName, NoOffset}
use Rattle.report_times.specs.declared.error.ReportTimeError.TheVariants.{Twice, Never, NoTime, Memory}

-- a text spells one time
one_time : (text : List ℕ) (m n : ℕ) → IsTimeOf text m → IsTimeOf text n → m ≡ n
one_time text m n h k = let a = h.moment in let b = k.moment in omega arith

-- one that clocks don't show once is at no moment
pub not_once : (table : Tzif) (text : List ℕ) (shown : ℕ) → IsLocalTime text shown → IsNotShownOnce table shown
    → (m : ℕ) → m ≤ 281474976710656 → IsLocalMoment table text m → ⊥
not_once table text shown spelled none m within is =
    none m within (subst (λ (s : ℕ). IsShownOnce table s m) (one_time _ is.shown shown is.spelled spelled) is.once)

-- it is none of a zone's either
neither : (table : Tzif) (text : List ℕ) (m : ℕ) → (IsReportTime text m → ⊥) → (IsLocalMoment table text m → ⊥)
    → IsReportTimeIn table text m → ⊥
neither table text m a b (inl is) = a is
neither table text m a b (inr is) = b is

-- why a text spells none by itself is why it doesn't in a zone
pub why_in : (table : Tzif) (text : List ℕ) (error : ReportTimeError) → IsWhyNot text error → IsWhyNotIn table text error
why_in table text (SecondsOrMilliseconds n) why = why
why_in table text ZoneName why = why
why_in table text NoOffset why = why
why_in table text (Twice a b) why = absurd why
why_in table text Never why = absurd why
why_in table text NoTime why = why
why_in table text Memory why = why

pub found_in : (table : Tzif) (text : List ℕ) (r : Result ℕ ReportTimeError) → IfOk r (IsLocalMoment table text)
    → IfOk r (IsReportTimeIn table text)
found_in table text (Ok m) h = inr h
found_in table text (Err e) h = tt

pub none_in : (table : Tzif) (text : List ℕ) (r : Result ℕ ReportTimeError) → IsNoReportTime text
    → IfErr r (λ e. e ≢ Memory → (m : ℕ) → m ≤ 281474976710656 → IsLocalMoment table text m → ⊥)
    → IfErr r (λ e. e ≢ Memory → (m : ℕ) → m ≤ 281474976710656 → IsReportTimeIn table text m → ⊥)
none_in table text (Ok m) none h = tt
none_in table text (Err e) none h = λ other m within. neither table text m (none m within) (h other m within)
