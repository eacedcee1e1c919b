-- Sentences of a title.
use Rattle.std.proofs.Common.{◌≡◌, ℕ, List, [], ◌∷◌, ◌++◌, codes, refl, append_assoc, ap, sym, ◌∙◌, Option, Some, None, Bor}
use Rattle.zone_times.specs.declared.zone.ZoneFile.{ZoneFile}
use Rattle.zone_times.specs.Local.{AddsLocal}
use Rattle.time_text.specs.Time.{IsTimeText}
use Rattle.report_render.specs.Title.{IsTitleTime, IsAt, IsFromTo}

pub utc_time : (m : ℕ) (text time : List ℕ) → IsTimeText m text → time ≡ [] ++ text → IsTitleTime None m time
utc_time m text time h e = rw (e) h

pub local_time : (clock : Bor ZoneFile) (m : ℕ) (time : List ℕ) → AddsLocal clock.now.table m [] time
    → IsTitleTime (Some clock) m time
local_time clock m time h = rw (h.added) h.text_is

pub at_moment : (clock : Option (Bor ZoneFile)) (m : ℕ) (front mid time text : List ℕ) → IsTitleTime clock m time
    → mid ≡ front ++ codes " at " → text ≡ mid ++ time → IsAt clock front m text
at_moment clock m front mid time text h em et = record {
  time = time;
  time_is = h;
  spelled = et ∙ (ap (λ x. x ++ time) em ∙ append_assoc front (codes " at ") time);
}

pub between_moments : (clock : Option (Bor ZoneFile)) (from to : ℕ) (front a b c begin end text : List ℕ)
    → IsTitleTime clock from begin → IsTitleTime clock to end → a ≡ front ++ codes " from " → b ≡ a ++ begin
    → c ≡ b ++ codes " to " → text ≡ c ++ end → IsFromTo clock front from to text
between_moments clock from to front a b c begin end text h k ea eb ec et = record {
  begin = begin;
  begin_is = h;
  end = end;
  end_is = k;
  spelled = et ∙ (ap (λ x. x ++ end) (ec ∙ ap (λ x. x ++ codes " to ") (eb ∙ ap (λ x. x ++ begin) ea)) ∙ simp append_assoc);
}
