-- The moment that was asked about.
use Rattle.std.proofs.Common.{◌≡◌, ℕ, List, [], ◌++◌, Option, Bor}
use Rattle.zone_times.specs.declared.zone.ZoneFile.{ZoneFile}
use Rattle.report_render.specs.Spelling.{IsMomentText, AddsMoment}

pub asked_moment : (clock : Option (Bor ZoneFile)) (m : ℕ) (text : List ℕ) → AddsMoment clock m [] text
    → IsMomentText clock m text
asked_moment clock m text h = rw (h.added) h.text_is
