-- The times that stand in a picture.
use Rattle.std.specs.Prelude.{◌≡◌, ℕ, ◌^◌, ◌<◌, ◌≤◌, ◌⊎◌, List, [], Option, Some, None}
use Rattle.std.specs.Fmt.{decimal}
use Rattle.time_text.specs.Time.{IsTimeText}
use Rattle.report_render.specs.declared.picture.Picture.{Picture}
use Rattle.report_render.specs.declared.labels.PictureLabels.{PictureLabels}

-- a moment in UTC, or from 2^48 on the milliseconds alone
abbrev pub IsAxisTime : ℕ → List ℕ → Type 0
IsAxisTime m text = ((m ≤ 2 ^ 48) × IsTimeText m text) ⊎ ((2 ^ 48 < m) × (text ≡ decimal m))

-- that of the moment that was asked about
abbrev pub IsAskedTime : Option ℕ → List ℕ → Type 0
IsAskedTime None text = text ≡ []
IsAskedTime (Some at) text = IsAxisTime at text

-- those of the interval's ends and of the moment
pub record AreLabels (p : Picture) (l : PictureLabels) : Type 0 where
  pub from : IsAxisTime p.from l.from.items
  pub to : IsAxisTime p.to l.to.items
  pub asked : IsAskedTime p.asked l.asked.items
