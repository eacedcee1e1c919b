-- Which volumes of a side are put together.
use Rattle.std.specs.Prelude.{◌≡◌, ◌≢◌, ℕ, ◌+◌, ◌-◌, ◌<◌, ◌≤◌, max, min, ⊤, length, slice_get, List, [], ◌∷◌, Option}
use Rattle.std.specs.Prelude.{Some, None}
use Rattle.journal_archive.specs.declared.outline.FiledVolume.{FiledVolume}
use Rattle.archive_files.specs.Catalogues.{IsIn}
use Rattle.join_desk.specs.declared.choosing.VolumeChoice.{VolumeChoice}
use Rattle.join_desk.specs.declared.choosing.VolumeChoice.TheVariants.{Chosen, NoVolume, Missing}

abbrev pub number_or_none : Option FiledVolume → ℕ
number_or_none (Some v) = v.outline.number
number_or_none None = 0

-- the number of the first volume that there is, 0 of none
abbrev pub least : List FiledVolume → ℕ
least vs = number_or_none (slice_get vs 0)

-- the number of the last
abbrev pub greatest : List FiledVolume → ℕ
greatest vs = number_or_none (slice_get vs (length vs - 1))

-- from which volume on: the one that is named, or the first that there is, but no later than the last that is named
abbrev pub first_asked : List FiledVolume → Option ℕ → Option ℕ → ℕ
first_asked vs (Some from) to = from
first_asked vs None (Some to) = min (least vs) to
first_asked vs None None = least vs

-- up to which volume: the one that is named, or the last that there is, but no earlier than the first that is named
abbrev pub last_asked : List FiledVolume → Option ℕ → Option ℕ → ℕ
last_asked vs from (Some to) = to
last_asked vs (Some from) None = max (greatest vs) from
last_asked vs None None = greatest vs

-- the volume of this number is one of them
abbrev pub HasNumber : List FiledVolume → ℕ → Type 0
HasNumber vs number = (v : FiledVolume) × IsIn vs v × (v.outline.number ≡ number)

-- volumes of these, numbered on from a number
abbrev pub AreInRow : List FiledVolume → ℕ → List FiledVolume → Type 0
AreInRow vs number [] = ⊤
AreInRow vs number (c ∷ cs) = (c.outline.number ≡ number) × IsIn vs c × AreInRow vs (number + 1) cs

-- the number is the least from this one on that none of them has
pub record IsMissing (vs : List FiledVolume) (from to number : ℕ) : Type 0 where
  pub low : from ≤ number
  pub high : number ≤ to
  pub before : (n : ℕ) → from ≤ n → n < number → HasNumber vs n
  pub none : HasNumber vs number → ⊥

-- the volumes from one number to another, or the first of them that is missing
abbrev pub IsRowOf : List FiledVolume → (from to : ℕ) → VolumeChoice → Type 0
IsRowOf vs from to (Chosen chosen) = AreInRow vs from chosen.items × (from + length chosen.items ≡ max from (to + 1))
IsRowOf vs from to NoVolume = ⊥
IsRowOf vs from to (Missing number) = IsMissing vs from to number

-- what is put together of a side's volumes, where the first and the last are named, or not
abbrev pub IsChoice : List FiledVolume → (from to : Option ℕ) → VolumeChoice → Type 0
IsChoice vs from to NoVolume = vs ≡ []
IsChoice vs from to choice = (vs ≢ []) × IsRowOf vs (first_asked vs from to) (last_asked vs from to) choice
