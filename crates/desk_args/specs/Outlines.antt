-- What the words name that has to be read before they are judged.
use Rattle.std.specs.Prelude.{◌≡◌, ◌≢◌, ◌⊎◌, List, Option, Some, None, option_map, codes}
use Rattle.clap.specs.Words.{Row, Text, first_of}
use Rattle.desk_args.specs.declared.outlines.Outline.{Outline}
use Rattle.desk_args.specs.declared.outlines.BoundsSource.{BoundsSource}
use Rattle.desk_args.specs.declared.outlines.BoundsSource.TheVariants.{Words, Heads}
use Rattle.desk_args.specs.Sources.{IsFrom}

-- the commands that believe clocks as far as said, by their names
abbrev pub IsBounded : Text → Type 0
IsBounded name =
    (name ≡ codes "who") ⊎ (name ≡ codes "find") ⊎ (name ≡ codes "audit") ⊎ (name ≡ codes "batch")
    ⊎ (name ≡ codes "explain")

-- such a command is asked of files, and no skew is given
pub record AsksHeads (found : Text × List Row) : Type 0 where
  pub bounded : IsBounded found.0
  pub files : first_of (codes "journals") found.1 ≢ None
  pub skewless : first_of (codes "skew-ms") found.1 ≡ None

-- so the heads of the journals say the bounds, else the words do
abbrev pub AreBoundsFrom : Text × List Row → BoundsSource → Type 0
AreBoundsFrom found Heads = AsksHeads found
AreBoundsFrom found Words = AsksHeads found → ⊥

pub record IsOutline (found : Text × List Row) (outline : Outline) : Type 0 where
  pub zone : option_map (λ name. name.now) outline.zone ≡ first_of (codes "zone") found.1
  pub source : IsFrom found outline.source
  pub bounds : AreBoundsFrom found outline.bounds

abbrev pub IsOutlined : Option (Text × List Row) → Outline → Type 0
IsOutlined None outline = ⊥
IsOutlined (Some found) outline = IsOutline found outline
