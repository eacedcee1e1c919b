-- Where the texts of a question come from, as the words say it.
use Rattle.std.specs.Prelude.{◌≡◌, ◌⊎◌, List, Option, Some, None, codes, map}
use Rattle.clap.specs.Words.{Row, Text, first_of, all_of}
use Rattle.desk_args.specs.declared.sources.InputSource.{InputSource}
use Rattle.desk_args.specs.declared.sources.InputSource.TheVariants.{Input, Journals, Certified}

-- the commands that judge certificates, by their names
abbrev pub Judges : Text → Type 0
Judges name = (name ≡ codes "audit") ⊎ (name ≡ codes "batch") ⊎ (name ≡ codes "explain")

-- No path is named. Or paths of journals are; and where certificates are judged, but nowhere else, the path of those.
abbrev pub IsSourceBy : (judges : Type 0) → (journals : Option (List Text)) → (certificate : Option Text) → InputSource
    → Type 0
IsSourceBy judges journals certificate Input = (journals ≡ None) × (certificate ≡ None)
IsSourceBy judges journals certificate (Journals paths) =
    (journals ≡ Some (map (λ p. p.now) paths.items)) × (certificate ≡ None) × (judges → ⊥)
IsSourceBy judges journals certificate (Certified paths file) =
    (journals ≡ Some (map (λ p. p.now) paths.items)) × (certificate ≡ Some file.now) × judges

abbrev pub IsFrom : Text × List Row → InputSource → Type 0
IsFrom found source = IsSourceBy (Judges found.0) (all_of (codes "journals") found.1)
    (first_of (codes "certificate") found.1) source

-- the paths that are named are those of no question
abbrev pub IsFromNowhere : Text × List Row → Type 0
IsFromNowhere found = (source : InputSource) → IsFrom found source → ⊥
