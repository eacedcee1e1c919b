-- What is lacking, in words.
use Rattle.std.specs.Prelude.{◌≡◌, ℕ, List, ◌++◌, codes}
use Rattle.binding_rules.specs.declared.role.Role.{Role}
use Rattle.binding_rules.specs.declared.role.Role.TheVariants.{Primary, Secondary}
use Rattle.journal_archive.specs.declared.covering.CoverageGap.{CoverageGap}
use Rattle.journal_archive.specs.declared.covering.CoverageGap.TheVariants.{NoVolume, Older, Roll, Missing, Later}

abbrev pub side_words : Role → List ℕ
side_words Primary = codes "lacking A "
side_words Secondary = codes "lacking B "

abbrev pub lack_name : CoverageGap → List ℕ
lack_name NoVolume = codes "NoVolume"
lack_name (Older oldest) = codes "Older"
lack_name (Roll before next) = codes "Roll"
lack_name (Missing before next) = codes "Missing"
lack_name (Later latest) = codes "Later"

-- which side lacks it, and what it is
abbrev pub lack_front : Role → CoverageGap → List ℕ
lack_front side lack = side_words side ++ lack_name lack

-- the text begins with this
abbrev pub BeginsWith : (front text : List ℕ) → Type 0
BeginsWith front text = (rest : List ℕ) × (text ≡ front ++ rest)
