-- Words that are read one by one.
use Rattle.std.proofs.Common.{◌≡◌, ℕ, List, [], ◌∷◌, Some, refl}
use Rattle.text_fields.specs.Parsing.{◌>>=◌}
use Rattle.prefix_range.specs.Parsing.{numeral_in, with_one, groups_on}

-- one word more, or no groups
pub read_next : (groups : List ℕ) (word : List ℕ) (words : List (List ℕ))
    → groups_on groups (word ∷ words) ≡ (numeral_in 16 4 word >>= λ group. with_one groups group
    >>= λ more. groups_on more words)
unfolding groups_on
read_next groups word words = refl

pub read_all : (groups : List ℕ) → groups_on groups [] ≡ Some groups
unfolding groups_on
read_all groups = refl
