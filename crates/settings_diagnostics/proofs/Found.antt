-- What is found in a map.
use Rattle.std.proofs.Common.{◌≡◌, Option, Some, None, option_map, sym}
use Rattle.text_fields.specs.Parsing.{Finds}

-- what a map of the found gives, the found is
pub finds_mapped : {X Y : Type 0} (view : X → Y) (o : Option X) (read : Option Y) → option_map view o ≡ read
    → Finds view o read
finds_mapped view None read h = sym h
finds_mapped view (Some x) read h = sym h
