-- Options as they are written.
use Rattle.std.specs.Prelude.{ℕ, List}

-- an option: its code and its data
pub record Ready : Type 0 where
  pub code : ℕ
  pub octets : List ℕ
