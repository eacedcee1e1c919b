-- For bodies only: the records of a stream parsed from the front.
use Rattle.std.specs.Prelude.{◌≡◌, ◌≤◌, ℕ, ◌+◌, List, ◌++◌, length, Option, Some, None, Result, Ok, Err}
use Rattle.std.specs.Borrow.{Bor}
use Rattle.std.specs.List.{concat}
use Rattle.link_auth.specs.declared.fault.LinkFault.{LinkFault}
use Rattle.link_auth.specs.Records.{Stands, IsPartial, HasFault, AreFit, records_of}

-- what is still to be parsed of a stream, and the number of its next record
pub record Ahead : Type 0 where
  pub number : ℕ
  pub rest : List ℕ

-- one step: a record is taken, or nothing changes
abbrev pub Goes : (key : List ℕ) → Ahead → Result (Option (Bor (List ℕ))) LinkFault → Ahead → Type 0
Goes key a (Ok (Some piece)) b = Stands key a.number piece.now a.rest b.rest × (b.number ≡ a.number + 1)
Goes key a (Ok None) b = IsPartial a.rest × (b ≡ a)
Goes key a (Err fault) b = HasFault key a.number a.rest fault × (b ≡ a)

-- records were taken from the front of a stream, and these octets are theirs
pub record Taken (key : List ℕ) (start : Ahead) (octets : List ℕ) (now : Ahead) : Type 0 where
  pub pieces : List (List ℕ)
  pub fit : AreFit pieces
  pub parts : start.rest ≡ records_of key start.number pieces ++ now.rest
  pub number : now.number ≡ start.number + length pieces
  pub whole : octets ≡ concat pieces

-- octets up to a rest became records, and the next has this number
pub record Written (key : List ℕ) (start : ℕ) (octets stream : List ℕ) (next : ℕ) (rest : List ℕ) : Type 0 where
  pub pieces : List (List ℕ)
  pub fit : AreFit pieces
  pub whole : octets ≡ concat pieces ++ rest
  pub filled : length pieces + length rest ≤ length octets  -- no piece is empty
  pub records : stream ≡ records_of key start pieces
  pub number : next ≡ start + length pieces
