-- What is known of a folder's contents by its last files.
use Rattle.std.specs.Prelude.{◌≡◌, ℕ, List, [], ◌++◌, length, replicate, refl}
use Rattle.std.proofs.lemmas.List.{length-replicate}

-- Contents of which these are the last, behind so many others.
pub record AreLast (unread : ℕ) (last contents : List (List ℕ)) : Type 0 where
  pub earlier : List (List ℕ)
  pub as_many : length earlier ≡ unread
  pub are : contents ≡ earlier ++ last

-- such contents there are: all others may be empty
pub some_are_last : (unread : ℕ) (last : List (List ℕ)) → (contents : List (List ℕ)) × AreLast unread last contents
some_are_last unread last = (
  replicate unread [] ++ last,
  record { earlier = replicate unread []; as_many = length-replicate {A = List ℕ} unread []; are = refl },
)
