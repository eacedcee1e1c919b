-- A text as the list of its cuts between stops.
use Rattle.std.specs.Prelude.{◌≢◌, ℕ, List, [], ◌∷◌, ◌++◌, Option, Some, None, ◌==◌, if◌then◌else◌}
use Rattle.std.specs.Borrow.{Bor}
use Rattle.std.specs.List.{flat_map, AllByRecursion}

-- the cuts with a stop between each two
abbrev pub joined : ℕ → List (List ℕ) → List ℕ
joined stop [] = []
joined stop (cut ∷ []) = cut
joined stop (cut ∷ next ∷ cuts) = cut ++ stop ∷ joined stop (next ∷ cuts)

-- each cut behind a stop of its own
abbrev pub behind : ℕ → List (List ℕ) → List ℕ
behind stop cuts = flat_map (λ cut. stop ∷ cut) cuts

-- each cut with a stop of its own behind it, as the lines of a text have line feeds
abbrev pub with_stops : ℕ → List (List ℕ) → List ℕ
with_stops stop cuts = flat_map (λ cut. cut ++ stop ∷ []) cuts

-- one octet more in front of the first cut
abbrev pub in_front : ℕ → List (List ℕ) → List (List ℕ)
in_front b [] = (b ∷ []) ∷ []
in_front b (cut ∷ cuts) = (b ∷ cut) ∷ cuts

-- the cuts of a text: one more than it has stops
unfoldable pub split : ℕ → List ℕ → List (List ℕ)
split stop [] = [] ∷ []
split stop (b ∷ text) = if b == stop then [] ∷ split stop text else in_front b (split stop text)

-- the cuts of what is left, or none
abbrev pub cuts_left : ℕ → Option (Bor (List ℕ)) → List (List ℕ)
cuts_left stop None = []
cuts_left stop (Some rest) = split stop rest.now

-- no octet of the cut is the stop
abbrev pub Lacks : ℕ → List ℕ → Type 0
Lacks stop cut = AllByRecursion (λ b. b ≢ stop) cut

abbrev pub AllLack : ℕ → List (List ℕ) → Type 0
AllLack stop cuts = AllByRecursion (Lacks stop) cuts
