-- The bounds that a chain gives to the moments of its lines, in milliseconds of true time: a clock shows a reading
-- within the skew of the moment.
use Rattle.std.specs.Prelude.{◌≡◌, ℕ, ◌+◌, List, Option, Some, None, option_map, ℤ, pos, ◌+ℤ◌, ◌<ℤ◌}
use Rattle.causal_order.specs.declared.reference.Ref.{Ref}
use Rattle.causal_order.specs.Journals.{Journals, line_of}
use Rattle.causal_order.specs.Order.{IsChain, WrittenBy, WrittenFrom}

-- the reading of the line that a reference names
abbrev pub reading_of : Journals → Ref → Option ℕ
reading_of js r = option_map (λ l. l.reading) (line_of js r)

-- the moment by which the chain's first line was written, or none where it is no chain
abbrev pub IsLatest : Journals → List Ref → ℕ → Option ℤ → Type 0
IsLatest js chain skew None = IsChain js chain → ⊥
IsLatest js chain skew (Some m) = (r : Ref) × (x : ℕ) × WrittenBy js chain r x × (m ≡ pos (x + skew))

-- the moment before which the chain's last line was not written, or none where it is no chain
abbrev pub IsEarliest : Journals → List Ref → ℕ → Option ℤ → Type 0
IsEarliest js chain skew None = IsChain js chain → ⊥
IsEarliest js chain skew (Some m) = (r : Ref) × (x : ℕ) × WrittenFrom js chain r x × (m +ℤ pos skew ≡ pos x)

-- both moments are there, and the one comes before the other
abbrev pub IsEarlier : Option ℤ → Option ℤ → Type 0
IsEarlier (Some m) (Some n) = m <ℤ n
IsEarlier _ _ = ⊥
