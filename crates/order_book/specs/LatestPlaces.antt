-- For bodies only: the places of last grant lines, by unit.
use Rattle.std.specs.Prelude.{◌≡◌, ℕ, ⊤, Option, Some, None, IsSome}
use Rattle.std.specs.declared.cmp.Ordering.{Ordering}
use Rattle.std.specs.Ordering.{nat_cmp, ordering_then}
use Rattle.std.specs.BTreeMap.{BTreeMap, get}
use Rattle.prefix_range.specs.Prefix.{Prefix}
use Rattle.journal_lines.specs.declared.event.Event.{Event}
use Rattle.journal_lines.specs.declared.event.Event.TheVariants.{Grant}
use Rattle.journal_lines.specs.declared.line.Journal.{Journal}
use Rattle.book_rules.specs.declared.table.Table.{Table}
use Rattle.order_book.specs.Replayed.{IsKept}
use Rattle.order_book.specs.LatestGrants.{latest_grant}

-- a unit by its address and length
abbrev pub key_of : Prefix → ℕ × ℕ
key_of p = (p.address, p.length)

abbrev pub key_cmp : ℕ × ℕ → ℕ × ℕ → Ordering
key_cmp x y = ordering_then (nat_cmp x.0 y.0) (nat_cmp x.1 y.1)

abbrev pub Places : Type 0
Places = BTreeMap (ℕ × ℕ) (Option ℕ)

-- room without a place is no place
abbrev pub known : Option (Option ℕ) → Option ℕ
known None = None
known (Some place) = place

abbrev pub place_in : Places → Prefix → Option ℕ
place_in m q = known (get key_cmp m (key_of q))

-- there is room for what a line of this event brings
abbrev pub HasRoom : Places → Event → Type 0
HasRoom m (Grant g) = IsSome (get key_cmp m (key_of g.prefix))
HasRoom m e = ⊤

-- the places are those of the journal
pub record AreLatest (j : Journal) (m : Places) : Type 0 where
  pub each : (q : Prefix) → place_in m q ≡ latest_grant j q

-- what a book keeps
pub record IsBook (j : Journal) (t : Table) (m : Places) : Type 0 where
  pub kept : IsKept j t
  pub latest : AreLatest j m
