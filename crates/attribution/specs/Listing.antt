-- What an auditor has to look at: the lines that concern the prefix asked of.
use Rattle.std.specs.Prelude.{◌≡◌, ℕ, List, Some, slice_get, Contains as Has}
use Rattle.prefix_range.specs.Prefix.{Prefix, HasAddress, Overlaps}
use Rattle.journal_lines.specs.declared.event.Event.{Event}
use Rattle.journal_lines.specs.declared.event.Event.TheVariants.{Grant, Carry, Release}
use Rattle.journal_lines.specs.declared.line.Line.{Line}
use Rattle.causal_order.specs.declared.certificate.Certificate.{Certificate}
use Rattle.causal_order.specs.declared.certificate.Piece.{Piece}
use Rattle.causal_order.specs.declared.reference.Ref.{Ref}
use Rattle.causal_order.specs.Journals.{Journals, Names}
use Rattle.attribution.specs.Acceptance.{IsGranted}
use Rattle.attribution.specs.FirstRefusal.{CutsShort, IsUncovered}

-- the event grants or carries a prefix that overlaps this one, or gives one back
abbrev pub Concerns : Prefix → Event → Type 0
Concerns p (Grant g) = Overlaps g.prefix p
Concerns p (Carry c) = Overlaps c.prefix p
Concerns p (Release client iaid q) = Overlaps q p
Concerns p _ = ⊥

-- exactly the lines of both journals that concern the prefix, each once, in any order
pub record IsListing (js : Journals) (p : Prefix) (refs : List Ref) : Type 0 where
  pub all : (r : Ref) (l : Line) → Names js r l → Concerns p l.event → Has refs r
  pub only : (r : Ref) → Has refs r → (l : Line) × Names js r l × Concerns p l.event
  pub once : (j k : ℕ) (r : Ref) → slice_get refs j ≡ Some r → slice_get refs k ≡ Some r → j ≡ k

-- These lines are enough: what is uncovered is among them, and what cuts short a piece whose grant is right.
abbrev pub ListedIsEnough : Type 0
ListedIsEnough = (js : Journals) (skew transit : ℕ) (c : Certificate) (refs : List Ref)
    → IsListing js c.prefix refs → ((a : ℕ) × HasAddress c.prefix a)
    → ((r : Ref) → IsUncovered js c r → Has refs r)
    × ((p : Piece) → IsGranted js skew transit c p → (r : Ref) → CutsShort js skew p r → Has refs r)
