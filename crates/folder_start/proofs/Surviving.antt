-- Whether a server is a survivor, by what its book says.
use Rattle.std.specs.Prelude.{◌≡◌, ◌↔◌, IsTrue, ℕ, Bool, true, false, None, Some, refl}
use Rattle.std.proofs.Common.{sym, ◌∙◌, subst, inl, inr}
use Rattle.prefix_range.specs.Prefix.{Prefix}
use Rattle.journal_lines.specs.declared.line.Journal.{Journal}
use Rattle.order_book.specs.Replayed.{state_of}
use Rattle.unit_index.specs.Units.{IsLeastOf}
use Rattle.unit_index.specs.Queries.{HasMark}
use Rattle.folder_start.specs.declared.pairing.Pairing.{Pairing}
use Rattle.folder_start.specs.Pairing.{IsSurvivor, GoesOn, is_alone}

-- its partner is taken for down
pub by_down : (j : Journal) (since : ℕ) → (state_of j).down ≡ Some since → IsSurvivor j
by_down j since is = inl (λ none. let both = sym is ∙ none in cc)

-- a unit is marked
pub by_mark : (j : Journal) (p : Prefix) → IsLeastOf (HasMark (state_of j) 0) (Some p) → IsSurvivor j
by_mark j p least = inr (p, least.0)

-- neither
pub by_none : (j : Journal) → (state_of j).down ≡ None → IsLeastOf (HasMark (state_of j) 0) None → IsSurvivor j → ⊥
by_none j up none (inl down) = down up
by_none j up none (inr mark) = none mark.0 mark.1

-- ---- whether it goes on without the line `restart`

pub survivor_goes_on : (pairing : Pairing) (j : Journal) → IsSurvivor j → GoesOn pairing j
survivor_goes_on pairing j survives = inl survives

pub alone_goes_on : (pairing : Pairing) (j : Journal) (alone : Bool) → alone ≡ is_alone pairing j → IsTrue alone
    → GoesOn pairing j
alone_goes_on pairing j alone is holds = inr (subst IsTrue is holds)

pub neither_goes_on : (pairing : Pairing) (j : Journal) (alone : Bool) → (IsSurvivor j → ⊥)
    → alone ≡ is_alone pairing j → alone ≡ false → GoesOn pairing j → ⊥
neither_goes_on pairing j alone none is fails (inl survives) = none survives
neither_goes_on pairing j alone none is fails (inr holds) =
    let both : false ≡ true = sym fails ∙ (is ∙ holds) in
    cc

-- ---- a test that says both

pub tells : (b : Bool) (P : Type 0) → (IsTrue b → P) → (b ≡ false → P → ⊥) → IsTrue b ↔ P
tells true P then else_not = (then, λ p. refl)
tells false P then else_not = (then, λ p. absurd (else_not refl p))
