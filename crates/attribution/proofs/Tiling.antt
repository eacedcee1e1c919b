-- Pieces that lie end to end, and the end points of prefixes.
use Rattle.std.specs.Prelude.{◌≡◌, ℕ, ◌<◌, ◌≤◌, ◌⊎◌, List, [], ◌∷◌, Contains as Has}
use Rattle.std.proofs.Common.{suc, arith, inl, inr, refl}
use Rattle.std.proofs.lemmas.Bool.{cases_lt}
use Rattle.prefix_range.proofs.Ends.{contains_by_ends, ends_contained, overlaps_by_ends, ends_overlap}
use Rattle.causal_order.specs.declared.certificate.Piece.{Piece}
use Rattle.attribution.specs.Acceptance.{Tile}
use Rattle.attribution.specs.Laws.{PiecesMeetEveryMoment, EndPointsDecide}

-- pieces that lie end to end do not go back, and meet every moment
tile_forward : (ps : List Piece) (from to : ℕ) → Tile from to ps → from ≤ to
tile_forward [] from to h = let e : from ≡ to = h in omega arith
tile_forward (p ∷ ps) from to h = let r = tile_forward ps p.to to h.2 in let a = h.0 in let b = h.1 in omega arith

Meets : List Piece → ℕ → ℕ → Type 0
Meets ps to m = (p : Piece) × Has ps p × (p.from ≤ m) × (m < p.to) × (p.to ≤ to)

meets_by : (p : Piece) (ps : List Piece) (from to m : ℕ) → Tile from to (p ∷ ps) → from ≤ m
    → (p.to ≤ m → Meets ps to m) → (m < p.to) ⊎ (p.to ≤ m) → Meets (p ∷ ps) to m
unfolding Meets
meets_by p ps from to m t ge rest (inl lt) =
    (p, (0, omega arith, refl), (let a = t.0 in omega arith), lt, tile_forward ps p.to to t.2)
meets_by p ps from to m t ge rest (inr le) = let r = rest le in
    (r.0, (suc r.1.0, (let x = r.1.1 in omega arith), r.1.2), r.2, r.3, r.4)

tile_meets : (ps : List Piece) (from to m : ℕ) → Tile from to ps → from ≤ m → m < to → Meets ps to m
tile_meets [] from to m t ge lt = let e : from ≡ to = t in absurd (omega arith)
tile_meets (p ∷ ps) from to m t ge lt =
    meets_by p ps from to m t ge (λ le. tile_meets ps p.to to m t.2 le lt) (cases_lt m p.to)

pub pieces_meet : PiecesMeetEveryMoment
unfolding Meets
pieces_meet ps from to m t ge lt = tile_meets ps from to m t ge lt

pub end_points : EndPointsDecide
end_points p q hp hq = (
  ends_overlap p q hp hq,
  overlaps_by_ends p q hp hq,
  ends_contained p q hp hq,
  contains_by_ends p q hp hq,
)
