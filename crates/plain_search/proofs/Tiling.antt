-- Pieces end to end.
use Rattle.std.specs.Prelude.{◌≡◌, ℕ, ◌+◌, ◌<◌, ◌≤◌, List, [], ◌∷◌, ◌++◌, length, All, Contains as Has}
use Rattle.std.proofs.Common.{arith, sym, ◌∙◌, ap, subst, refl}
use Rattle.std.proofs.lemmas.List.Sums.{sum_by_push}
use Rattle.causal_order.specs.declared.reference.Ref.{Ref}
use Rattle.causal_order.specs.declared.certificate.Piece.{Piece}
use Rattle.causal_order.specs.Journals.{Journals}
use Rattle.attribution.specs.Acceptance.{Tile}
use Rattle.plain_search.specs.declared.query.Query.{Query}
use Rattle.plain_search.specs.declared.reach.CarriedSpan.{CarriedSpan}
use Rattle.plain_search.specs.Search.{CarriesAt, IsReach, AreAllReaches, NoneReaches, IsFarthest, IsPieceOf, IsFound}
use Rattle.plain_search.specs.Search.{ReachTo, HasGap, ArePiecesOver}
use Rattle.plain_search.specs.Limits.{lines_of_piece, lines_of_all}
use Rattle.plain_search.proofs.Candidates.{reached}
use Rattle.plain_search.proofs.Carrying.{all_more}

tile_more : (ps : List Piece) (p : Piece) (from to : ℕ) → Tile from to ps → p.from ≡ to → p.from < p.to
    → Tile from p.to (ps ++ p ∷ [])
tile_more [] p from to t is lt = (is ∙ sym t, lt, refl)
tile_more (x ∷ ps) p from to t is lt = (t.0, t.1, tile_more ps p x.to to t.2 is lt)

pub all_has : {X : Type 0} (P : X → Type 0) (xs : List X) (x : X) → All P xs → Has xs x → P x
all_has P xs x h has = subst P has.2 (h has.0 x has.1)

-- the pieces so far, and where the next begins
pub record AreSoFar (js : Journals) (q : Query) (ps : List Piece) (m : ℕ) : Type 0 where
  pub reach : ReachTo js q m ps
  pub begun : q.from ≤ m
  pub within : m ≤ q.to

module _ (js : Journals) (q : Query) where
  pub none_so_far : q.from ≤ q.to → AreSoFar js q [] q.from
  none_so_far le = record {
    reach = record { tiled = refl; found = λ k d lt. absurd (omega arith) };
    begun =
        omega arith;
    within = le;
  }

  within_query : (x : CarriedSpan) → IsReach js q x → x.end ≤ q.to
  within_query x h = ((h.ends x.end).1 (omega arith)).within

  module _ (xs : List CarriedSpan) (each : All (IsReach js q) xs) where
    is_reach_of : (m : ℕ) (z : CarriedSpan) → IsFarthest xs m z → IsReach js q z
    is_reach_of m z far = all_has (IsReach js q) xs z each far.has

    pub one_so_far : (ps on : List Piece) (m : ℕ) (z : CarriedSpan) (p : Piece) → IsFarthest xs m z
        → IsPieceOf js q.skew z m p → on ≡ ps ++ p ∷ [] → AreSoFar js q ps m → AreSoFar js q on z.end
    one_so_far ps on m z p far of same h =
        let reach = is_reach_of m z far in
        let from : p.from ≡ m = ap (λ (y : Piece). y.from) of.is in
        let to : p.to ≡ z.end = ap (λ (y : Piece). y.to) of.is in
        let begins = far.begins in
        let ends = far.ends in
        let found : IsFound js q p = record { reach = z; from = m; of = reach; begun = begins; is = of } in
        subst (λ (x : List Piece). AreSoFar js q x z.end) (sym same) (record {
          reach = record {
            tiled = subst (λ (n : ℕ). Tile q.from n (ps ++ p ∷ [])) to
                (tile_more ps p q.from m h.reach.tiled from (omega arith));
            found = all_more (IsFound js q) ps p h.reach.found found;
          };
          begun = (let b = h.begun in omega arith);
          within = within_query z reach;
        })

    pub gap_at : (ps : List Piece) (m : ℕ) → AreAllReaches js q xs → m < q.to → NoneReaches xs m → AreSoFar js q ps m
        → HasGap js q
    gap_at ps m all lt none h = record {
      moment = m;
      from = h.begun;
      to = lt;
      bare = λ r at. (
          let x = all m r h.begun at in
          let r = reached js q x.0 m (all_has (IsReach js q) xs x.0 each x.1)
          (subst (λ (s : Ref). CarriesAt js q m s) (sym x.2) at) in
          let le = none x.0 x.1 r.0 in
          let past = r.1 in
          absurd (omega arith));
    }

  pub reach_all : (ps : List Piece) (m : ℕ) → q.to ≤ m → AreSoFar js q ps m → ReachTo js q q.to ps
  reach_all ps m le h = let same : m ≡ q.to = (let w = h.within in omega arith) in
      subst (λ (n : ℕ). ReachTo js q n ps) same h.reach

-- ---- how many lines they have

pub lines_with : (ps on : List Piece) (p : Piece) → on ≡ ps ++ p ∷ []
    → lines_of_all on ≡ lines_of_all ps + (1 + length p.clear)
lines_with ps on p same = ap lines_of_all same ∙ sum_by_push lines_of_piece ps p

module _ (js : Journals) (q : Query) (xs : List CarriedSpan) (each : All (IsReach js q) xs) where
  -- with one more they have more than there is room for
  pub over_with : (ps : List Piece) (m : ℕ) (z : CarriedSpan) (p : Piece) (left room : ℕ) → IsFarthest xs m z
      → IsPieceOf js q.skew z m p → AreSoFar js q ps m → lines_of_all ps + left ≡ room → left ≤ length p.clear
      → ArePiecesOver js q room
  over_with ps m z p left room far of h fits over =
      let on = one_so_far js q xs each ps (ps ++ p ∷ []) m z p far of refl h in
      let more = lines_with ps (ps ++ p ∷ []) p refl in
      (z.end, ps ++ p ∷ [], on.reach, omega arith)
