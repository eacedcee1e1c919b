-- What the marks above the units tell of them.
use Rattle.std.proofs.Common.{◌≡◌, ◌≢◌, ℕ, ◌+◌, ◌*◌, ◌/◌, ◌^◌, ◌<◌, ◌≤◌, ◌==◌, ◌⊎◌, ◌||◌, Bool, true, false, nat_le}
use Rattle.std.proofs.Common.{List, length, get_or, zero, suc, ap, ap₂, sym, ◌∙◌, subst, refl, inl, inr, arith, Option}
use Rattle.std.proofs.Common.{Some, None}
use Rattle.std.specs.Prelude.{if◌then◌else◌, replicate, min, IfSome, IfNone}
use Rattle.std.proofs.Math.ListN.{set, length-set, length-replicate}
use Rattle.std.proofs.Math.Nat.{pow-succ', mul-le-mul_left}
use Rattle.std.proofs.lemmas.List.{get_or-set_same, get_or-set_other, get_or_default}
use Rattle.std.proofs.lemmas.Nat.{pow_pos}
use Rattle.std.proofs.lemmas.Bool.Decides.{nat_tests}
use Rattle.unit_index.specs.declared.unit_kinds.UnitKinds.{UnitKinds}
use Rattle.unit_index.specs.declared.searching.UnitQuery.{UnitQuery}
use Rattle.unit_index.specs.declared.searching.UnitQuery.TheVariants.{Usable, Expirable, Seizable, Pending, Due, Marked}
use Rattle.unit_index.specs.declared.searching.UnitQuery.TheVariants.{Overcounted}
use Rattle.unit_index.specs.declared.kind_tree.KindTree.{KindTree}
use Rattle.unit_index.specs.Kinds.{nothing, earlier, joined, is_by, may_be}
use Rattle.unit_index.specs.KindTreeForms.{at, IsJoined, IsKindTree}
use Rattle.unit_index.specs.KindTrees.{leaf, IsFree, IsSpan, IsLeastEnd}

-- ---- two marks

neither : (s t : Bool) → (s || t) ≡ false → (s ≡ false) × (t ≡ false)
neither true t e = absurd (cc)
neither false t e = (refl, e)

none_by : (now : ℕ) (x y : Option ℕ) → is_by now (earlier x y) ≡ false → (is_by now x ≡ false) × (is_by now y ≡ false)
none_by now None y e = (refl, e)
none_by now (Some x) None e = (e, refl)
none_by now (Some x) (Some y) e = (grind (arith, nat_tests), grind (arith, nat_tests))

pub none_of_both : (w : UnitQuery) (a b : UnitKinds) → may_be w (joined a b) ≡ false
    → (may_be w a ≡ false) × (may_be w b ≡ false)
none_of_both Usable a b e = neither a.usable b.usable e
none_of_both (Expirable now) a b e = none_by now a.ends b.ends e
none_of_both (Seizable now) a b e = neither a.taken b.taken e
none_of_both Pending a b e = neither a.pending b.pending e
none_of_both Due a b e = neither a.due b.due e
none_of_both Marked a b e = neither a.marked b.marked e
none_of_both Overcounted a b e = absurd (cc)

-- ---- a chart of nothing

nothing_there : (n i : ℕ) → at (replicate n nothing) i ≡ nothing
nothing_there zero i = refl
nothing_there (suc n) zero = refl
nothing_there (suc n) (suc i) = nothing_there n i

pub chart_of_nothing : (levels n : ℕ) → levels ≤ 16 → n ≡ 2 * 2 ^ levels → IsKindTree levels (replicate n nothing)
chart_of_nothing levels n few is = record {
  few = few;
  whole = length-replicate n nothing ∙ is;
  each = λ i first below. record {
    joins = nothing_there n i ∙ sym (ap₂ joined (nothing_there n (2 * i)) (nothing_there n (2 * i + 1)));
  };
}

-- ---- a mark changes

-- all marks but one are joined
pub record IsRising (before nodes : List UnitKinds) (count node : ℕ) : Type 0 where
  pub same : length nodes ≡ length before
  pub below : node < count
  pub others : (i : ℕ) → 1 ≤ i → i < count → i ≢ node → IsJoined nodes i
  pub leaves : (k : ℕ) → count ≤ k → at nodes k ≡ at before k

pub raised : (before nodes : List UnitKinds) (count node half : ℕ) (m : UnitKinds) → length before ≡ 2 * count → 1 ≤ node
    → half ≡ node / 2
    → m ≡ joined (at nodes (2 * node)) (at nodes (2 * node + 1)) → IsRising before nodes count node
    → IsRising before (set nodes node m) count half
raised before nodes count node half m whole positive is joins r = record {
  same = length-set nodes node m ∙ r.same;
  below = omega (arith, r.below, is);
  others = others;
  leaves = λ k far. get_or-set_other nodes node k m nothing (λ e. absurd (omega (arith, e, far, r.below)))
      ∙ r.leaves k far;
} where
  other : (j : ℕ) → j ≢ node → at (set nodes node m) j ≡ at nodes j
  other j ne = get_or-set_other nodes node j m nothing ne

  here : at (set nodes node m) node ≡ m
  here = get_or-set_same nodes node m nothing (omega (arith, r.same, whole, r.below))

  by_place : (i : ℕ) → 1 ≤ i → i < count → i ≢ half → (b : Bool) → (i == node) ≡ b → IsJoined (set nodes node m) i
  by_place i first below ne true e =
      let same : i ≡ node = grind (arith, nat_tests) in
      subst (IsJoined (set nodes node m)) (sym same) (record {
        joins = here
            ∙ (joins ∙ sym (ap₂ joined (other (2 * node) (λ e. absurd (omega (arith, e, positive))))
            (other (2 * node + 1) (λ e. absurd (omega (arith, e, positive))))));
      })
  by_place i first below ne false e =
      let apart : i ≢ node = λ same. absurd (grind (arith, nat_tests)) in
      let was = r.others i first below apart in
      record {
        joins = other i apart
            ∙ (was.joins ∙ sym (ap₂ joined (other (2 * i) (λ e. ne (omega (arith, e, is))))
            (other (2 * i + 1) (λ e. ne (omega (arith, e, is))))));
      }

  others : (i : ℕ) → 1 ≤ i → i < count → i ≢ half → IsJoined (set nodes node m) i
  others i first below ne = by_place i first below ne (i == node) refl

-- a leaf changes, and what is above it isn't joined yet
pub begins_rising : (nodes : List UnitKinds) (levels place node : ℕ) (m : UnitKinds) → IsKindTree levels nodes
    → place < 2 ^ levels → node ≡ 2 ^ levels + place
    → (i : ℕ) → 1 ≤ i → i < 2 ^ levels → i ≢ node / 2 → IsJoined (set nodes node m) i
begins_rising nodes levels place node m chart lt is i first below ne =
    let was = chart.each i first below in
    let other : (j : ℕ) → j ≢ node → at (set nodes node m) j ≡ at nodes j =
    λ j apart. get_or-set_other nodes node j m nothing apart in
    record {
      joins = other i (λ e. absurd (omega (arith, e, is, below)))
          ∙ (was.joins ∙ sym (ap₂ joined (other (2 * i) (λ e. ne (omega (arith, e))))
          (other (2 * i + 1) (λ e. ne (omega (arith, e))))));
    }

pub leaf_put : (before nodes : List UnitKinds) (levels place node : ℕ) (m : UnitKinds) → IsKindTree levels before
    → place < 2 ^ levels → node ≡ 2 ^ levels + place
    → ((k : ℕ) → 2 ^ levels ≤ k → at nodes k ≡ at (set before node m) k) → (k : ℕ)
    → at nodes (2 ^ levels + k) ≡ (if k == place then m else at before (2 ^ levels + k))
leaf_put before nodes levels place node m chart lt is leaves k =
    leaves (2 ^ levels + k) (omega arith) ∙ by_test (k == place) refl where
      by_test : (b : Bool) → (k == place) ≡ b → at (set before node m) (2 ^ levels + k)
          ≡ (if b then m else at before (2 ^ levels + k))
      by_test true e =
          let same : k ≡ place = grind (arith, nat_tests) in
          let there : 2 ^ levels + k ≡ node = omega (arith, same, is) in
          rw there (get_or-set_same before node m nothing (omega (arith, chart.whole, is, lt)))
      by_test false e =
          let apart : k ≢ place = λ same. absurd (grind (arith, nat_tests)) in
          get_or-set_other before node (2 ^ levels + k) m nothing (λ e. apart (omega (arith, e, is)))

-- ---- a search below a node

-- a node with others below it
pub record IsInner (top levels node start : ℕ) : Type 0 where
  pub positive : 1 ≤ node
  pub inner : node < 2 ^ top
  pub left : IsSpan top levels (2 * node) start
  pub right : IsSpan top levels (2 * node + 1) (start + 2 ^ levels)

pub node_within : (top levels node start : ℕ) → IsSpan top levels node start → (1 ≤ node) × (node < 2 * 2 ^ top)
node_within top levels node start span = by_node node span.place where
  by_node : (n : ℕ) → n * 2 ^ levels ≡ 2 ^ top + start → (1 ≤ n) × (n < 2 * 2 ^ top)
  by_node zero e = let p = pow_pos top in absurd (omega (arith, e, p))
  by_node (suc n) e =
      let p = pow_pos levels in
      let more : n * 1 ≤ n * 2 ^ levels = mul-le-mul_left n p in
      (omega arith, (let f = span.fits in omega (arith, e, p, more, f)))

pub inner : (top levels node start : ℕ) → IsSpan top (suc levels) node start → IsInner top levels node start
inner top levels node start span =
    let two : 2 ^ suc levels ≡ 2 * 2 ^ levels = pow-succ' 2 levels in
    let w = node_within top (suc levels) node start span in
    let n = 2 ^ levels in
    let p = pow_pos levels in
    let place : node * (2 * n) ≡ 2 ^ top + start = ap (λ (k : ℕ). node * k) (sym two) ∙ span.place in
    let more : node * 1 ≤ node * n = mul-le-mul_left node p in
    let within = span.within in
    let fits = span.fits in
    record {
      positive = w.0;
      inner = omega (arith, place, fits, two, more, p);
      left = record { within = omega (arith, within); place = omega (arith, place); fits = omega (arith, fits, two) };
      right = record { within = omega (arith, within); place = omega (arith, place); fits = omega (arith, fits, two) };
    }

pub free_both : (w : UnitQuery) (c : KindTree) (from start mid end : ℕ) → IsFree w c from start mid → IsFree w c from mid end
    → IsFree w c from start end
free_both w c from start mid end first last =
    record { each = λ k past le lt. by_test k past le lt (nat_le mid k) refl } where
      by_test : (k : ℕ) → from ≤ k → start ≤ k → k < end → (b : Bool) → nat_le mid k ≡ b → may_be w (leaf c k) ≡ false
      by_test k past le lt true e = last.each k past (grind (arith, nat_tests)) lt
      by_test k past le lt false e = first.each k past le (grind (arith, nat_tests))

-- where a mark says that none is wanted, none below it is
pub none_below : (w : UnitQuery) (c : KindTree) (from levels node start : ℕ) → IsKindTree c.levels c.nodes.items
    → IsSpan c.levels levels node start
    → may_be w (at c.nodes.items node) ≡ false → IsFree w c from start (start + 2 ^ levels)
none_below w c from zero node start chart span out = record {
  each = λ k past le lt. (
      let place = span.place in
      let there : node ≡ 2 ^ c.levels + k = omega (arith, place, le, lt) in
      subst (λ (n : ℕ). may_be w (at c.nodes.items n) ≡ false) there out);
}
none_below w c from (suc levels) node start chart span out =
    let two : 2 ^ suc levels ≡ 2 * 2 ^ levels = pow-succ' 2 levels in
    let i = inner c.levels levels node start span in
    let j = chart.each node i.positive i.inner in
    let both = none_of_both w (at c.nodes.items (2 * node)) (at c.nodes.items (2 * node + 1))
    (ap (may_be w) (sym j.joins) ∙ out) in
    let left = none_below w c from levels (2 * node) start chart i.left both.0 in
    let right = none_below w c from levels (2 * node + 1) (start + 2 ^ levels) chart i.right both.1 in
    let end : start + 2 ^ levels + 2 ^ levels ≡ start + 2 ^ suc levels = omega (arith, two) in
    subst (IsFree w c from start) end (free_both w c from start (start + 2 ^ levels)
    (start + 2 ^ levels + 2 ^ levels) left right)

-- ---- the least end

abbrev pub IsLeastOn : KindTree → ℕ → ℕ → Option ℕ → Type 0
IsLeastOn c start end None = (k : ℕ) → start ≤ k → k < end → (leaf c k).ends ≡ None
IsLeastOn c start end (Some e) =
    ((k : ℕ) × (start ≤ k) × (k < end) × ((leaf c k).ends ≡ Some e))
    × ((k f : ℕ) → start ≤ k → k < end → (leaf c k).ends ≡ Some f → e ≤ f)

pub side_of : (k mid : ℕ) → (k < mid) ⊎ (mid ≤ k)
side_of k mid = by_test (nat_le mid k) refl where
  by_test : (b : Bool) → nat_le mid k ≡ b → (k < mid) ⊎ (mid ≤ k)
  by_test true e = inr (grind (arith, nat_tests))
  by_test false e = inl (grind (arith, nat_tests))

least_both : (c : KindTree) (start mid end : ℕ) (x y : Option ℕ) → start ≤ mid → mid ≤ end → IsLeastOn c start mid x
    → IsLeastOn c mid end y → IsLeastOn c start end (earlier x y)
least_both c start mid end None None le more a b =
    λ k from to. elim (side_of k mid) [ inl lt ↦ a k from lt | inr ge ↦ b k ge to ]
least_both c start mid end None (Some y) le more a ((k, from, to, is), least) = (
  (k, omega (arith, le, from), to, is),
  λ n f from to has. elim (side_of n mid) [
    | inl lt ↦ (let no = a n from lt in absurd (cc))
    | inr ge ↦ least n f ge to has
  ],
)
least_both c start mid end (Some x) None le more ((k, from, to, is), least) b = (
  (k, from, omega (arith, to, more), is),
  λ n f from to has. elim (side_of n mid) [
    | inl lt ↦ least n f from lt has
    | inr ge ↦ (let no = b n ge to in absurd (cc))
  ],
)
least_both c start mid end (Some x) (Some y) le more ((k, from, to, is), least) ((l, begin, stop, has), last) = (
  by_test (nat_le x y) refl,
  λ n f from to there. elim (side_of n mid) [
    | inl lt ↦ (let low = least n f from lt there in omega (arith, low))
    | inr ge ↦ (let low = last n f ge to there in omega (arith, low))
  ],
) where
  by_test : (t : Bool) → nat_le x y ≡ t → (n : ℕ) × (start ≤ n) × (n < end) × ((leaf c n).ends ≡ Some (min x y))
  by_test true e = (
    k,
    from,
    omega (arith, to, more),
    is ∙ ap Some (let low : x ≤ y = grind (arith, nat_tests) in
        omega (arith, low)),
  )
  by_test false e = (
    l,
    omega (arith, le, begin),
    stop,
    has ∙ ap Some (let low : y < x = grind (arith, nat_tests) in
        omega (arith, low)),
  )

least_one : (c : KindTree) (start : ℕ) (o : Option ℕ) → (leaf c start).ends ≡ o → IsLeastOn c start (start + 1) o
least_one c start None is = λ k from to. (let same : k ≡ start = omega (arith, from, to) in
    ap (λ (n : ℕ). (leaf c n).ends) same ∙ is)
least_one c start (Some e) is = (
  (start, omega arith, omega arith, is),
  λ k f from to has. (
      let same : k ≡ start = omega (arith, from, to) in
      let both : Some f ≡ Some e = sym has ∙ (ap (λ (n : ℕ). (leaf c n).ends) same ∙ is) in
      let one : f ≡ e = cc in
      omega (arith, one)),
)

least_below : (c : KindTree) (levels node start : ℕ) → IsKindTree c.levels c.nodes.items → IsSpan c.levels levels node start
    → IsLeastOn c start (start + 2 ^ levels) (at c.nodes.items node).ends
least_below c zero node start chart span =
    let place = span.place in
    let there : 2 ^ c.levels + start ≡ node = omega (arith, place) in
    least_one c start (at c.nodes.items node).ends (ap (λ (n : ℕ). (at c.nodes.items n).ends) there)
least_below c (suc levels) node start chart span =
    let two : 2 ^ suc levels ≡ 2 * 2 ^ levels = pow-succ' 2 levels in
    let i = inner c.levels levels node start span in
    let j = chart.each node i.positive i.inner in
    let left = least_below c levels (2 * node) start chart i.left in
    let right = least_below c levels (2 * node + 1) (start + 2 ^ levels) chart i.right in
    let end : start + 2 ^ levels + 2 ^ levels ≡ start + 2 ^ suc levels = omega (arith, two) in
    let p = pow_pos levels in
    let both = least_both c start (start + 2 ^ levels) (start + 2 ^ levels + 2 ^ levels)
    (at c.nodes.items (2 * node)).ends (at c.nodes.items (2 * node + 1)).ends (omega arith)
    (omega arith) left right in
    subst (λ (o : Option ℕ). IsLeastOn c start (start + 2 ^ suc levels) o) (sym (ap (λ (m : UnitKinds). m.ends) j.joins))
    (subst (λ (n : ℕ). IsLeastOn c start n (earlier (at c.nodes.items (2 * node)).ends
    (at c.nodes.items (2 * node + 1)).ends)) end both)

pub whole_span : (top : ℕ) → IsSpan top top 1 0
whole_span top = record { within = omega arith; place = omega arith; fits = omega arith }

pub least_of_all : (c : KindTree) (o : Option ℕ) → IsKindTree c.levels c.nodes.items → (at c.nodes.items 1).ends ≡ o
    → IsLeastEnd c o
least_of_all c o chart is =
    by_end o (subst (IsLeastOn c 0 (0 + 2 ^ c.levels)) is (least_below c c.levels 1 0 chart (whole_span c.levels)))
  where
    by_end : (o : Option ℕ) → IsLeastOn c 0 (0 + 2 ^ c.levels) o → IsLeastEnd c o
    by_end None h = λ k lt. h k (omega arith) (omega (arith, lt))
    by_end (Some e) ((k, from, to, has), least) =
        ((k, omega (arith, to), has), λ n f lt there. least n f (omega arith) (omega (arith, lt)) there)

-- what was read is the mark there
pub read_at : (nodes : List UnitKinds) (i : ℕ) (m : UnitKinds) → i < length nodes → m ≡ get_or nodes i m → m ≡ at nodes i
read_at nodes i m lt is = is ∙ get_or_default nodes i m nothing lt

-- ---- the search, half by half

pub halves : (top levels below node start : ℕ) → levels ≡ suc below → IsSpan top levels node start
    → IsInner top below node start
halves top levels below node start is span =
    inner top below node start (subst (λ (n : ℕ). IsSpan top n node start) is span)

abbrev pub IsFound : UnitQuery → KindTree → ℕ → ℕ → ℕ → ℕ → Type 0
IsFound w c from start end i = (start ≤ i) × (i < end) × (from ≤ i) × IsFree w c from start i

double : (levels below : ℕ) → levels ≡ suc below → 2 ^ levels ≡ 2 * 2 ^ below
double levels below is = ap (λ (n : ℕ). 2 ^ n) is ∙ pow-succ' 2 below

pub found_left : (w : UnitQuery) (c : KindTree) (from start levels below i : ℕ) → levels ≡ suc below
    → IsFound w c from start (start + 2 ^ below) i → IsFound w c from start (start + 2 ^ levels) i
found_left w c from start levels below i is f =
    (f.0, (let lt = f.1 in omega (arith, lt, double levels below is)), f.2, f.3)

pub found_right : (w : UnitQuery) (c : KindTree) (from start mid levels below : ℕ) (o : Option ℕ) → levels ≡ suc below
    → mid ≡ start + 2 ^ below → IsFree w c from start mid
    → IfSome o (λ i. IsFound w c from mid (mid + 2 ^ below) i)
    → IfSome o (λ i. IsFound w c from start (start + 2 ^ levels) i)
found_right w c from start mid levels below None is at free f = tt
found_right w c from start mid levels below (Some i) is at free f =
    let le = f.0 in
    let lt = f.1 in
    (omega (arith, le, at), omega (arith, lt, at, double levels below is), f.2, free_both w c from start mid i free f.3)

pub none_right : (w : UnitQuery) (c : KindTree) (from start mid levels below : ℕ) (o : Option ℕ) → levels ≡ suc below
    → mid ≡ start + 2 ^ below → IsFree w c from start mid
    → IfNone o (IsFree w c from mid (mid + 2 ^ below)) → IfNone o (IsFree w c from start (start + 2 ^ levels))
none_right w c from start mid levels below None is at free f =
    let end : mid + 2 ^ below ≡ start + 2 ^ levels = omega (arith, at, double levels below is) in
    subst (IsFree w c from start) end (free_both w c from start mid (mid + 2 ^ below) free f)
none_right w c from start mid levels below (Some i) is at free f = tt

-- nothing at or behind a place is before it
pub free_before : (w : UnitQuery) (c : KindTree) (from start end : ℕ) → end ≤ from → IsFree w c from start end
free_before w c from start end le = record { each = λ k past first lt. absurd (omega (arith, past, lt, le)) }
