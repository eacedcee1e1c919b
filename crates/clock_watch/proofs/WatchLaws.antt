-- What is seen of clocks, turn by turn.
use Rattle.std.proofs.Common.{◌≡◌, ℕ, ◌+◌, ◌-◌, ◌*◌, ◌/◌, ◌^◌, ◌<◌, ◌≤◌, ◌&&◌, Bool, true, false, leb, List, [], ◌∷◌}
use Rattle.std.proofs.Common.{refl, sym, ap, subst, ◌∙◌, arith, inl, inr}
use Rattle.std.specs.Prelude.{◌⊎◌, min, max}
use Rattle.std.specs.Time.{instant_nanos}
use Rattle.std.proofs.lemmas.Bool.{leb-true, le-leb}
use Rattle.text_fields.proofs.Steps.{both}
use Rattle.server_clocks.specs.declared.clocks.Moment.{Moment}
use Rattle.clock_watch.specs.declared.watch.ClockWatch.{ClockWatch}
use Rattle.clock_watch.specs.Watching.{judged, elapsed, would_show, is_near, is_right, begun_at, turned, seen}
use Rattle.clock_watch.specs.Laws.{Turn, steady, IsTurn, IsAhead, IsBehind, IsWithin, IsLeft, run}

-- ---- whole milliseconds

-- the whole milliseconds of what a clock shows, and of what passed: each has lost less than one
abbrev Whole : ℕ → ℕ → Type 0
Whole n ms = (1000000 * ms ≤ n) × (n < 1000000 * ms + 1000000)

whole : (n : ℕ) → Whole n (n / 1000000)
whole n = (omega arith, omega arith)

passed : (s t : Turn) → IsTurn t → Whole (steady t - steady s) (elapsed s.moment.instant t.moment.instant)
passed s t h =
    let d = whole (steady t - steady s) in
    let early = h.early in
    (omega arith, omega arith)

-- ---- what is near

near : (bound one other : ℕ) → one ≤ other + bound → other ≤ one + bound → is_near bound one other ≡ true
near bound one other a b = rw (le-leb one (other + bound) a, le-leb other (one + bound) b) refl

shown_near : (bound : ℕ) (s t : Turn) → 1 ≤ bound → IsTurn s → IsTurn t → IsWithin ((bound - 1) * 1000000) s t
    → is_near bound (would_show s.moment t.moment.instant) t.moment.reading ≡ true
shown_near bound s t some hs ht w =
    let a = whole s.wall in
    let b = whole t.wall in
    let e = passed s t ht in
    let was = hs.shows in
    let is = ht.shows in
    let forward = w.forward in
    let ahead = w.ahead in
    let behind = w.behind in
    near bound (would_show s.moment t.moment.instant) t.moment.reading (omega arith) (omega arith)

not_near : (bound one other : ℕ) → (is_near bound one other ≡ true → ⊥) → is_near bound one other ≡ false
not_near bound one other h = by (is_near bound one other) h
  where
    by : (b : Bool) → (b ≡ true → ⊥) → b ≡ false
    by true h = absurd (h refl)
    by false h = refl

near_bounds : (bound one other : ℕ) → is_near bound one other ≡ true → (one ≤ other + bound) × (other ≤ one + bound)
near_bounds bound one other e =
    let t = both (leb one (other + bound)) (leb other (one + bound)) e in
    (leb-true one (other + bound) t.0, leb-true other (one + bound) t.1)

shown_far : (bound : ℕ) (s t : Turn) → IsTurn s → IsTurn t → steady s ≤ steady t
    → IsAhead ((bound + 2) * 1000000) s t ⊎ IsBehind ((bound + 2) * 1000000) s t
    → is_near bound (would_show s.moment t.moment.instant) t.moment.reading ≡ false
shown_far bound s t hs ht forward far = not_near bound _ _ (λ e. apart far (near_bounds bound _ _ e))
  where
    apart : IsAhead ((bound + 2) * 1000000) s t ⊎ IsBehind ((bound + 2) * 1000000) s t
        → (would_show s.moment t.moment.instant ≤ t.moment.reading + bound)
        × (t.moment.reading ≤ would_show s.moment t.moment.instant + bound) → ⊥
    apart (inl off) n =
        let a = whole s.wall in
        let b = whole t.wall in
        let e = passed s t ht in
        let was = hs.shows in
        let is = ht.shows in
        omega arith
    apart (inr off) n =
        let a = whole s.wall in
        let b = whole t.wall in
        let e = passed s t ht in
        let was = hs.shows in
        let is = ht.shows in
        omega arith

-- ---- a clock that nobody sets

-- what the watch is after turns at which the clock was right
abbrev Watched : Turn → Turn → ClockWatch
Watched first last = record { begun = first.moment; right = last.moment; is_set = false }

least : (skew : ℕ) → 1 ≤ judged skew
least skew = omega arith

seen_right : (skew : ℕ) (first last t : Turn) → IsTurn first → IsTurn last → IsTurn t
    → IsWithin ((judged skew - 1) * 1000000) last t → IsWithin ((2 * judged skew - 1) * 1000000) first t
    → seen (Watched first last) t.moment skew ≡ Watched first t
seen_right skew first last t hf hl ht w v = rw (
  shown_near (judged skew) last t (least skew) hl ht w,
  shown_near (2 * judged skew) first t (omega (arith, least skew)) hf ht v,
) refl

left : (skew : ℕ) (first last : Turn) (turns : List Turn) → IsTurn first → IsTurn last → IsLeft skew first last turns
    → (run skew (Watched first last) turns).is_set ≡ false
left skew first last [] hf hl h = refl
left skew first last (t ∷ turns) hf hl h =
    ap (λ (w : ClockWatch). (run skew w turns).is_set) (seen_right skew first last t hf hl h.0 h.1 h.2)
    ∙ left skew first t turns hf h.0 h.3

pub never_set : (skew : ℕ) (first : Turn) (turns : List Turn) → IsTurn first → IsLeft skew first first turns
    → (run skew (begun_at first.moment) turns).is_set ≡ false
never_set skew first turns hf h = left skew first first turns hf hf h

-- ---- a clock that is set

pub is_seen : (skew : ℕ) (w : ClockWatch) (last now : Turn) → w.right ≡ last.moment → IsTurn last → IsTurn now
    → steady last ≤ steady now
    → IsAhead ((judged skew + 2) * 1000000) last now ⊎ IsBehind ((judged skew + 2) * 1000000) last now
    → (seen w now.moment skew).is_set ≡ true
is_seen skew w last now is hl hn forward far =
    let e = shown_far (judged skew) last now hl hn forward far in
    let f = subst (λ (m : Moment). is_near (judged skew) (would_show m now.moment.instant) now.moment.reading ≡ false)
    (sym is) e in
    rw f refl
