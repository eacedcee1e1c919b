-- A run without some lines of one side, and with others numbered anew: where each step stood before.
use Rattle.std.specs.Prelude.{◌≡◌, ℕ, ◌+◌, ◌<◌, ◌≤◌, ◌&&◌, Bool, true, false, List, ◌∷◌}
use Rattle.std.specs.Prelude.{if◌then◌else◌}
use Rattle.std.proofs.Common.{zero, suc, arith, sym, ◌∙◌, ap, subst, refl}
use Rattle.binding_rules.specs.declared.role.Role.{Role}
use Rattle.binding_rules.specs.declared.role.Role.TheVariants.{Primary, Secondary}
use Rattle.binding_rules.specs.Role.{is_side}
use Rattle.journal_lines.specs.declared.event.Event.{Event}
use Rattle.journal_lines.specs.declared.event.Event.TheVariants.{Grant, Release, Send}
use Rattle.journal_lines.specs.Close.{is_close}
use Rattle.attribution.specs.Run.{Step, At, closes}
use Rattle.attribution.specs.Laws.{count}
use Rattle.attribution.proofs.Places.{side_same}

-- an event that a lease or a message stands on
abbrev pub tells : Event → Bool
tells (Grant g) = true
tells (Release client iaid prefix) = true
tells (Send m) = true
tells _ = false

-- 1 where it is so
abbrev one_if : Bool → ℕ
one_if b = if b then 1 else 0

-- the same but for the number of the line
pub record IsSame (s t : Step) : Type 0 where
  pub side : s.side ≡ t.side
  pub moment : s.moment ≡ t.moment
  pub reading : s.line.reading ≡ t.line.reading
  pub event : s.line.event ≡ t.line.event

pub same_step : (s : Step) → IsSame s s
same_step s = record { side = refl; moment = refl; reading = refl; event = refl }

pub same_over : (s t u : Step) → IsSame s t → IsSame t u → IsSame s u
same_over s t u a b = record {
  side = a.side ∙ b.side;
  moment = a.moment ∙ b.moment;
  reading = a.reading ∙ b.reading;
  event = a.event ∙ b.event;
}

-- a step that stood at a place, the same as a step
abbrev pub Stood : List Step → ℕ → Step → Type 0
Stood old j s = (t : Step) × At old j t × IsSame s t

-- the place of a step in the new run
abbrev pub Stays : (ℕ → ℕ) → List Step → ℕ → Step → Type 0
Stays to new j t = (i : ℕ) × (s : Step) × At new i s × (j ≡ to i) × IsSame s t

-- The new run is the old one without some lines of the side, at most `less` and among them at most `shut` close lines;
-- no grant, release or sent message is left out.
pub record Thins (side : Role) (shut less : ℕ) (old new : List Step) : Type 0 where
  -- where a step of the new run stood
  pub to : ℕ → ℕ
  pub rising : (i j : ℕ) → i < j → to i < to j
  pub stood : (i : ℕ) (s : Step) → At new i s → Stood old (to i) s
  pub stays : (j : ℕ) (t : Step) → At old j t → tells t.line.event ≡ true → Stays to new j t
  pub shuts : (i : ℕ) → closes side old (to i) ≤ closes side new i + shut
  pub counts : (i : ℕ) → count side old (to i) ≤ count side new i + less
  pub closes_there : (other : Role) → is_side side other ≡ false → (i : ℕ)
      → closes other old (to i) ≡ closes other new i
  pub count_there : (other : Role) → is_side side other ≡ false → (i : ℕ)
      → count other old (to i) ≡ count other new i

-- ---- a run itself

pub itself : (side : Role) (run : List Step) → Thins side 0 0 run run
itself side run = record {
  to = λ i. i;
  rising = λ i j lt. lt;
  stood = λ i s at. (s, at, same_step s);
  stays = λ j t at tells. (j, t, at, refl, same_step t);
  shuts = λ i. omega arith;
  counts = λ i. omega arith;
  closes_there = λ other not i. refl;
  count_there = λ other not i. refl;
}

-- ---- one after the other

module _ (side : Role) (shut less shut' less' : ℕ) (old mid new : List Step) (f : Thins side shut less old mid)
    (g : Thins side shut' less' mid new) where
  stood_over : (i : ℕ) (s : Step) → At new i s → Stood old (f.to (g.to i)) s
  stood_over i s at =
      let m = g.stood i s at in
      let o = f.stood (g.to i) m.0 m.1 in
      (o.0, o.1, same_over s m.0 o.0 m.2 o.2)

  stays_over : (j : ℕ) (t : Step) → At old j t → tells t.line.event ≡ true → Stays (λ i. f.to (g.to i)) new j t
  stays_over j t at told =
      let m = f.stays j t at told in
      let n = g.stays m.0 m.1 m.2 (ap tells m.4.event ∙ told) in
      (n.0, n.1, n.2, m.3 ∙ ap f.to n.3, same_over n.1 m.1 t n.4 m.4)

  pub both : Thins side (shut' + shut) (less' + less) old new
  both = record {
    to = λ i. f.to (g.to i);
    rising = λ i j lt. f.rising (g.to i) (g.to j) (g.rising i j lt);
    stood = stood_over;
    stays = stays_over;
    shuts = λ i. (let a = f.shuts (g.to i) in let b = g.shuts i in omega arith);
    counts = λ i. (let a = f.counts (g.to i) in let b = g.counts i in omega arith);
    closes_there = λ other not i. f.closes_there other not (g.to i) ∙ g.closes_there other not i;
    count_there = λ other not i. f.count_there other not (g.to i) ∙ g.count_there other not i;
  }

-- ---- one step more in front of both

abbrev pub lifted : (ℕ → ℕ) → ℕ → ℕ
lifted f zero = zero
lifted f (suc i) = suc (f i)

lifted_rises : (f : ℕ → ℕ) → ((i j : ℕ) → i < j → f i < f j) → (i j : ℕ) → i < j → lifted f i < lifted f j
lifted_rises f h zero zero lt = absurd (omega arith)
lifted_rises f h zero (suc j) lt = omega arith
lifted_rises f h (suc i) zero lt = absurd (omega arith)
lifted_rises f h (suc i) (suc j) lt = let r = h i j (omega arith) in omega arith

same_at : (s t u : Step) → t ≡ u → IsSame s t → IsSame s u
same_at s t u e h = subst (λ x. IsSame s x) e h

module _ (side : Role) (shut less : ℕ) (old new : List Step) (f : Thins side shut less old new) (s t : Step)
    (same : IsSame s t) where
  closed_alike : (x : Role) → one_if (is_side x t.side && is_close t.line.event)
      ≡ one_if (is_side x s.side && is_close s.line.event)
  closed_alike x = ap (λ z. one_if (is_side x z && is_close t.line.event)) (sym same.side)
      ∙ ap (λ z. one_if (is_side x s.side && is_close z)) (sym same.event)

  counted_alike : (x : Role) → one_if (is_side x t.side) ≡ one_if (is_side x s.side)
  counted_alike x = ap (λ z. one_if (is_side x z)) (sym same.side)

  stood_more : (i : ℕ) (u : Step) → At (s ∷ new) i u → Stood (t ∷ old) (lifted f.to i) u
  stood_more zero u at = let e : s ≡ u = cc in (t, refl, subst (λ x. IsSame x t) e same)
  stood_more (suc i) u at = f.stood i u at

  stays_more : (j : ℕ) (u : Step) → At (t ∷ old) j u → tells u.line.event ≡ true
      → Stays (lifted f.to) (s ∷ new) j u
  stays_more zero u at told = let e : t ≡ u = cc in (0, s, refl, refl, same_at s t u e same)
  stays_more (suc j) u at told = let r = f.stays j u at told in (suc r.0, r.1, r.2, ap suc r.3, r.4)

  shuts_more : (i : ℕ) → closes side (t ∷ old) (lifted f.to i) ≤ closes side (s ∷ new) i + shut
  shuts_more zero = omega arith
  shuts_more (suc i) = let r = f.shuts i in let e = closed_alike side in omega arith

  counts_more : (i : ℕ) → count side (t ∷ old) (lifted f.to i) ≤ count side (s ∷ new) i + less
  counts_more zero = omega arith
  counts_more (suc i) = let r = f.counts i in let e = counted_alike side in omega arith

  closes_there_more : (x : Role) → is_side side x ≡ false → (i : ℕ)
      → closes x (t ∷ old) (lifted f.to i) ≡ closes x (s ∷ new) i
  closes_there_more x not zero = refl
  closes_there_more x not (suc i) = let r = f.closes_there x not i in let e = closed_alike x in omega arith

  count_there_more : (x : Role) → is_side side x ≡ false → (i : ℕ)
      → count x (t ∷ old) (lifted f.to i) ≡ count x (s ∷ new) i
  count_there_more x not zero = refl
  count_there_more x not (suc i) = let r = f.count_there x not i in let e = counted_alike x in omega arith

  pub with_step : Thins side shut less (t ∷ old) (s ∷ new)
  with_step = record {
    to = lifted f.to;
    rising = lifted_rises f.to f.rising;
    stood = stood_more;
    stays = stays_more;
    shuts = shuts_more;
    counts = counts_more;
    closes_there = closes_there_more;
    count_there = count_there_more;
  }

-- ---- a step of the side more in front of the old one

pub other_side : (side x : Role) → is_side side x ≡ false → is_side x side ≡ false
other_side Primary Primary h = absurd (cc)
other_side Primary Secondary h = refl
other_side Secondary Primary h = refl
other_side Secondary Secondary h = absurd (cc)

module _ (side : Role) (shut less : ℕ) (old new : List Step) (f : Thins side shut less old new) (t : Step)
    (mine : is_side side t.side ≡ true) (told : tells t.line.event ≡ false) where
  of_side : t.side ≡ side
  of_side = side_same side t.side mine

  not_there : (x : Role) → is_side side x ≡ false → is_side x t.side ≡ false
  not_there x not = ap (is_side x) of_side ∙ other_side side x not

  stays_on : (j : ℕ) (u : Step) → At (t ∷ old) j u → tells u.line.event ≡ true → Stays (λ i. suc (f.to i)) new j u
  stays_on zero u at say = let e : t ≡ u = cc in
      let g : tells t.line.event ≡ true = subst (λ (x : Step). tells x.line.event ≡ true) (sym e) say in absurd (cc)
  stays_on (suc j) u at say = let r = f.stays j u at say in (r.0, r.1, r.2, ap suc r.3, r.4)

  counts_on : (i : ℕ) → count side (t ∷ old) (suc (f.to i)) ≤ count side new i + suc less
  counts_on i = let r = f.counts i in
      let e : one_if (is_side side t.side) ≡ 1 = rw mine refl in omega arith

  closes_there_on : (x : Role) → is_side side x ≡ false → (i : ℕ) → closes x (t ∷ old) (suc (f.to i)) ≡ closes x new i
  closes_there_on x not i = let r = f.closes_there x not i in
      let e : one_if (is_side x t.side && is_close t.line.event) ≡ 0 = rw (not_there x not) refl in omega arith

  count_there_on : (x : Role) → is_side side x ≡ false → (i : ℕ) → count x (t ∷ old) (suc (f.to i)) ≡ count x new i
  count_there_on x not i = let r = f.count_there x not i in
      let e : one_if (is_side x t.side) ≡ 0 = rw (not_there x not) refl in omega arith

  -- that is no close line
  pub without : is_close t.line.event ≡ false → Thins side shut (suc less) (t ∷ old) new
  without open_on = record {
    to = λ i. suc (f.to i);
    rising = λ i j lt. (let r = f.rising i j lt in omega arith);
    stood = f.stood;
    stays = stays_on;
    shuts = λ i. (let r = f.shuts i in
        let e : one_if (is_side side t.side && is_close t.line.event) ≡ 0 = rw (mine, open_on) refl in
        omega arith);
    counts = counts_on;
    closes_there = closes_there_on;
    count_there = count_there_on;
  }

  -- that is one
  pub without_close : is_close t.line.event ≡ true → Thins side (suc shut) (suc less) (t ∷ old) new
  without_close shut_on = record {
    to = λ i. suc (f.to i);
    rising = λ i j lt. (let r = f.rising i j lt in omega arith);
    stood = f.stood;
    stays = stays_on;
    shuts = λ i. (let r = f.shuts i in
        let e : one_if (is_side side t.side && is_close t.line.event) ≡ 1 = rw (mine, shut_on) refl in
        omega arith);
    counts = counts_on;
    closes_there = closes_there_on;
    count_there = count_there_on;
  }
