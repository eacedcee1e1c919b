-- What both units and all that is said of them keep while the unit is marked at neither server, seen from one binding
-- and in plain numbers. The status of a unit, and what a message says: 0 free, 1 free backup, 2 active for the binding,
-- 3 active for another, 4 expired, 5 released. The change that is due: the same (2 for either active), 9 for none.
use Rattle.std.specs.Prelude.{◌≡◌, ℕ, ◌+◌, ◌<◌, ◌≤◌, ◌⊎◌}

-- which change may be due of a unit: none of a free one, active of an active one, and so on
abbrev pub Due : ℕ → ℕ → Type 0
Due s d =
    ((s ≡ 0) × (d ≡ 9))
    ⊎ (((s ≡ 1) × ((d ≡ 9) ⊎ ((d ≡ 1) ⊎ (d ≡ 0))))
    ⊎ (((2 ≤ s) × (s ≤ 3) × ((d ≡ 9) ⊎ (d ≡ 2))) ⊎ ((4 ≤ s) × (s ≤ 5) × (d ≡ s))))

-- the same at the secondary, which moves no unit
abbrev pub DueAtB : ℕ → ℕ → Type 0
DueAtB s d =
    ((s ≡ 0) × (d ≡ 9))
    ⊎ (((s ≡ 1) × (d ≡ 9)) ⊎ (((2 ≤ s) × (s ≤ 3) × ((d ≡ 9) ⊎ (d ≡ 2))) ⊎ ((4 ≤ s) × (s ≤ 5) × (d ≡ s))))

-- a lease of it ended, or the primary asks for it back
abbrev pub Ending : ℕ → ℕ → Type 0
Ending s d = (4 ≤ s) ⊎ (d ≡ 0)

-- the secondary knows that the primary's lease ended
abbrev pub Heard : (sa ma nb : ℕ) → Type 0
Heard sa ma nb = (4 ≤ sa) × (nb ≡ ma)

-- the primary knows that the secondary's lease ended, and what was said with this seen count is from before
abbrev pub Gone : (na sb mb n : ℕ) → Type 0
Gone na sb mb n = (4 ≤ sb) × (na ≡ mb) × (n < mb)

-- Of one server's unit: s the status, m its count, n what it saw of the other's count, d the change that is due, D
-- which change may be due. U c m n: an update says c, with count m and seen count n. R p o: a reply of count p accepts
-- the change of count o.
pub record Own (D : ℕ → ℕ → Type 0) (s m n d : ℕ) (U : ℕ → ℕ → ℕ → Type 0) (R : ℕ → ℕ → Type 0) : Type 0 where
  -- the change that is due is one that the unit's status allows
  pub due : D s d
  -- what was said has counts no greater than the unit's
  pub sent_u : (c k l : ℕ) → U c k l → (k ≤ m) × (l ≤ n)
  pub sent_r : (p o : ℕ) → R p o → (p ≤ m) × (o ≤ n)
  -- since a lease ended nothing was accepted
  pub replies_before : Ending s d → (p o : ℕ) → R p o → p < m
  -- and what is said with the last count is that end
  pub last_word : Ending s d → (c k l : ℕ) → U c k l → k ≡ m → c ≡ d
  -- an update that was said after an acceptance has seen what was accepted
  pub reply_then_update : (c k l p o : ℕ) → U c k l → R p o → p ≤ k → o ≤ l

-- Of the primary's unit (a) and the secondary's (b), by the letters of Own.
pub record Phases (sa ma na da sb mb nb db : ℕ) (UA UB : ℕ → ℕ → ℕ → Type 0) (RA RB : ℕ → ℕ → Type 0) : Type 0 where
  -- what each of the two keeps by itself
  pub a : Own Due sa ma na da UA RA
  pub b : Own DueAtB sb mb nb db UB RB
  -- neither saw more than the other counted
  pub count_a : na ≤ mb
  pub count_b : nb ≤ ma
  -- where the secondary saw that a lease ended at the primary, its unit is free
  pub heard : Ending sa da → nb ≡ ma → sb ≡ 0
  -- what the secondary has to give, the primary has as given to it
  pub b_backup : sb ≡ 1 → sa ≡ 1
  -- what is active at the secondary, the primary has as given to it, as active for the same binding, or as ended
  pub b_active : 2 ≤ sb → sb ≤ 3 → (sa ≡ 1) ⊎ ((sa ≡ sb) ⊎ (4 ≤ sa))
  -- where the secondary says that the unit is active, and that is news, it is so there, or it ended, or that was heard
  pub b_says_active : (c m n : ℕ) → UB c m n → na < m → 2 ≤ c → c ≤ 3 → (sb ≡ c) ⊎ ((4 ≤ sb) ⊎ Heard sa ma nb)
  -- where it says that a lease ended, and that is news, it changed nothing since but to accept the primary's end
  pub b_says_over : (c m n : ℕ) → UB c m n → na < m → 4 ≤ c
      → ((4 ≤ sb) × (mb ≡ m)) ⊎ (Heard sa ma nb × (mb ≡ m + 1))
  -- a free unit at the secondary says nothing new of its last count
  pub b_silent : (c m n : ℕ) → UB c m n → na < m → sb ≡ 0 → m < mb
  -- what the secondary accepted of the primary's end is the last that it did
  pub b_reply_last : (p o : ℕ) → RB p o → o ≡ ma → 4 ≤ sa → p ≡ mb
  -- where the primary says that the unit is active, and that is news, it is so there, or it ended, or that is long gone
  pub a_says_active : (c m n : ℕ) → UA c m n → nb < m → 2 ≤ c → c ≤ 3 → (sa ≡ c) ⊎ ((4 ≤ sa) ⊎ Gone na sb mb n)
  -- where it says that a lease ended, and that is news, that was its last change, or that is long gone
  pub a_says_over : (c m n : ℕ) → UA c m n → nb < m → 4 ≤ c → ((4 ≤ sa) × (ma ≡ m)) ⊎ Gone na sb mb n
  -- what the primary says after such news has seen all of the secondary's changes
  pub a_after_over : (c m n : ℕ) → UA c m n → nb < m → 4 ≤ c
      → (c' m' n' : ℕ) → UA c' m' n' → m < m' → n' ≡ mb
  -- where the primary gives the unit to the secondary, which has changed nothing since, it still does
  pub a_says_backup : (c m n : ℕ) → UA c m n → c ≡ 1 → n ≡ mb → sa ≡ 1
