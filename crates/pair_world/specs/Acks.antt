-- The ends that the servers tell each other while the unit is marked at neither, in the plain numbers of Phases.
use Rattle.std.specs.Prelude.{◌≡◌, ℕ, ◌≤◌, ◌⊎◌}

-- Of one server: s, m and d as in Own, k the end that the other acknowledged, t the end that the other told, e the end
-- that the other is told. U c m n as in Own. E m e: an update says active, with count m and end e.
pub record OwnEnds (s m d k t e : ℕ) (U : ℕ → ℕ → ℕ → Type 0) (E : ℕ → ℕ → Type 0) : Type 0 where
  -- a unit of a pool has no ends
  pub no_ends : s ≤ 1 → (k ≡ 0) × (t ≡ 0)
  -- what is said with the last count, where a change to active is due, is active
  pub last_active : (c n l : ℕ) → U c n l → n ≡ m → d ≡ 2 → (2 ≤ c) × (c ≤ 3)
  -- with the end that the other is told
  pub last_end : (n f : ℕ) → E n f → n ≡ m → d ≡ 2 → f ≡ e
  -- no end was said with a greater count
  pub sent_e : (n f : ℕ) → E n f → n ≤ m

-- Of the primary (a) and the secondary (b), by the letters of OwnEnds.
pub record Acks (sa ma na da ka ta ea sb mb nb db kb tb eb : ℕ) (UA UB : ℕ → ℕ → ℕ → Type 0)
    (EA EB : ℕ → ℕ → Type 0) (RA RB : ℕ → ℕ → Type 0) : Type 0 where
  -- what each of the two keeps by itself
  pub a : OwnEnds sa ma da ka ta ea UA EA
  pub b : OwnEnds sb mb db kb tb eb UB EB
  -- where the unit is active at one and outside the other's pool, what the one has acknowledged the other was told
  pub told_a : 2 ≤ sb → sb ≤ 3 → 1 ≤ sa → kb ≤ ta
  pub told_b : 2 ≤ sa → sa ≤ 3 → (sb ≡ 0) ⊎ (2 ≤ sb) → ka ≤ tb
  -- who accepted the last change to active was told its end
  pub acknowledged_a : (p o : ℕ) → RA p o → o ≡ mb → db ≡ 2 → eb ≤ ta
  pub acknowledged_b : (p o : ℕ) → RB p o → o ≡ ma → da ≡ 2 → ea ≤ tb
  -- a lease that the primary gave since it saw the secondary's end is acknowledged by nothing
  pub new_active : 4 ≤ sb → na ≡ mb → 2 ≤ sa → sa ≤ 3 → ka ≡ 0

-- nobody has yet to hear of a mark: each that was said was seen
pub record Stale (na nb : ℕ) (SA SB : ℕ → Type 0) : Type 0 where
  pub stale_a : (m : ℕ) → SA m → m ≤ nb
  pub stale_b : (m : ℕ) → SB m → m ≤ na
