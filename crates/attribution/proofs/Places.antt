-- Where the lines of a side's volumes stand in a run.
use Rattle.std.specs.Prelude.{◌≡◌, ℕ, ◌+◌, ◌<◌, ◌≤◌, ◌&&◌, Bool, true, false, List, [], ◌∷◌, Some, slice_get, map}
use Rattle.std.specs.Prelude.{filter, length, if◌then◌else◌}
use Rattle.std.proofs.Common.{zero, suc, arith, sym, ◌∙◌, ap, subst, inl, inr, refl}
use Rattle.std.proofs.lemmas.Bool.{cases_lt}
use Rattle.binding_rules.specs.declared.role.Role.{Role}
use Rattle.binding_rules.specs.Role.{is_side}
use Rattle.journal_lines.specs.declared.line.Line.{Line}
use Rattle.journal_lines.specs.Close.{is_close, until_close}
use Rattle.causal_order.proofs.Deciding.{decides_side}
use Rattle.attribution.specs.Volumes.{past_close, volume_at, volumes_in}
use Rattle.attribution.specs.Run.{Step, lines_of, At, closes}
use Rattle.attribution.specs.Laws.{count, start, Stands}

-- how many of the first k lines close
abbrev pub closes_in : List Line → ℕ → ℕ
closes_in [] k = 0
closes_in (l ∷ ls) zero = 0
closes_in (l ∷ ls) (suc k) = (if is_close l.event then 1 else 0) + closes_in ls k

pub side_same : (a b : Role) → is_side a b ≡ true → b ≡ a
side_same a b h = (decides_side a b).0 h

pub side_refl : (a : Role) → is_side a a ≡ true
side_refl a = (decides_side a a).1 refl

-- Runs and lines.
abbrev pub IsPlaced : List Step → Role → ℕ → Line → Type 0
IsPlaced run side g l = (i : ℕ) × (s : Step) × At run i s × (s.side ≡ side) × (count side run i ≡ g) × (s.line ≡ l)

place_by : (s : Step) (ss : List Step) (side : Role) (l : Line)
    → ((g : ℕ) → slice_get (lines_of side ss) g ≡ Some l → IsPlaced ss side g l)
    → (b : Bool) → is_side side s.side ≡ b → (g : ℕ)
    → slice_get (map (λ x. x.line) (if b then s ∷ filter (λ x. is_side side x.side) ss else filter
    (λ x. is_side side x.side) ss)) g ≡ Some l
    → IsPlaced (s ∷ ss) side g l
place_by s ss side l rest true e zero h = (0, s, refl, side_same side s.side e, refl, cc)
place_by s ss side l rest true e (suc g) h =
    let r = rest g h in
    (suc r.0, r.1, r.2, r.3, rw e (let x = r.4 in omega arith), r.5)
place_by s ss side l rest false e g h =
    let r = rest g h in
    (suc r.0, r.1, r.2, r.3, rw e (let x = r.4 in omega arith), r.5)

pub place : (run : List Step) (side : Role) (g : ℕ) (l : Line) → slice_get (lines_of side run) g ≡ Some l
    → IsPlaced run side g l
place [] side g l h = absurd (cc)
place (s ∷ ss) side g l h = place_by s ss side l (λ n p. place ss side n l p) (is_side side s.side) refl g h

line_by : (s : Step) (ss : List Step) (side : Role) (l : Line) (n : ℕ) (b : Bool)
    → slice_get (lines_of side ss) n ≡ Some l
    → slice_get (map (λ x. x.line) (if b then s ∷ filter (λ x. is_side side x.side) ss else filter
    (λ x. is_side side x.side) ss)) ((if b then 1 else 0) + n) ≡ Some l
line_by s ss side l n true h = let e : 1 + n ≡ suc n = omega arith in rw e h
line_by s ss side l n false h = let e : 0 + n ≡ n = omega arith in rw e h

pub line_at : (run : List Step) (side : Role) (i : ℕ) (s : Step) → At run i s → s.side ≡ side
    → slice_get (lines_of side run) (count side run i) ≡ Some s.line
line_at [] side i s at of = absurd (cc)
line_at (t ∷ ts) side zero s at of =
    let e : t ≡ s = cc in
    let q : is_side side t.side ≡ true = subst (λ (x : Role). is_side side x ≡ true)
    (sym (ap (λ (x : Step). x.side) e ∙ of)) (side_refl side) in
    rw q (ap (λ (x : Step). Some x.line) e)
line_at (t ∷ ts) side (suc i) s at of =
    line_by t ts side s.line (count side ts i) (is_side side t.side) (line_at ts side i s at of)

none_in : (ls : List Line) → closes_in ls 0 ≡ 0
none_in [] = refl
none_in (l ∷ ls) = refl

closes_by : (s : Step) (ss : List Step) (side : Role) (n : ℕ) (b : Bool)
    → closes side ss n ≡ closes_in (lines_of side ss) (count side ss n)
    → (if b && is_close s.line.event then 1 else 0) + closes side ss n
    ≡ closes_in (map (λ x. x.line) (if b then s ∷ filter (λ x. is_side side x.side) ss else filter
    (λ x. is_side side x.side) ss)) ((if b then 1 else 0) + count side ss n)
closes_by s ss side n true h = let e : 1 + count side ss n ≡ suc (count side ss n) = omega arith in
    rw e (ap (λ k. (if is_close s.line.event then 1 else 0) + k) h)
closes_by s ss side n false h = let e : 0 + count side ss n ≡ count side ss n = omega arith in
    rw e (let x = h in omega arith)

pub closes_are : (run : List Step) (side : Role) (i : ℕ) → closes side run i
    ≡ closes_in (lines_of side run) (count side run i)
closes_are [] side i = refl
closes_are (s ∷ ss) side zero = sym (none_in (lines_of side (s ∷ ss)))
closes_are (s ∷ ss) side (suc i) = closes_by s ss side i (is_side side s.side) (closes_are ss side i)

-- how many come before does not fall, and grows past a step of the side
pub count_le : (side : Role) (run : List Step) (i j : ℕ) → i ≤ j → count side run i ≤ count side run j
count_le side [] i j h = omega arith
count_le side (s ∷ ss) zero j h = omega arith
count_le side (s ∷ ss) (suc i) zero h = absurd (omega arith)
count_le side (s ∷ ss) (suc i) (suc j) h = let r = count_le side ss i j (omega arith) in omega arith

pub count_lt : (side : Role) (run : List Step) (i j : ℕ) (s : Step) → At run i s → s.side ≡ side → i < j
    → count side run i < count side run j
count_lt side [] i j s at of lt = absurd (cc)
count_lt side (t ∷ ts) i zero s at of lt = absurd (omega arith)
count_lt side (t ∷ ts) zero (suc j) s at of lt =
    let e : t ≡ s = cc in
    let q : is_side side t.side ≡ true = subst (λ (x : Role). is_side side x ≡ true)
    (sym (ap (λ (x : Step). x.side) e ∙ of)) (side_refl side) in
    rw q (omega arith)
count_lt side (t ∷ ts) (suc i) (suc j) s at of lt = let r = count_lt side ts i j s at of (omega arith) in omega arith

pub closes_le : (side : Role) (run : List Step) (i j : ℕ) → i ≤ j → closes side run i ≤ closes side run j
closes_le side [] i j h = omega arith
closes_le side (s ∷ ss) zero j h = omega arith
closes_le side (s ∷ ss) (suc i) zero h = absurd (omega arith)
closes_le side (s ∷ ss) (suc i) (suc j) h = let r = closes_le side ss i j (omega arith) in omega arith

-- what stands in an earlier volume stands earlier
pub earlier_volume : (side : Role) (run : List Step) (i j : ℕ) → closes side run i < closes side run j → i < j
earlier_volume side run i j lt = elim (cases_lt i j) [
  | inl h ↦ h
  | inr h ↦ (let x = closes_le side run j i h in absurd (omega arith))
]

-- Lines and volumes. The first volume:
until_by : (x l : Line) (rest : List Line) (b : Bool) → is_close x.event ≡ b
    → ((k : ℕ) → slice_get (until_close rest) k ≡ Some l → (slice_get rest k ≡ Some l) × (closes_in rest k ≡ 0))
    → (k : ℕ) → slice_get (if b then x ∷ [] else x ∷ until_close rest) k ≡ Some l
    → (slice_get (x ∷ rest) k ≡ Some l) × (closes_in (x ∷ rest) k ≡ 0)
until_by x l rest true e h zero at = (cc, refl)
until_by x l rest true e h (suc k) at = absurd (cc)
until_by x l rest false e h zero at = (cc, refl)
until_by x l rest false e h (suc k) at = let r = h k at in (r.0, rw e (let y = r.1 in omega arith))

until_at : (ls : List Line) (k : ℕ) (l : Line) → slice_get (until_close ls) k ≡ Some l
    → (slice_get ls k ≡ Some l) × (closes_in ls k ≡ 0)
until_at [] k l h = absurd (cc)
until_at (x ∷ xs) k l h = until_by x l xs (is_close x.event) refl (λ n p. until_at xs n l p) k h

at_until_by : (x l : Line) (rest : List Line) (k : ℕ) (b : Bool) → (if b then 1 else 0) + closes_in rest k ≡ 0
    → (closes_in rest k ≡ 0 → slice_get (until_close rest) k ≡ Some l)
    → slice_get (if b then x ∷ [] else x ∷ until_close rest) (suc k) ≡ Some l
at_until_by x l rest k true none h = absurd (omega arith)
at_until_by x l rest k false none h = h (omega arith)

first_until : (x : Line) (rest : List Line) (b : Bool) → slice_get (if b then x ∷ [] else x ∷ until_close rest) 0
    ≡ Some x
first_until x rest true = refl
first_until x rest false = refl

at_until : (ls : List Line) (k : ℕ) (l : Line) → slice_get ls k ≡ Some l → closes_in ls k ≡ 0
    → slice_get (until_close ls) k ≡ Some l
at_until [] k l h none = absurd (cc)
at_until (x ∷ xs) zero l h none = first_until x xs (is_close x.event) ∙ h
at_until (x ∷ xs) (suc k) l h none = at_until_by x l xs k (is_close x.event) none (λ n. at_until xs k l h n)

-- and those after it
Past : Line → List Line → (until past : List Line) → Type 0
Past l ls until past = (k : ℕ) → slice_get past k ≡ Some l → (slice_get ls (length until + k) ≡ Some l)
    × (closes_in ls (length until + k) ≡ 1 + closes_in past k)

past_by : (x l : Line) (rest : List Line) (b : Bool) → is_close x.event ≡ b
    → Past l rest (until_close rest) (past_close rest)
    → Past l (x ∷ rest) (if b then x ∷ [] else x ∷ until_close rest) (if b then rest else past_close rest)
unfolding Past
past_by x l rest true e h k at = let n : length (x ∷ []) + k ≡ suc k = omega arith in (rw n at, rw (n, e) refl)
past_by x l rest false e h k at =
    let r = h k at in
    let n : length (x ∷ until_close rest) + k ≡ suc (length (until_close rest) + k) = omega arith in
    (rw n r.0, rw (n, e) (let y = r.1 in omega arith))

past_at : (ls : List Line) (l : Line) → Past l ls (until_close ls) (past_close ls)
unfolding Past
past_at [] l k h = absurd (cc)
past_at (x ∷ xs) l k h = past_by x l xs (is_close x.event) refl (past_at xs l) k h

AtPast : Line → (g n : ℕ) → (until past : List Line) → Type 0
AtPast l g n until past = (k : ℕ) × (g ≡ length until + k) × (slice_get past k ≡ Some l) × (closes_in past k ≡ n)

at_past_by : (x l : Line) (rest : List Line) (g n : ℕ) (b : Bool) → slice_get rest g ≡ Some l
    → (if b then 1 else 0) + closes_in rest g ≡ suc n
    → (closes_in rest g ≡ suc n → AtPast l g n (until_close rest) (past_close rest))
    → AtPast l (suc g) n (if b then x ∷ [] else x ∷ until_close rest) (if b then rest else past_close rest)
unfolding AtPast
at_past_by x l rest g n true at count h = (g, omega arith, at, omega arith)
at_past_by x l rest g n false at count h = let r = h (omega arith) in (r.0, (let y = r.1 in omega arith), r.2, r.3)

at_past : (ls : List Line) (g n : ℕ) (l : Line) → slice_get ls g ≡ Some l → closes_in ls g ≡ suc n
    → AtPast l g n (until_close ls) (past_close ls)
unfolding AtPast
at_past [] g n l at count = absurd (cc)
at_past (x ∷ xs) zero n l at count = absurd (omega arith)
at_past (x ∷ xs) (suc g) n l at count = at_past_by x l xs g n (is_close x.event) at count (λ c. at_past xs g n l at c)

-- Any volume.
pub in_volume : (n : ℕ) (ls : List Line) (k : ℕ) (l : Line) → slice_get (volume_at n ls) k ≡ Some l
    → (slice_get ls (start n ls + k) ≡ Some l) × (closes_in ls (start n ls + k) ≡ n)
unfolding Past
in_volume zero ls k l h = let e : 0 + k ≡ k = omega arith in rw e (until_at ls k l h)
in_volume (suc n) ls k l h =
    let r = in_volume n (past_close ls) k l h in
    let p = past_at ls l (start n (past_close ls) + k) r.0 in
    let e : (length (until_close ls) + start n (past_close ls)) + k
    ≡ length (until_close ls) + (start n (past_close ls) + k) = omega arith in
    (rw e p.0, rw e (let x = p.1 in let y = r.1 in omega arith))

at_volume : (n : ℕ) (ls : List Line) (g : ℕ) (l : Line) → slice_get ls g ≡ Some l → closes_in ls g ≡ n
    → (k : ℕ) × (g ≡ start n ls + k) × (slice_get (volume_at n ls) k ≡ Some l)
unfolding AtPast
at_volume zero ls g l h count = (g, omega arith, at_until ls g l h count)
at_volume (suc n) ls g l h count =
    let p = at_past ls g n l h count in
    let r = at_volume n (past_close ls) p.0 l p.2 p.3 in
    (r.0, (let x = p.1 in let y = r.1 in omega arith), r.2)

pub volumes_at : (m : ℕ) (ls : List Line) (n : ℕ) → n < m → slice_get (volumes_in m ls) n ≡ Some (volume_at n ls)
volumes_at zero ls n lt = absurd (omega arith)
volumes_at (suc m) ls zero lt = refl
volumes_at (suc m) ls (suc n) lt = volumes_at m (past_close ls) n (omega arith)

pub volumes_length : (m : ℕ) (ls : List Line) → length (volumes_in m ls) ≡ m
volumes_length zero ls = refl
volumes_length (suc m) ls = let r = volumes_length m (past_close ls) in omega arith

-- each line of a volume stands in the run
pub placed : (run : List Step) (side : Role) (n k : ℕ) (l : Line)
    → slice_get (volume_at n (lines_of side run)) k ≡ Some l
    → (i : ℕ) × (s : Step) × Stands run side n k i s × (s.line ≡ l)
placed run side n k l h =
    let v = in_volume n (lines_of side run) k l h in
    let p = place run side (start n (lines_of side run) + k) l v.0 in (
      p.0,
      p.1,
      record {
        here = p.2;
        of = p.3;
        volume = closes_are run side p.0
            ∙ (ap (closes_in (lines_of side run)) p.4 ∙ v.1);
        place = p.4;
      },
      p.5,
    )

-- each step of the side is a line of a volume
pub standing : (run : List Step) (side : Role) (i : ℕ) (s : Step) → At run i s → s.side ≡ side
    → (k : ℕ) × Stands run side (closes side run i) k i s
    × (slice_get (volume_at (closes side run i) (lines_of side run)) k ≡ Some s.line)
standing run side i s at of =
    let r = at_volume (closes side run i) (lines_of side run) (count side run i) s.line (line_at run side i s at of)
    (sym (closes_are run side i)) in
    (r.0, record { here = at; of = of; volume = refl; place = r.1 }, r.2)

-- of two lines of a volume the one with the smaller number comes first
pub earlier : (run : List Step) (side : Role) (n k m i j : ℕ) (s t : Step) → Stands run side n k i s
    → Stands run side n m j t → k < m → i < j
earlier run side n k m i j s t a b lt = elim (cases_lt i j) [
  | inl h ↦ h
  | inr h ↦ (let r = count_le side run j i h in let x = a.place in let y = b.place in absurd (omega arith))
]

-- a line has one place
pub one_place : (run : List Step) (side : Role) (n k i j : ℕ) (s t : Step) → Stands run side n k i s
    → Stands run side n k j t → i ≡ j
one_place run side n k i j s t a b = elim (cases_lt i j) [
  | inl lt ↦ (let r = count_lt side run i j s a.here a.of lt in let x = a.place in let y = b.place in
      absurd (omega arith))
  | inr le ↦ elim (cases_lt j i) [
    | inl lt ↦ (let r = count_lt side run j i t b.here b.of lt in let x = a.place in let y = b.place in
        absurd (omega arith))
    | inr ge ↦ omega arith
  ]
]
