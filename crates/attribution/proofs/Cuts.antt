-- Legal volumes of which the last is cut behind its opening lines are legal; and where a certificate is accepted, it
-- was.
use Rattle.std.specs.Prelude.{◌≡◌, slice_get, Some, ℕ, ◌+◌, ◌-◌, ◌<◌, ◌≤◌, Bool, true, false, List, [], ◌∷◌, ◌++◌}
use Rattle.std.specs.Prelude.{length, take, if◌then◌else◌}
use Rattle.std.proofs.Common.{zero, suc, arith, sym, ◌∙◌, ap, subst, inl, inr, refl}
use Rattle.std.proofs.lemmas.Bool.{cases_lt}
use Rattle.std.proofs.lemmas.List.{length-append}
use Rattle.std.proofs.lemmas.Option.{slice_get_read}
use Rattle.binding_rules.specs.declared.role.Role.{Role}
use Rattle.binding_rules.specs.declared.role.Role.TheVariants.{Primary, Secondary}
use Rattle.journal_lines.specs.Close.{is_close, until_close}
use Rattle.journal_lines.specs.declared.event.Event.{Event}
use Rattle.journal_lines.specs.declared.line.Line.{Line}
use Rattle.book_state.specs.Book.{BookState, blank}
use Rattle.book_state.specs.Effects.{after}
use Rattle.book_rules.specs.Volumes.{AreSteps, IsVolume, book_after}
use Rattle.book_rules.specs.NextHead.{Follows, AreNextHead, AreVolumes, AreLegal, head_events, head_lines, is_head}
use Rattle.book_rules.specs.NextHead.{lines_from}
use Rattle.causal_order.specs.Journals.{Volume, volume_of}
use Rattle.attribution.specs.Volumes.{past_close, volume_at, volumes_in}
use Rattle.attribution.specs.Run.{Step, lines_of, IsWithin}
use Rattle.attribution.specs.Laws.{count, start}
use Rattle.attribution.specs.Acceptance.{ClosesFrom}
use Rattle.attribution.specs.Snapshot.{close_behind, closed_from, closed_now, read_of, IsRead, Begins, SnapshotsAreTrue}
use Rattle.attribution.specs.Snapshot.{SnapshotsAreTrueInRuns}
use Rattle.attribution.proofs.Lawful.{follows_at, opens_at, in_left_at}
use Rattle.attribution.proofs.Places.{closes_in, closes_are, volumes_at}

abbrev no_lines : List Line
no_lines = []

take_none : (m : ℕ) → take m no_lines ≡ no_lines
take_none zero = refl
take_none (suc m) = refl

-- Behind the first volume the cut cuts the rest.
until_take_by : (x : Line) (xs : List Line) (m : ℕ) (b : Bool)
    → until_close (take (length (until_close xs) + m) xs) ≡ until_close xs
    → is_close x.event ≡ b → until_close (take (length (if b then x ∷ [] else x ∷ until_close xs) + m) (x ∷ xs))
    ≡ (if b then x ∷ [] else x ∷ until_close xs)
until_take_by x xs m true h e = let n : length (x ∷ []) + m ≡ suc m = omega arith in rw (n, e) refl
until_take_by x xs m false h e = let n : length (x ∷ until_close xs) + m ≡ suc (length (until_close xs) + m) =
    omega arith in rw (n, e) (ap (λ ls. x ∷ ls) h)

until_take : (ls : List Line) (m : ℕ) → until_close (take (length (until_close ls) + m) ls) ≡ until_close ls
until_take [] m = ap until_close (take_none (0 + m))
until_take (x ∷ xs) m = until_take_by x xs m (is_close x.event) (until_take xs m) refl

past_take_by : (x : Line) (xs : List Line) (m : ℕ) (b : Bool)
    → past_close (take (length (until_close xs) + m) xs) ≡ take m (past_close xs)
    → is_close x.event ≡ b → past_close (take (length (if b then x ∷ [] else x ∷ until_close xs) + m) (x ∷ xs))
    ≡ take m (if b then xs else past_close xs)
past_take_by x xs m true h e = let n : length (x ∷ []) + m ≡ suc m = omega arith in rw (n, e) refl
past_take_by x xs m false h e = let n : length (x ∷ until_close xs) + m ≡ suc (length (until_close xs) + m) =
    omega arith in rw (n, e) h

past_take : (ls : List Line) (m : ℕ) → past_close (take (length (until_close ls) + m) ls) ≡ take m (past_close ls)
past_take [] m = ap past_close (take_none (0 + m)) ∙ sym (take_none m)
past_take (x ∷ xs) m = past_take_by x xs m (is_close x.event) (past_take xs m) refl

-- In the last volume it leaves the beginning.
none_left : (a b : List Line) → [] ≡ a ++ b → a ≡ []
none_left [] b h = refl
none_left (x ∷ a) b h = absurd (cc)

take_until_by : (x p : Line) (xs ps rest : List Line) (b : Bool) → is_close x.event ≡ b
    → (until_close xs ≡ ps ++ rest → until_close (take (length ps) xs) ≡ ps)
    → (if b then x ∷ [] else x ∷ until_close xs) ≡ p ∷ (ps ++ rest) → until_close (x ∷ take (length ps) xs) ≡ p ∷ ps
take_until_by x p xs ps rest true e h is =
    let a : x ≡ p = cc in
    let n : [] ≡ ps ++ rest = cc in
    let z : ps ≡ [] = none_left ps rest n in
    rw (e, z) (ap (λ y. y ∷ []) a)
take_until_by x p xs ps rest false e h is =
    let a : x ≡ p = cc in
    let n : until_close xs ≡ ps ++ rest = cc in
    rw (e, a) (ap (λ ls. p ∷ ls) (h n))

take_until : (ls begin rest : List Line) → until_close ls ≡ begin ++ rest → until_close (take (length begin) ls) ≡ begin
take_until ls [] rest h = refl
take_until [] (p ∷ ps) rest h = absurd (cc)
take_until (x ∷ xs) (p ∷ ps) rest h = take_until_by x p xs ps rest (is_close x.event) refl
    (λ g. take_until xs ps rest g) h

-- how many lines there are up to the cut
abbrev pub cut_at : ℕ → List Line → List Line → ℕ
cut_at n ls begin = start n ls + length begin

cut_zero : (ls begin : List Line) → cut_at 0 ls begin ≡ length begin
cut_zero ls begin = omega arith

cut_next : (n : ℕ) (ls begin : List Line) → cut_at (suc n) ls begin
    ≡ length (until_close ls) + cut_at n (past_close ls) begin
cut_next n ls begin = omega arith

pub volume_cut : (n : ℕ) (ls begin rest : List Line) → volume_at n ls ≡ begin ++ rest
    → volume_at n (take (cut_at n ls begin) ls) ≡ begin
volume_cut zero ls begin rest h = rw (cut_zero ls begin) (take_until ls begin rest h)
volume_cut (suc n) ls begin rest h = rw (cut_next n ls begin)
    (ap (volume_at n) (past_take ls (cut_at n (past_close ls) begin)) ∙ volume_cut n (past_close ls) begin rest h)

-- What is left is legal.
steps_cut : (b : BookState) (begin rest : List Line) → AreSteps b (begin ++ rest) → AreSteps b begin
steps_cut b [] rest h = tt
steps_cut b (l ∷ ls) rest h = (h.0, steps_cut (after b l) ls rest h.1)

AreCut : Role → (number n : ℕ) (ls begin : List Line) → Type 0
AreCut side number n ls begin = AreVolumes side number (volumes_in (suc n) (take (cut_at n ls begin) ls))
    × (head_lines (until_close (take (cut_at n ls begin) ls)) ≡ head_lines (until_close ls))

volumes_cut : (side : Role) (number n : ℕ) (ls begin rest : List Line) → volume_at n ls ≡ begin ++ rest
    → head_lines begin ≡ head_lines (begin ++ rest) → AreVolumes side number (volumes_in (suc n) ls)
    → AreCut side number n ls begin
unfolding AreCut
volumes_cut side number zero ls begin rest h headed legal =
    let e : until_close (take (cut_at zero ls begin) ls) ≡ begin = volume_cut zero ls begin rest h in (
      subst (IsVolume side number) (sym e) (steps_cut (blank side number) begin rest
          (subst (IsVolume side number) h legal)),
      ap head_lines e ∙ (headed ∙ ap head_lines (sym h)),
    )
volumes_cut side number (suc n) ls begin rest h headed legal =
    let m = cut_at n (past_close ls) begin in
    let cut = take (cut_at (suc n) ls begin) ls in
    let u : until_close cut ≡ until_close ls = rw (cut_next n ls begin) (until_take ls m) in
    let q : past_close cut ≡ take m (past_close ls) = rw (cut_next n ls begin) (past_take ls m) in
    let r = volumes_cut side (number + 1) n (past_close ls) begin rest h headed legal.2 in
    let f : Follows side number (until_close ls) (until_close (take m (past_close ls))) =
    subst (λ head. AreNextHead (book_after (blank side number) (until_close ls)) (until_close ls) head)
    (sym r.1) legal.1 in
    let all : IsVolume side number (until_close ls)
    × Follows side number (until_close ls) (until_close (take m (past_close ls)))
    × AreVolumes side (number + 1) (volumes_in (suc n) (take m (past_close ls))) = (legal.0, f, r.0) in (
      subst (λ v. IsVolume side number v × Follows side number v (until_close (past_close cut))
          × AreVolumes side (number + 1) (volumes_in (suc n) (past_close cut))) (sym u)
          (subst (λ rest. IsVolume side number (until_close ls)
          × Follows side number (until_close ls) (until_close rest)
          × AreVolumes side (number + 1) (volumes_in (suc n) rest)) (sym q) all),
      ap head_lines u,
    )

-- a first volume may be cut anywhere
volumes_cut_of : (side : Role) (n : ℕ) (ls begin rest : List Line) → volume_at n ls ≡ begin ++ rest
    → (0 < n → head_lines begin ≡ head_lines (begin ++ rest)) → AreLegal side (volumes_in (suc n) ls)
    → AreLegal side (volumes_in (suc n) (take (cut_at n ls begin) ls))
unfolding AreCut
volumes_cut_of side zero ls begin rest h headed legal =
    subst (IsVolume side 1) (sym (volume_cut zero ls begin rest h))
    (steps_cut (blank side 1) begin rest (subst (IsVolume side 1) h legal))
volumes_cut_of side (suc n) ls begin rest h headed legal =
    (volumes_cut side 1 (suc n) ls begin rest h (headed (omega arith)) legal).0

-- Lines up to the cut are of these volumes.
within_first_by : (x : Line) (xs : List Line) (g : ℕ) (b : Bool) → (g < length (until_close xs) → closes_in xs g ≡ 0)
    → suc g < length (if b then x ∷ [] else x ∷ until_close xs) → (if b then 1 else 0) + closes_in xs g ≡ 0
within_first_by x xs g true h lt = absurd (omega arith)
within_first_by x xs g false h lt = let r = h (omega arith) in omega arith

within_first : (ls : List Line) (g : ℕ) → g < length (until_close ls) → closes_in ls g ≡ 0
within_first [] g lt = absurd (omega arith)
within_first (x ∷ xs) zero lt = refl
within_first (x ∷ xs) (suc g) lt = within_first_by x xs g (is_close x.event) (λ h. within_first xs g h) lt

past_first_by : (x : Line) (xs : List Line) (k : ℕ) (b : Bool) → is_close x.event ≡ b
    → closes_in xs (length (until_close xs) + k) ≤ 1 + closes_in (past_close xs) k
    → closes_in (x ∷ xs) (length (if b then x ∷ [] else x ∷ until_close xs) + k)
    ≤ 1 + closes_in (if b then xs else past_close xs) k
past_first_by x xs k true e h = let n : length (x ∷ []) + k ≡ suc k = omega arith in rw (n, e) (omega arith)
past_first_by x xs k false e h = let n : length (x ∷ until_close xs) + k ≡ suc (length (until_close xs) + k) =
    omega arith in rw (n, e) (omega arith)

past_first : (ls : List Line) (k : ℕ) → closes_in ls (length (until_close ls) + k) ≤ 1 + closes_in (past_close ls) k
past_first [] k = omega arith
past_first (x ∷ xs) k = past_first_by x xs k (is_close x.event) refl (past_first xs k)

pub within_cut : (n : ℕ) (ls : List Line) (g : ℕ) → g < start n ls + length (volume_at n ls) → closes_in ls g ≤ n
within_cut zero ls g lt = let r = within_first ls g (omega arith) in omega arith
within_cut (suc n) ls g lt = elim (cases_lt g (length (until_close ls))) [
  | inl h ↦ (let r = within_first ls g h in omega arith)
  | inr ge ↦ (
      let k = g - length (until_close ls) in
      let e : length (until_close ls) + k ≡ g = omega arith in
      let r = within_cut n (past_close ls) k (omega arith) in
      let p = past_first ls k in
      let same : closes_in ls (length (until_close ls) + k) ≡ closes_in ls g = ap (closes_in ls) e in
      omega arith)
]

-- ---- what is accepted over a later volume shows more of it than its opening lines

lines_read : (es : List Event) (number reading j : ℕ) (x : Line) → slice_get (lines_from number reading es) j ≡ Some x
    → x.reading ≡ reading
lines_read [] number reading j x h = absurd (cc)
lines_read (e ∷ es) number reading zero x h = let same : record { number = number; reading = reading; event = e } ≡ x =
    cc in sym (ap (λ (z : Line). z.reading) same)
lines_read (e ∷ es) number reading (suc j) x h = lines_read es (number + 1) reading j x h

-- where a line has another reading than the opening lines, all of these are there
headed_by : (x : Line) (xs rest : List Line) (reading k : ℕ) (q : Line) (b : Bool)
    → ((j : ℕ) (y : Line) → slice_get (if b then x ∷ head_lines (xs ++ rest) else []) j ≡ Some y → y.reading ≡ reading)
    → slice_get (x ∷ xs) k ≡ Some q → (q.reading ≡ reading → ⊥)
    → ((n : ℕ) → ((j : ℕ) (y : Line) → slice_get (head_lines (xs ++ rest)) j ≡ Some y → y.reading ≡ reading)
    → slice_get xs n ≡ Some q → head_lines xs ≡ head_lines (xs ++ rest))
    → (if b then x ∷ head_lines xs else []) ≡ (if b then x ∷ head_lines (xs ++ rest) else [])
headed_by x xs rest reading k q false all at differs h = refl
headed_by x xs rest reading zero q true all at differs h = let same : x ≡ q = cc in
    absurd (differs (ap (λ (z : Line). z.reading) (sym same) ∙ all 0 x refl))
headed_by x xs rest reading (suc k) q true all at differs h =
    ap (λ ls. x ∷ ls) (h k (λ j y there. all (suc j) y there) at)

headed_of : (begin rest : List Line) (reading k : ℕ) (q : Line)
    → ((j : ℕ) (y : Line) → slice_get (head_lines (begin ++ rest)) j ≡ Some y → y.reading ≡ reading)
    → slice_get begin k ≡ Some q → (q.reading ≡ reading → ⊥) → head_lines begin ≡ head_lines (begin ++ rest)
headed_of [] rest reading k q all at differs = absurd (cc)
headed_of (x ∷ xs) rest reading k q all at differs =
    headed_by x xs rest reading k q (is_head x.event) all at differs
    (λ n rule there. headed_of xs rest reading n q rule there differs)

closed_first : (ls : List Line) (l : Line) → slice_get (closed_now ls) 0 ≡ Some l → slice_get ls 0 ≡ Some l
closed_first [] l h = absurd (cc)
closed_first (x ∷ []) l h = h
closed_first (x ∷ y ∷ ys) l h = h

-- each reading of a snapshot is one of what was read
Shows : List Line → ℕ → Type 0
Shows ls reading = (j : ℕ) × (q : Line) × (slice_get ls j ≡ Some q) × (q.reading ≡ reading)

last_shows : (l : Line) (b : Bool) (k : ℕ) (x : Line) → slice_get (l ∷ (if b then [] else close_behind l ∷ [])) k
    ≡ Some x → Shows (l ∷ []) x.reading
unfolding Shows
last_shows l b zero x h = (0, x, h, refl)
last_shows l true (suc k) x h = absurd (cc)
last_shows l false (suc zero) x h = let e : close_behind l ≡ x = cc in (0, l, refl, ap (λ (z : Line). z.reading) e)
last_shows l false (suc (suc k)) x h = absurd (cc)

shows_on : (l : Line) (ls : List Line) (reading : ℕ) → Shows ls reading → Shows (l ∷ ls) reading
unfolding Shows
shows_on l ls reading s = (suc s.0, s.1, s.2, s.3)

from_shows : (l : Line) (ls : List Line) (k : ℕ) (x : Line) → slice_get (closed_from l ls) k ≡ Some x
    → Shows (l ∷ ls) x.reading
unfolding Shows
from_shows l [] k x h = last_shows l (is_close l.event) k x h
from_shows l (m ∷ ms) zero x h = (0, x, h, refl)
from_shows l (m ∷ ms) (suc k) x h = shows_on l (m ∷ ms) x.reading (from_shows m ms k x h)

closed_shows : (ls : List Line) (k : ℕ) (x : Line) → slice_get (closed_now ls) k ≡ Some x → Shows ls x.reading
closed_shows [] k x h = absurd (cc)
closed_shows (l ∷ ls) k x h = from_shows l ls k x h

-- a line that was read later than the first
IsPast : List Line → Type 0
IsPast ls = (l : Line) × (k : ℕ) × (q : Line) × (slice_get ls 0 ≡ Some l) × (slice_get ls k ≡ Some q)
    × (l.reading < q.reading)

past_open : (ls : List Line) (l : Line) (from to skew transit : ℕ) → slice_get (closed_now ls) 0 ≡ Some l
    → l.reading + skew + transit ≤ from → from < to → ClosesFrom (closed_now ls) (to + skew) → IsPast ls
unfolding IsPast Shows
past_open ls l from to skew transit first opened moment closed =
    let found = slice_get_read (closed_now ls) (length (closed_now ls)) closed.1.0 closed.0 refl closed.1.1
    (sym closed.1.2) in
    let s = closed_shows ls closed.1.0 closed.0 found in
    let late = closed.3 in
    let e = s.3 in
    (l, s.0, s.1, closed_first ls l first, s.2, omega arith)

-- so the opening lines that a volume has to have, behind the one before it, were all read
headed_next : (b : BookState) (lines begin rest : List Line) → AreNextHead b lines (head_lines (begin ++ rest))
    → IsPast begin → head_lines begin ≡ head_lines (begin ++ rest)
unfolding IsPast
headed_next b lines begin rest next past =
    let o = opens_at b lines (begin ++ rest) next in
    let first : slice_get (begin ++ rest) 0 ≡ Some past.0 = in_left_at begin rest past.0 0 past.3 in
    let there : slice_get (begin ++ rest) 0 ≡ Some o.0 = o.1 in
    let one : past.0 ≡ o.0 = cc in
    let read : past.0.reading ≡ next.reading = ap (λ (z : Line). z.reading) one ∙ o.2 in
    let later = past.5 in
    headed_of begin rest next.reading past.1 past.2
    (λ j x h. lines_read (head_events b next.carried next.kept) 1 next.reading j x
    (subst (λ hs. slice_get hs j ≡ Some x) next.is h))
    past.4 (λ same. omega arith)

-- ---- runs

abbrev of_sides : ℕ → ℕ → Role → ℕ
of_sides a b Primary = a
of_sides a b Secondary = b

module _ (run : List Step) (side : Role) (v : Volume) (b : Begins run side v) where
  abbrev pub cut_of : ℕ
  cut_of = cut_at b.index (lines_of side run) v.lines

  headed : AreLegal side (volumes_in v.number (lines_of side run)) → 0 < b.index → IsPast v.lines
      → head_lines v.lines ≡ head_lines (v.lines ++ b.rest)
  headed legal lt past =
      let number = b.number in
      let lines = lines_of side run in
      let m = b.index - 1 in
      let e : suc m ≡ b.index = omega arith in
      let next : slice_get (volumes_in v.number lines) (suc m) ≡ Some (volume_at b.index lines) =
      rw e (volumes_at v.number lines b.index (omega arith)) in
      let f = follows_at (volumes_in v.number lines) side 1 legal m (volume_at m lines) (volume_at b.index lines)
      (volumes_at v.number lines m (omega arith)) next in
      headed_next (book_after (blank side (1 + m)) (volume_at m lines)) (volume_at m lines) v.lines b.rest
      (subst (λ w. AreNextHead (book_after (blank side (1 + m)) (volume_at m lines)) (volume_at m lines)
      (head_lines w)) b.lines f) past

  legal_of : AreLegal side (volumes_in v.number (lines_of side run)) → (0 < b.index → IsPast v.lines)
      → AreLegal side (volumes_in v.number (take cut_of (lines_of side run)))
  legal_of legal past =
      let number = b.number in
      let e : v.number ≡ suc b.index = omega arith in
      subst (λ n. AreLegal side (volumes_in n (take cut_of (lines_of side run)))) (sym e)
      (volumes_cut_of side b.index (lines_of side run) v.lines b.rest b.lines (λ lt. headed legal lt (past lt))
      (subst (λ n. AreLegal side (volumes_in n (lines_of side run))) e legal))

  within_of : (g : ℕ) → g < cut_of → closes_in (lines_of side run) g < v.number
  within_of g lt =
      let number = b.number in
      let long : length (volume_at b.index (lines_of side run)) ≡ length v.lines + length b.rest =
      ap length b.lines ∙ length-append v.lines b.rest in
      let r = within_cut b.index (lines_of side run) g (omega arith) in
      omega arith

pub in_runs : SnapshotsAreTrue AreLegal → SnapshotsAreTrueInRuns AreLegal
in_runs law js skew transit c ok run is_run clocks begins_a begins_b starts reaches =
    let number_a = begins_a.number in
    let number_b = begins_b.number in
    let past_a : 0 < begins_a.index → IsPast js.a.lines = λ lt. (let o = ok.opened.interval Primary (omega arith) in
    past_open js.a.lines o.0 c.from c.to skew transit o.1.1 o.2 ok.interval (ok.closed Primary)) in
    let past_b : 0 < begins_b.index → IsPast js.b.lines = λ lt. (let o = ok.opened.interval Secondary (omega arith) in
    past_open js.b.lines o.0 c.from c.to skew transit o.1.1 o.2 ok.interval (ok.closed Secondary)) in
    let read = of_sides (cut_of run Primary js.a begins_a) (cut_of run Secondary js.b begins_b) in
    let bounds : (side : Role) (g : ℕ) → g < read side → closes_in (lines_of side run) g < volume_of js side =
    λ side. elim side as (λ x. (g : ℕ) → g < read x → closes_in (lines_of x run) g < volume_of js x)
    [ Primary ↦ within_of run Primary js.a begins_a | Secondary ↦ within_of run Secondary js.b begins_b ] in
    let within : (i : ℕ) (s : Step) → IsRead read run i s → IsWithin (volume_of js) run i s =
    λ i s lt. (let r = bounds s.side (count s.side run i) lt in let e = closes_are run s.side i in omega arith) in
    law js skew transit c ok run read (record {
      in_time = is_run.in_time;
      legal = λ side. elim side as (λ x. AreLegal x (volumes_in (volume_of js x) (read_of read run x))) [
        | Primary ↦ legal_of run Primary js.a begins_a (is_run.legal Primary) past_a
        | Secondary ↦ legal_of run Secondary js.b begins_b (is_run.legal Secondary) past_b
      ];
      sent = λ i s m at lt takes. is_run.sent i s m at (within i s lt) takes;
    })
    (λ i s at lt. clocks i s at (within i s lt))
    (record {
      index = begins_a.index;
      number = begins_a.number;
      lines =
          sym (volume_cut begins_a.index (lines_of Primary run) js.a.lines begins_a.rest begins_a.lines);
    })
    (record {
      index = begins_b.index;
      number = begins_b.number;
      lines =
          sym (volume_cut begins_b.index (lines_of Secondary run) js.b.lines begins_b.rest begins_b.lines);
    })
    starts reaches
