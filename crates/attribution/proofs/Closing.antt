-- Lines that are closed behind their last: their volumes, and that these stay lawful.
use Rattle.std.specs.Prelude.{◌≡◌, ◌≢◌, ℕ, ◌+◌, ◌-◌, ◌*◌, ◌<◌, ◌≤◌, ◌⊎◌, Bool, true, false, List, [], ◌∷◌, ◌++◌, Some}
use Rattle.std.specs.Prelude.{slice_get, length, if◌then◌else◌}
use Rattle.std.proofs.Common.{zero, suc, arith, sym, ◌∙◌, ap, subst, inl, inr, refl}
use Rattle.binding_rules.specs.declared.message.PartnerMessage.{PartnerMessage}
use Rattle.journal_lines.specs.Close.{is_close, until_close}
use Rattle.journal_lines.specs.declared.kept.Carried.{Carried}
use Rattle.journal_lines.specs.declared.event.Event.TheVariants.{Grant, Send, Close}
use Rattle.journal_lines.specs.declared.event.Lease.{Lease}
use Rattle.journal_lines.specs.declared.line.Line.{Line}
use Rattle.attribution.specs.Delegation.{of_lease}
use Rattle.attribution.specs.Volumes.{past_close, volume_at, volumes_in}
use Rattle.attribution.specs.Laws.{start}
use Rattle.attribution.specs.Lawful.{IsOf, Lawful, StillCarried, Ended, GivenUp, Accounted}
use Rattle.attribution.specs.Snapshot.{close_behind, closed_from, closed_now, ClosesBehindTheLast}
use Rattle.attribution.proofs.Places.{closes_in, in_volume, volumes_at, volumes_length}
use Rattle.attribution.proofs.Deciding.{close_is}

-- ---- volumes of lines that are closed behind the last

closed_cons : (l m : Line) (ms : List Line) (b : Bool) → closed_from l (if b then m ∷ [] else m ∷ ms)
    ≡ l ∷ closed_now (if b then m ∷ [] else m ∷ ms)
closed_cons l m ms true = refl
closed_cons l m ms false = refl

until_last : (l : Line) (b : Bool) → is_close l.event ≡ b → until_close (closed_from l [])
    ≡ closed_now (until_close (l ∷ []))
until_last l true e = simp e
until_last l false e = simp e

until_more : (l m : Line) (ms : List Line) (b : Bool) → is_close l.event ≡ b
    → until_close (closed_from m ms) ≡ closed_now (until_close (m ∷ ms))
    → until_close (closed_from l (m ∷ ms)) ≡ closed_now (until_close (l ∷ m ∷ ms))
until_more l m ms true e h = simp e
until_more l m ms false e h = rw e (ap (λ ls. l ∷ ls) h ∙ sym (closed_cons l m (until_close ms) (is_close m.event)))

until_closed : (l : Line) (ls : List Line) → until_close (closed_from l ls) ≡ closed_now (until_close (l ∷ ls))
until_closed l [] = until_last l (is_close l.event) refl
until_closed l (m ∷ ms) = until_more l m ms (is_close l.event) refl (until_closed m ms)

past_last : (l : Line) (b : Bool) → is_close l.event ≡ b → past_close (closed_from l [])
    ≡ closed_now (past_close (l ∷ []))
past_last l true e = simp e
past_last l false e = simp e

past_more : (m : Line) (ms : List Line) (b : Bool) → past_close (closed_from m ms) ≡ closed_now (past_close (m ∷ ms))
    → (if b then closed_from m ms else past_close (closed_from m ms))
    ≡ closed_now (if b then m ∷ ms else past_close (m ∷ ms))
past_more m ms true h = refl
past_more m ms false h = h

past_closed : (l : Line) (ls : List Line) → past_close (closed_from l ls) ≡ closed_now (past_close (l ∷ ls))
past_closed l [] = past_last l (is_close l.event) refl
past_closed l (m ∷ ms) = past_more m ms (is_close l.event) (past_closed m ms)

pub volume_closed : (n : ℕ) (ls : List Line) → volume_at n (closed_now ls) ≡ closed_now (volume_at n ls)
volume_closed zero [] = refl
volume_closed zero (l ∷ ls) = until_closed l ls
volume_closed (suc n) [] = volume_closed n []
volume_closed (suc n) (l ∷ ls) = ap (volume_at n) (past_closed l ls) ∙ volume_closed n (past_close (l ∷ ls))

volume_of_slice : (m : ℕ) (ls : List Line) (n : ℕ) (v : List Line) → slice_get (volumes_in m ls) n ≡ Some v
    → (n < m) × (v ≡ volume_at n ls)
volume_of_slice zero ls n v h = absurd (cc)
volume_of_slice (suc m) ls zero v h = (omega arith, cc)
volume_of_slice (suc m) ls (suc n) v h = let r = volume_of_slice m (past_close ls) n v h in
    ((let x = r.0 in omega arith), r.1)

-- what stood there stands there, and what is new closes
from_keeps : (l : Line) (ls : List Line) (k : ℕ) (x : Line) → slice_get (l ∷ ls) k ≡ Some x
    → slice_get (closed_from l ls) k ≡ Some x
from_keeps l [] zero x h = h
from_keeps l [] (suc k) x h = absurd (cc)
from_keeps l (m ∷ ms) zero x h = h
from_keeps l (m ∷ ms) (suc k) x h = from_keeps m ms k x h

closed_keeps : (ls : List Line) (k : ℕ) (x : Line) → slice_get ls k ≡ Some x → slice_get (closed_now ls) k ≡ Some x
closed_keeps [] k x h = absurd (cc)
closed_keeps (l ∷ ls) k x h = from_keeps l ls k x h

last_has : (l : Line) (b : Bool) (k : ℕ) (x : Line) → slice_get (l ∷ (if b then [] else close_behind l ∷ [])) k
    ≡ Some x → (x.event ≡ Close) ⊎ (slice_get (l ∷ []) k ≡ Some x)
last_has l b zero x h = inr h
last_has l true (suc k) x h = absurd (cc)
last_has l false (suc zero) x h = let e : close_behind l ≡ x = cc in inl (sym (ap (λ (z : Line). z.event) e))
last_has l false (suc (suc k)) x h = absurd (cc)

from_has : (l : Line) (ls : List Line) (k : ℕ) (x : Line) → slice_get (closed_from l ls) k ≡ Some x
    → (x.event ≡ Close) ⊎ (slice_get (l ∷ ls) k ≡ Some x)
from_has l [] k x h = last_has l (is_close l.event) k x h
from_has l (m ∷ ms) zero x h = inr h
from_has l (m ∷ ms) (suc k) x h = from_has m ms k x h

closed_has : (ls : List Line) (k : ℕ) (x : Line) → slice_get (closed_now ls) k ≡ Some x
    → (x.event ≡ Close) ⊎ (slice_get ls k ≡ Some x)
closed_has [] k x h = absurd (cc)
closed_has (l ∷ ls) k x h = from_has l ls k x h

-- lines end with a close line, or one is put behind the last
unfoldable pub Opens : List Line → Type 0
Opens ls = (n : ℕ) × (l : Line) × (length ls ≡ suc n) × (slice_get ls n ≡ Some l)
    × (closed_now ls ≡ ls ++ close_behind l ∷ [])

last_or : (l : Line) (b : Bool) → is_close l.event ≡ b → (closed_from l [] ≡ l ∷ []) ⊎ Opens (l ∷ [])
unfolding Opens
last_or l true e = inl (rw e refl)
last_or l false e = inr (zero, l, refl, refl, rw e refl)

more_or : (l m : Line) (ms : List Line) → (closed_from m ms ≡ m ∷ ms) ⊎ Opens (m ∷ ms)
    → (closed_from l (m ∷ ms) ≡ l ∷ m ∷ ms) ⊎ Opens (l ∷ m ∷ ms)
unfolding Opens
more_or l m ms (inl e) = inl (ap (λ ls. l ∷ ls) e)
more_or l m ms (inr o) = inr (suc o.0, o.1, ap suc o.2, o.3, ap (λ ls. l ∷ ls) o.4)

from_or : (l : Line) (ls : List Line) → (closed_from l ls ≡ l ∷ ls) ⊎ Opens (l ∷ ls)
from_or l [] = last_or l (is_close l.event) refl
from_or l (m ∷ ms) = more_or l m ms (from_or m ms)

-- by the last line
alone : (x : Line) (b : Bool) → x ∷ (if b then [] else close_behind x ∷ [])
    ≡ (if b then x ∷ [] else x ∷ close_behind x ∷ [])
alone x true = refl
alone x false = refl

closed_by : (l x : Line) (ls : List Line) (b : Bool)
    → closed_now ls ≡ (if b then ls else ls ++ close_behind l ∷ [])
    → x ∷ closed_now ls ≡ (if b then x ∷ ls else x ∷ ls ++ close_behind l ∷ [])
closed_by l x ls true h = ap (λ (z : List Line). x ∷ z) h
closed_by l x ls false h = ap (λ (z : List Line). x ∷ z) h

pub closed_at : (ls : List Line) (n : ℕ) (l : Line) → length ls ≡ suc n → slice_get ls n ≡ Some l
    → closed_now ls ≡ (if is_close l.event then ls else ls ++ close_behind l ∷ [])
closed_at [] n l long at = absurd (omega arith)
closed_at (x ∷ []) zero l long at = let e : x ≡ l = cc in
    subst (λ z. closed_from x [] ≡ (if is_close z.event then x ∷ [] else x ∷ close_behind z ∷ [])) e
    (alone x (is_close x.event))
closed_at (x ∷ []) (suc n) l long at = absurd (omega arith)
closed_at (x ∷ y ∷ ys) zero l long at = absurd (omega arith)
closed_at (x ∷ y ∷ ys) (suc n) l long at =
    closed_by l x (y ∷ ys) (is_close l.event) (closed_at (y ∷ ys) n l (omega arith) at)

pub closed_when : (ls : List Line) (l : Line) (b : Bool) → slice_get ls (length ls - 1) ≡ Some l → is_close l.event ≡ b
    → closed_now ls ≡ (if b then ls else ls ++ close_behind l ∷ [])
closed_when [] l b at is = absurd (cc)
closed_when (x ∷ xs) l b at is =
    let n : length (x ∷ xs) - 1 ≡ length xs = omega arith in
    rw (← is) (closed_at (x ∷ xs) (length xs) l refl (subst (λ k. slice_get (x ∷ xs) k ≡ Some l) n at))

pub closed_or : (ls : List Line) → (closed_now ls ≡ ls) ⊎ Opens ls
closed_or [] = inl refl
closed_or (l ∷ ls) = from_or l ls

closed_more : (x : Line) (xs : List Line) (l : Line) → closed_from x (xs ++ l ∷ []) ≡ x ∷ closed_now (xs ++ l ∷ [])
closed_more x [] l = refl
closed_more x (y ∷ ys) l = refl

closed_last : (l : Line) (b : Bool) → is_close l.event ≡ b → (l.event ≡ Close → closed_now (l ∷ []) ≡ l ∷ [])
    × (l.event ≢ Close → closed_now (l ∷ []) ≡ l ∷ close_behind l ∷ [])
closed_last l true e = (λ is. rw e refl, λ differs. absurd (differs (close_is l.event e)))
closed_last l false e = (λ is. let q = ap is_close is in absurd (cc), λ differs. rw e refl)

-- what it is to close lines behind the last
pub closes_behind : ClosesBehindTheLast
closes_behind [] l = closed_last l (is_close l.event) refl
closes_behind (x ∷ xs) l =
    let r = closes_behind xs l in (
      λ is. closed_more x xs l ∙ ap (λ ls. x ∷ ls) (r.0 is),
      λ differs. closed_more x xs l
          ∙ ap (λ ls. x ∷ ls) (r.1 differs),
    )

-- lawful volumes stay lawful
module _ (m : ℕ) (ls : List Line) (law : Lawful (volumes_in m ls)) where
  line_old : (n : ℕ) (v : List Line) (k : ℕ) (l : Line) → slice_get (volumes_in m (closed_now ls)) n ≡ Some v
      → slice_get v k ≡ Some l → (l.event ≡ Close → ⊥)
      → (slice_get (volumes_in m ls) n ≡ Some (volume_at n ls)) × (slice_get (volume_at n ls) k ≡ Some l)
  line_old n v k l a b never =
      let p = volume_of_slice m (closed_now ls) n v a in
      let e : v ≡ closed_now (volume_at n ls) = p.1 ∙ volume_closed n ls in
      elim (closed_has (volume_at n ls) k l (subst (λ z. slice_get z k ≡ Some l) e b)) [
        | inl h ↦ absurd (never h)
        | inr h ↦ (volumes_at m ls n p.0, h)
      ]

  line_new : (n : ℕ) (v : List Line) (k : ℕ) (l : Line) → slice_get (volumes_in m (closed_now ls)) n ≡ Some v
      → slice_get (volume_at n ls) k ≡ Some l → slice_get v k ≡ Some l
  line_new n v k l a b =
      let p = volume_of_slice m (closed_now ls) n v a in
      let e : v ≡ closed_now (volume_at n ls) = p.1 ∙ volume_closed n ls in
      subst (λ z. slice_get z k ≡ Some l) (sym e) (closed_keeps (volume_at n ls) k l b)

  no_send : (l : Line) (x : PartnerMessage) → l.event ≡ Send x → l.event ≡ Close → ⊥
  no_send l x a b = absurd (cc)

  no_grant : (l : Line) (g : Lease) → l.event ≡ Grant g → l.event ≡ Close → ⊥
  no_grant l g a b = absurd (cc)

  once_closed : (n i j k : ℕ) (v w : List Line) (l o : Line) (x y : PartnerMessage)
      → i + 1 ≡ length (volumes_in m (closed_now ls)) → slice_get (volumes_in m (closed_now ls)) n ≡ Some v
      → slice_get (volumes_in m (closed_now ls)) i ≡ Some w
      → slice_get v j ≡ Some l → l.event ≡ Send x → slice_get w k ≡ Some o → o.event ≡ Send y → x.serial ≡ y.serial
      → (n ≡ i) × (j ≡ k)
  once_closed n i j k v w l o x y last a b c d e f same =
      let p = line_old n v j l a c (no_send l x d) in
      let q = line_old i w k o b e (no_send o y f) in
      let lasts = last ∙ (volumes_length m (closed_now ls) ∙ sym (volumes_length m ls)) in
      law.once n i j k (volume_at n ls) (volume_at i ls) l o x y lasts p.0 q.0 p.1 d q.1 f same

  finite_closed : (n k : ℕ) (v : List Line) (l : Line) (g : Lease)
      → slice_get (volumes_in m (closed_now ls)) n ≡ Some v → slice_get v k ≡ Some l → l.event ≡ Grant g
      → g.valid ≤ 31536000
  finite_closed n k v l g a b is =
      let p = line_old n v k l a b (no_grant l g is) in
      law.finite n k (volume_at n ls) l g p.0 p.1 is

  account_closed : (i n k : ℕ) (w : List Line) (c : Carried) → i < m
      → slice_get (volumes_in m (closed_now ls)) i ≡ Some w → Accounted (volumes_in m ls) n k i (volume_at i ls) c
      → Accounted (volumes_in m (closed_now ls)) n k i w c
  unfolding StillCarried Ended GivenUp
  account_closed i n k w c lt b (inl s) = inl (s.0, s.1, s.2, line_new i w s.0 s.1 b s.3, s.4, s.5, s.6)
  account_closed i n k w c lt b (inr (inl e)) = inr (inl (e.0, line_new i w 0 e.0 b e.1, e.2))
  account_closed i n k w c lt b (inr (inr g)) =
      let lt' = g.4 in
      let there = volumes_at m (closed_now ls) g.0 (omega arith) in
      let p = volume_of_slice m ls g.0 g.2 g.6 in
      inr (inr (
        g.0,
        g.1,
        volume_at g.0 (closed_now ls),
        g.3,
        g.4,
        g.5,
        there,
        line_new g.0 (volume_at g.0 (closed_now ls)) g.1 g.3 there (subst (λ z. slice_get z g.1 ≡ Some g.3) p.1 g.7),
        g.8,
      ))

  accounted_closed : (i n k : ℕ) (v w : List Line) (l : Line) (g : Lease) (c : Carried) → n < i
      → slice_get (volumes_in m (closed_now ls)) n ≡ Some v → slice_get (volumes_in m (closed_now ls)) i ≡ Some w
      → slice_get v k ≡ Some l → l.event ≡ Grant g → IsOf c (of_lease g) → c.end ≡ l.reading + 1000 * g.valid
      → Accounted (volumes_in m (closed_now ls)) n k i w c
  accounted_closed i n k v w l g c lt a b at is of e =
      let p = line_old n v k l a at (no_grant l g is) in
      let q = volume_of_slice m (closed_now ls) i w b in
      account_closed i n k w c q.0 b (law.accounted i n k (volume_at n ls) (volume_at i ls) l g c lt p.0
      (volumes_at m ls i q.0) p.1 is of e)

  pub lawful_closed : Lawful (volumes_in m (closed_now ls))
  lawful_closed = record { once = once_closed; finite = finite_closed; accounted = accounted_closed }

-- ---- volumes that are closed stay as they are, whatever comes behind

-- how many of the lines close
pub total : List Line → ℕ
total ls = closes_in ls (length ls)

closes_total : (ls : List Line) (g : ℕ) (l : Line) → slice_get ls g ≡ Some l → l.event ≡ Close
    → closes_in ls g < total ls
unfolding total
closes_total [] g l h is = absurd (cc)
closes_total (x ∷ xs) zero l h is =
    let e : x ≡ l = cc in
    let c : is_close x.event ≡ true = ap (λ (z : Line). is_close z.event) e ∙ ap is_close is in
    rw c (omega arith)
closes_total (x ∷ xs) (suc g) l h is = let r = closes_total xs g l h is in omega arith

pub volume_total : (n : ℕ) (ls : List Line) (k : ℕ) (l : Line) → slice_get (volume_at n ls) k ≡ Some l
    → l.event ≡ Close → n < total ls
volume_total n ls k l h is =
    let v = in_volume n ls k l h in
    let t = closes_total ls (start n ls + k) l v.0 is in
    let e = v.1 in
    omega arith

pub total_le : (ls more : List Line) (m : ℕ) → length ls ≤ m → total ls ≤ closes_in (ls ++ more) m
unfolding total
total_le [] more m le = omega arith
total_le (x ∷ xs) more zero le = absurd (omega arith)
total_le (x ∷ xs) more (suc m) le = let r = total_le xs more m (omega arith) in omega arith

until_append_by : (x : Line) (xs more : List Line) (b : Bool) → 0 < (if b then 1 else 0) + total xs
    → (0 < total xs → until_close (xs ++ more) ≡ until_close xs)
    → (if b then x ∷ [] else x ∷ until_close (xs ++ more)) ≡ (if b then x ∷ [] else x ∷ until_close xs)
until_append_by x xs more true lt h = refl
until_append_by x xs more false lt h = ap (λ ls. x ∷ ls) (h (omega arith))

until_append : (ls more : List Line) → 0 < total ls → until_close (ls ++ more) ≡ until_close ls
unfolding total
until_append [] more lt = absurd (omega arith)
until_append (x ∷ xs) more lt = until_append_by x xs more (is_close x.event) lt (λ h. until_append xs more h)

past_append_by : (xs more : List Line) (b : Bool) → 0 < (if b then 1 else 0) + total xs
    → (0 < total xs → (past_close (xs ++ more) ≡ past_close xs ++ more) × (total xs ≡ suc (total (past_close xs))))
    → ((if b then xs ++ more else past_close (xs ++ more)) ≡ (if b then xs else past_close xs) ++ more)
    × ((if b then 1 else 0) + total xs ≡ suc (total (if b then xs else past_close xs)))
past_append_by xs more true lt h = (refl, omega arith)
past_append_by xs more false lt h = let r = h (omega arith) in (r.0, (let x = r.1 in omega arith))

past_append : (ls more : List Line) → 0 < total ls → (past_close (ls ++ more) ≡ past_close ls ++ more)
    × (total ls ≡ suc (total (past_close ls)))
unfolding total
past_append [] more lt = absurd (omega arith)
past_append (x ∷ xs) more lt = past_append_by xs more (is_close x.event) lt (λ h. past_append xs more h)

pub volume_append : (n : ℕ) (ls more : List Line) → n < total ls → volume_at n (ls ++ more) ≡ volume_at n ls
volume_append zero ls more lt = until_append ls more lt
volume_append (suc n) ls more lt =
    let p = past_append ls more (omega arith) in
    let e = p.1 in
    ap (volume_at n) p.0 ∙ volume_append n (past_close ls) more (omega arith)

pub volumes_append : (m : ℕ) (ls more : List Line) → m ≤ total ls → volumes_in m (ls ++ more) ≡ volumes_in m ls
volumes_append zero ls more le = refl
volumes_append (suc m) ls more le =
    let p = past_append ls more (omega arith) in
    let e = p.1 in
    let rest = ap (volumes_in m) p.0 ∙ volumes_append m (past_close ls) more (omega arith) in
    ap (λ v. v ∷ volumes_in m (past_close (ls ++ more))) (until_append ls more (omega arith))
    ∙ ap (λ vs. until_close ls ∷ vs) rest
