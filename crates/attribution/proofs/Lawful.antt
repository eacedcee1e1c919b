-- What legal volumes of one side keep: a serial is sent once, leases are finite, and each grant of an earlier volume is
-- accounted for.
use Rattle.std.specs.Prelude.{◌≡◌, ◌≢◌, ℕ, ◌+◌, ◌*◌, ◌<◌, ◌≤◌, ◌⊎◌, Bool, true, false, List, [], ◌∷◌, ◌++◌, length, map}
use Rattle.std.specs.Prelude.{Some, slice_get, if◌then◌else◌, Contains as Has}
use Rattle.std.proofs.Common.{zero, suc, arith, sym, ◌∙◌, ap, subst, inl, inr, refl}
use Rattle.std.proofs.lemmas.Bool.{cases_lt}
use Rattle.std.proofs.lemmas.Option.{slice_get_read}
use Rattle.binding_rules.specs.declared.role.Role.{Role}
use Rattle.binding_rules.specs.declared.message.PartnerMessage.{PartnerMessage}
use Rattle.journal_lines.specs.declared.kept.Carried.{Carried}
use Rattle.journal_lines.specs.declared.event.Lease.{Lease}
use Rattle.journal_lines.specs.declared.event.Event.{Event}
use Rattle.journal_lines.specs.declared.event.Event.TheVariants.{Base, Carry, Unit as UnitLine, Grant, Release, Send}
use Rattle.journal_lines.specs.declared.line.Line.{Line}
use Rattle.book_state.specs.Book.{BookState, blank}
use Rattle.book_rules.specs.VolumeRules.{margin}
use Rattle.book_rules.specs.Volumes.{IsVolume, book_after}
use Rattle.book_rules.specs.NextHead.{IsSameLease, GivesUpTo, IsOwed, numbers, transit_events, pool_event}
use Rattle.book_rules.specs.NextHead.{head_events, lines_from, AreNextHead, is_head, head_lines}
use Rattle.book_rules.specs.NextHead.{Follows, AreVolumes}
use Rattle.attribution.specs.declared.delegation.Delegation.{Delegation}
use Rattle.attribution.specs.declared.delegation.Lasting.{Lasting}
use Rattle.attribution.specs.declared.delegation.Lasting.TheVariants.{For, Until}
use Rattle.attribution.specs.Delegation.{of_lease, of_carried, told_by}
use Rattle.attribution.specs.Lawful.{IsOf, StillCarried, Ended, GivenUp, Accounted, Lawful}
use Rattle.attribution.specs.Tests.{is_release_of}
use Rattle.attribution.proofs.Deciding.{decides_release}
use Rattle.attribution.proofs.Steps.{finite, first_reading}
use Rattle.attribution.proofs.Serials.{Rise, first_rises, base_rises}

-- up to which reading of its server's clock it lasts, told of at a reading
abbrev pub lasts_to : ℕ → Lasting → ℕ
lasts_to reading (For seconds) = reading + 1000 * seconds
lasts_to reading (Until end) = end

-- an event that tells of a delegation gives it up to that reading
gives : (c : Carried) (d : Delegation) (now : ℕ) (e : Event) → told_by e ≡ Some d → IsOf c d
    → GivesUpTo c now e (lasts_to now d.lasting)
gives c d now (Grant g) told of =
    let is : of_lease g ≡ d = cc in
    subst (λ x. IsSameLease c g.client g.iaid g.prefix × (now + 1000 * g.valid ≡ lasts_to now x.lasting)) is
    (subst (λ x. IsOf c x) (sym is) of, refl)
gives c d now (Carry k) told of =
    let is : of_carried k ≡ d = cc in
    subst (λ x. IsSameLease c k.client k.iaid k.prefix × (k.end ≡ lasts_to now x.lasting)) is
    (subst (λ x. IsOf c x) (sym is) of, refl)
gives c d now _ told of = absurd (cc)

-- Head lines are lines of their volume.
head_by : (x l : Line) (xs : List Line) (b : Bool)
    → ((k : ℕ) → slice_get (head_lines xs) k ≡ Some l → slice_get xs k ≡ Some l)
    → (k : ℕ) → slice_get (if b then x ∷ head_lines xs else []) k ≡ Some l → slice_get (x ∷ xs) k ≡ Some l
head_by x l xs true rest zero h = h
head_by x l xs true rest (suc k) h = rest k h
head_by x l xs false rest k h = absurd (cc)

in_head : (ls : List Line) (k : ℕ) (l : Line) → slice_get (head_lines ls) k ≡ Some l → slice_get ls k ≡ Some l
in_head [] k l h = absurd (cc)
in_head (x ∷ xs) k l h = head_by x l xs (is_head x.event) (λ n g. in_head xs n l g) k h

-- an item of a list, somewhere
abbrev In : {X : Type 0} → List X → X → Type 0
In xs x = (k : ℕ) × (slice_get xs k ≡ Some x)

in_next : {X : Type 0} (y : X) (xs : List X) (x : X) → In xs x → In (y ∷ xs) x
in_next y xs x h = (suc h.0, h.1)

in_right : {X : Type 0} (xs ys : List X) (x : X) → In ys x → In (xs ++ ys) x
in_right [] ys x h = h
in_right (y ∷ xs) ys x h = in_next y (xs ++ ys) x (in_right xs ys x h)

pub in_left_at : {X : Type 0} (xs ys : List X) (x : X) (k : ℕ) → slice_get xs k ≡ Some x
    → slice_get (xs ++ ys) k ≡ Some x
in_left_at [] ys x k h = absurd (cc)
in_left_at (y ∷ xs) ys x zero h = h
in_left_at (y ∷ xs) ys x (suc k) h = in_left_at xs ys x k h

in_left : {X : Type 0} (xs ys : List X) (x : X) → In xs x → In (xs ++ ys) x
in_left xs ys x h = (h.0, in_left_at xs ys x h.0 h.1)

in_map_at : {X Y : Type 0} (f : X → Y) (xs : List X) (x : X) (k : ℕ) → slice_get xs k ≡ Some x
    → slice_get (map f xs) k ≡ Some (f x)
in_map_at f [] x k h = absurd (cc)
in_map_at f (y ∷ xs) x zero h = let e : y ≡ x = cc in ap (λ z. Some (f z)) e
in_map_at f (y ∷ xs) x (suc k) h = in_map_at f xs x k h

has_in : {X : Type 0} (xs : List X) (x : X) → Has xs x → In xs x
has_in xs x h = (h.0, slice_get_read xs (length xs) h.0 x refl h.1 (sym h.2))

-- a line of these events
in_lines : (es : List Event) (number reading : ℕ) (e : Event) (k : ℕ) → slice_get es k ≡ Some e
    → (l : Line) × (slice_get (lines_from number reading es) k ≡ Some l) × (l.event ≡ e) × (l.reading ≡ reading)
in_lines [] number reading e k h = absurd (cc)
in_lines (f ∷ es) number reading e zero h = (record { number = number; reading = reading; event = f }, refl, cc, refl)
in_lines (f ∷ es) number reading e (suc k) h = in_lines es (number + 1) reading e k h

module _ (b : BookState) (v w : List Line) (next : AreNextHead b v (head_lines w)) where
  -- an event of the head is one of the next volume's lines
  told : (e : Event) → In (head_events b next.carried next.kept) e
      → (k : ℕ) × (l : Line) × (slice_get w k ≡ Some l) × (l.event ≡ e) × (l.reading ≡ next.reading)
  told e h =
      let r = in_lines (head_events b next.carried next.kept) 1 next.reading e h.0 h.1 in
      (h.0, r.0, in_head w h.0 r.0 (ap (λ ls. slice_get ls h.0) next.is ∙ r.1), r.2, r.3)

  pub opens_at : (l : Line) × (slice_get w 0 ≡ Some l) × (l.reading ≡ next.reading)
  opens_at =
      let r = in_lines (head_events b next.carried next.kept) 1 next.reading _ 0 refl in
      (r.0, in_head w 0 r.0 (ap (λ ls. slice_get ls 0) next.is ∙ r.1), r.3)

  based : (k : ℕ) × (l : Line) × (slice_get w k ≡ Some l) × (l.event ≡ Base (numbers b))
  based =
      let here : In (Base (numbers b) ∷ (map Carry next.carried ++ map UnitLine next.kept)) (Base (numbers b)) =
      (0, refl) in
      let r = told (Base (numbers b)) (in_next _ _ _
      (in_right (map pool_event b.pools) _ _ (in_right (transit_events b.transit) _ _ here))) in
      (r.0, r.1, r.2, r.3)

  carried : (d : Carried) → Has next.carried d → (k : ℕ) × (l : Line) × (slice_get w k ≡ Some l) × (l.event ≡ Carry d)
  carried d has =
      let i = has_in next.carried d has in
      let here : In (map Carry next.carried) (Carry d) = (i.0, in_map_at Carry next.carried d i.0 i.1) in
      let r = told (Carry d) (in_next _ _ _ (in_right (map pool_event b.pools) _ _
      (in_right (transit_events b.transit) _ _
      (in_next (Base (numbers b)) _ _ (in_left (map Carry next.carried) (map UnitLine next.kept) _ here))))) in
      (r.0, r.1, r.2, r.3)

-- a line past an index gives the delegation back, or none does
Returned : List Line → ℕ → Delegation → Type 0
Returned ls from d = (k : ℕ) × (l : Line) × (from ≤ k) × (slice_get ls k ≡ Some l)
    × (l.event ≡ Release d.client d.iaid d.prefix)

NotReturned : List Line → ℕ → Delegation → Type 0
NotReturned ls from d = (k : ℕ) (l : Line) → from ≤ k → slice_get ls k ≡ Some l
    → l.event ≢ Release d.client d.iaid d.prefix

returned_or_by : (x : Line) (xs : List Line) (d : Delegation) (b : Bool) → is_release_of d x.event ≡ b
    → Returned xs 0 d ⊎ NotReturned xs 0 d → Returned (x ∷ xs) 0 d ⊎ NotReturned (x ∷ xs) 0 d
unfolding Returned NotReturned
returned_or_by x xs d true e rest = inl (0, x, omega arith, refl, (decides_release d x.event).0 e)
returned_or_by x xs d false e (inl r) = inl (suc r.0, r.1, omega arith, r.3, r.4)
returned_or_by x xs d false e (inr none) = inr at where
  at : (k : ℕ) (l : Line) → 0 ≤ k → slice_get (x ∷ xs) k ≡ Some l → l.event ≢ Release d.client d.iaid d.prefix
  at zero l le here is = let same : x ≡ l = cc in
      let t = (decides_release d x.event).1 (ap (λ (y : Line). y.event) same ∙ is) in absurd (cc)
  at (suc k) l le here is = none k l (omega arith) here is

returned_or : (ls : List Line) (from : ℕ) (d : Delegation) → Returned ls from d ⊎ NotReturned ls from d
unfolding Returned NotReturned
returned_or [] from d = inr (λ k l le at is. absurd (cc))
returned_or (x ∷ xs) zero d = returned_or_by x xs d (is_release_of d x.event) refl (returned_or xs 0 d)
returned_or (x ∷ xs) (suc from) d = elim (returned_or xs from d)
    [ inl r ↦ inl (suc r.0, r.1, (let y = r.2 in omega arith), r.3, r.4) | inr none ↦ inr (past none) ] where
      past : ((k : ℕ) (l : Line) → from ≤ k → slice_get xs k ≡ Some l → l.event ≢ Release d.client d.iaid d.prefix)
          → (k : ℕ) (l : Line) → suc from ≤ k → slice_get (x ∷ xs) k ≡ Some l
          → l.event ≢ Release d.client d.iaid d.prefix
      past none zero l le at = absurd (omega arith)
      past none (suc k) l le at = none k l (omega arith) at

-- From one volume to the next: what line k of v tells of, up to c's end, is given up later in v, or w carries it, or w
-- opens past it.
IsTold : List Line → ℕ → Carried → Type 0
IsTold v k c = (l : Line) × (d : Delegation) × (slice_get v k ≡ Some l) × (told_by l.event ≡ Some d) × IsOf c d
    × (c.end ≤ lasts_to l.reading d.lasting)

module _ (b : BookState) (v w : List Line) (next : AreNextHead b v (head_lines w)) where
  in_time_or_ended : (k : ℕ) (c : Carried) (t : IsTold v k c) → NotReturned v (suc k) (of_carried c)
      → StillCarried w c ⊎ Ended w c
  unfolding IsTold NotReturned StillCarried Ended
  in_time_or_ended k c t none =
      let end = lasts_to t.0.reading t.1.lasting in
      let owed : IsOwed v c end = record {
        index = k;
        line = t.0;
        here = t.2;
        gives = gives c t.1 t.0.reading t.0.event t.3 t.4;
        kept = λ n l lt at is. none n l (omega arith) at is;
      } in
      elim (cases_lt next.reading (end + margin b)) [
        | inl lt ↦ (
            let d = next.carries.all c end owed lt in
            let there = carried b v w next d.0 d.1 in
            inl (
              there.0,
              there.1,
              d.0,
              there.2,
              there.3,
              (sym d.2.0, sym d.2.1, sym d.2.2),
              (let x = t.5 in let y = d.3 in omega arith),
            ))
        | inr ge ↦ (let o = opens_at b v w next in inr (o.0, o.1, (let x = t.5 in let y = o.2 in omega arith)))
      ]

  handed_on : (k : ℕ) (c : Carried) → IsTold v k c → Returned v (suc k) (of_carried c) ⊎ (StillCarried w c ⊎ Ended w c)
  handed_on k c t = elim (returned_or v (suc k) (of_carried c)) [
    | inl r ↦ inl r
    | inr none ↦ inr (in_time_or_ended k c t none)
  ]

-- Volumes that follow one another.
shifted : (number n : ℕ) → (number + 1) + n ≡ number + suc n
shifted number n = omega arith

AreNext : Role → ℕ → List Line → List Line → Type 0
AreNext side number v w = IsVolume side number v × Follows side number v w

legal_at : (vs : List (List Line)) (side : Role) (number : ℕ) → AreVolumes side number vs → (n : ℕ) (v : List Line)
    → slice_get vs n ≡ Some v → IsVolume side (number + n) v
legal_at [] side number h n v at = absurd (cc)
legal_at (x ∷ []) side number h zero v at = let same : x ≡ v = cc in let e : number + 0 ≡ number = omega arith in
    rw e (subst (IsVolume side number) same h)
legal_at (x ∷ []) side number h (suc n) v at = absurd (cc)
legal_at (x ∷ y ∷ ys) side number h zero v at = let same : x ≡ v = cc in let e : number + 0 ≡ number = omega arith in
    rw e (subst (IsVolume side number) same h.0)
legal_at (x ∷ y ∷ ys) side number h (suc n) v at =
    subst (λ k. IsVolume side k v) (shifted number n) (legal_at (y ∷ ys) side (number + 1) h.2 n v at)

pub follows_at : (vs : List (List Line)) (side : Role) (number : ℕ) → AreVolumes side number vs
    → (n : ℕ) (v w : List Line)
    → slice_get vs n ≡ Some v → slice_get vs (suc n) ≡ Some w
    → Follows side (number + n) v w
follows_at [] side number h n v w at next = absurd (cc)
follows_at (x ∷ []) side number h zero v w at next = absurd (cc)
follows_at (x ∷ []) side number h (suc n) v w at next = absurd (cc)
follows_at (x ∷ y ∷ ys) side number h zero v w at next =
    let a : x ≡ v = cc in
    let b : y ≡ w = cc in
    let e : number + 0 ≡ number = omega arith in
    rw e (subst (λ z. Follows side number v z) b (subst (λ z. Follows side number z y) a h.1))
follows_at (x ∷ y ∷ ys) side number h (suc n) v w at next =
    subst (λ k. Follows side k v w) (shifted number n) (follows_at (y ∷ ys) side (number + 1) h.2 n v w at next)

-- where a list has an item it has those before
before_at : {X : Type 0} (xs : List X) (n m : ℕ) (x : X) → n ≤ m → slice_get xs m ≡ Some x
    → (y : X) × (slice_get xs n ≡ Some y)
before_at [] n m x le at = absurd (cc)
before_at (y ∷ ys) zero m x le at = (y, refl)
before_at (y ∷ ys) (suc n) zero x le at = absurd (omega arith)
before_at (y ∷ ys) (suc n) (suc m) x le at = before_at ys n m x (omega arith) at

module _ (side : Role) (vs : List (List Line)) (legal : AreVolumes side 1 vs) where
  -- Serials: those of a volume are above the last of the volume before it.
  abbrev high : ℕ → List Line → ℕ
  high n v = (book_after (blank side (1 + n)) v).serial

  rises_next : (n : ℕ) (v w : List Line) → slice_get vs n ≡ Some v → slice_get vs (suc n) ≡ Some w
      → Rise (high n v) w (high (suc n) w)
  rises_next n v w at next =
      let f = follows_at vs side 1 legal n v w at next in
      let base = based (book_after (blank side (1 + n)) v) v w f in
      base_rises w (blank side (1 + suc n)) (legal_at vs side 1 legal (suc n) w next) (omega arith)
      (omega arith) base.0 base.1 (numbers (book_after (blank side (1 + n)) v)) base.2 base.3

  rises : (n : ℕ) (v : List Line) → slice_get vs n ≡ Some v → (low : ℕ) × Rise low v (high n v)
  rises zero v at = (0, first_rises side v (legal_at vs side 1 legal 0 v at))
  rises (suc n) v at = let u = before_at vs n (suc n) v (omega arith) at in (high n u.0, rises_next n u.0 v u.1 at)

  same_or_less : (n m : ℕ) → n ≤ m → (n ≡ m) ⊎ (n < m)
  same_or_less n m le = elim (cases_lt n m) [ inl h ↦ inr h | inr h ↦ inl (omega arith) ]

  one_volume : (n m : ℕ) (v w : List Line) → n ≡ m → slice_get vs n ≡ Some v → slice_get vs m ≡ Some w → v ≡ w
  one_volume n m v w e a b = cc

  high_le : (m n : ℕ) (v w : List Line) → n ≤ m → slice_get vs n ≡ Some v → slice_get vs m ≡ Some w
      → high n v ≤ high m w
  high_le zero n v w le a b = let e : n ≡ zero = omega arith in
      subst (λ x. high n v ≤ high zero x) (one_volume n zero v w e a b)
      (subst (λ k. high n v ≤ high k v) e (omega arith))
  high_le (suc m) n v w le a b = elim (same_or_less n (suc m) le) [
    | inl e ↦ subst (λ x. high n v ≤ high (suc m) x) (one_volume n (suc m) v w e a b)
        (subst (λ k. high n v ≤ high k v) e (omega arith))
    | inr lt ↦ (
        let u = before_at vs m (suc m) w (omega arith) b in
        let h = high_le m n v u.0 (omega arith) a u.1 in
        let r = (rises_next m u.0 w u.1 b).le in
        omega arith)
  ]

  -- a send in a later volume is above all of an earlier one
  high_lt : (m n k : ℕ) (v w : List Line) (l : Line) (x : PartnerMessage) → n < m → slice_get vs n ≡ Some v
      → slice_get vs m ≡ Some w → slice_get w k ≡ Some l → l.event ≡ Send x → high n v < x.serial
  high_lt zero n k v w l x lt a b at is = absurd (omega arith)
  high_lt (suc m) n k v w l x lt a b at is =
      let u = before_at vs m (suc m) w (omega arith) b in
      let h = high_le m n v u.0 (omega arith) a u.1 in
      let r = ((rises_next m u.0 w u.1 b).within k l x at is).0 in
      omega arith

  apart : (n m j k : ℕ) (v w : List Line) (l o : Line) (x y : PartnerMessage) → n < m → slice_get vs n ≡ Some v
      → slice_get vs m ≡ Some w
      → slice_get v j ≡ Some l → l.event ≡ Send x → slice_get w k ≡ Some o → o.event ≡ Send y → x.serial ≡ y.serial → ⊥
  apart n m j k v w l o x y lt a b c d e f same =
      let h = high_lt m n k v w o y lt a b e f in
      let r = ((rises n v a).1.within j l x c d).1 in
      absurd (omega arith)

  sends_once : (n m j k : ℕ) (v w : List Line) (l o : Line) (x y : PartnerMessage) → slice_get vs n ≡ Some v
      → slice_get vs m ≡ Some w
      → slice_get v j ≡ Some l → l.event ≡ Send x → slice_get w k ≡ Some o → o.event ≡ Send y → x.serial ≡ y.serial
      → (n ≡ m) × (j ≡ k)
  sends_once n m j k v w l o x y a b c d e f same = elim (cases_lt n m) [
    | inl lt ↦ absurd (apart n m j k v w l o x y lt a b c d e f same)
    | inr ge ↦ elim (same_or_less m n ge) [
      | inr lt ↦ absurd (apart m n k j w v o l y x lt b a e f c d (sym same))
      | inl is ↦ (
          let n_is : n ≡ m = omega arith in
          let one = one_volume n m v w n_is a b in
          (n_is, (rises n v a).1.once j k l o x y c d (subst (λ z. slice_get z k ≡ Some o) (sym one) e) f same))
    ]
  ]

  -- Leases are finite.
  leases_finite : (n k : ℕ) (v : List Line) (l : Line) (g : Lease) → slice_get vs n ≡ Some v → slice_get v k ≡ Some l
      → l.event ≡ Grant g → g.valid ≤ 31536000
  leases_finite n k v l g a at is = finite v (blank side (1 + n)) (legal_at vs side 1 legal n v a)
      (inl refl) k l g at is

  -- Each grant of an earlier volume is accounted for.
  of_told : (w : List Line) (k : ℕ) (l : Line) (d c : Carried) → slice_get w k ≡ Some l → l.event ≡ Carry d
      → IsOf d (of_carried c) → c.end ≤ d.end → IsTold w k c
  unfolding IsTold
  of_told w k l d c at is of le = (l, of_carried d, at, ap told_by is, (sym of.0, sym of.1, sym of.2), le)

  of_granted : (v : List Line) (k : ℕ) (l : Line) (g : Lease) (c : Carried) → slice_get v k ≡ Some l
      → l.event ≡ Grant g → IsOf c (of_lease g) → c.end ≡ l.reading + 1000 * g.valid → IsTold v k c
  unfolding IsTold
  of_granted v k l g c at is of e = (l, of_lease g, at, ap told_by is, of, omega arith)

  opened_le : (m : ℕ) (w z : List Line) (l : Line) → slice_get vs m ≡ Some w → slice_get vs (suc m) ≡ Some z
      → slice_get w 0 ≡ Some l → (o : Line) × (slice_get z 0 ≡ Some o) × (l.reading ≤ o.reading)
  opened_le m w z l at next first =
      let f = follows_at vs side 1 legal m w z at next in
      let o = opens_at (book_after (blank side (1 + m)) w) w z f in
      let r = first_reading w (blank side (1 + m)) l (legal_at vs side 1 legal m w at) first in
      let x = f.later in
      (o.0, o.1, (let y = o.2 in omega arith))

  -- one step on, from what volume m knows
  account_next : (n k m : ℕ) (w z : List Line) (c : Carried) → n < m → slice_get vs m ≡ Some w
      → slice_get vs (suc m) ≡ Some z → Accounted vs n k m w c → Accounted vs n k (suc m) z c
  unfolding StillCarried Ended GivenUp Returned
  account_next n k m w z c lt at next (inl s) =
      let f = follows_at vs side 1 legal m w z at next in
      elim (handed_on (book_after (blank side (1 + m)) w) w z f s.0 c (of_told w s.0 s.1 s.2 c s.3 s.4 s.5 s.6)) [
        | inl r ↦ inr (inr (m, r.0, w, r.1, omega arith, inl lt, at, r.3, r.4))
        | inr h ↦ elim h [ inl still ↦ inl still | inr ended ↦ inr (inl ended) ]
      ]
  account_next n k m w z c lt at next (inr (inl e)) =
      let o = opened_le m w z e.0 at next e.1 in
      inr (inl (o.0, o.1, (let x = e.2 in let y = o.2 in omega arith)))
  account_next n k m w z c lt at next (inr (inr g)) =
      inr (inr (g.0, g.1, g.2, g.3, (let x = g.4 in omega arith), g.5, g.6, g.7, g.8))

  account_first : (n k : ℕ) (v z : List Line) (c : Carried) → slice_get vs n ≡ Some v → slice_get vs (suc n) ≡ Some z
      → IsTold v k c → Accounted vs n k (suc n) z c
  unfolding StillCarried Ended GivenUp Returned
  account_first n k v z c at next told_here =
      let f = follows_at vs side 1 legal n v z at next in
      elim (handed_on (book_after (blank side (1 + n)) v) v z f k c told_here) [
        | inl r ↦ inr (inr (n, r.0, v, r.1, omega arith, inr (refl, (let x = r.2 in omega arith)), at, r.3, r.4))
        | inr h ↦ elim h [ inl still ↦ inl still | inr ended ↦ inr (inl ended) ]
      ]

  accounts : (m n k : ℕ) (v w : List Line) (c : Carried) → n < m → slice_get vs n ≡ Some v → slice_get vs m ≡ Some w
      → IsTold v k c → Accounted vs n k m w c
  accounts zero n k v w c lt a b told_here = absurd (omega arith)
  accounts (suc m) n k v w c lt a b told_here = elim (same_or_less n m (omega arith)) [
    | inl e ↦ subst (λ x. Accounted vs n k (suc x) w c) e
        (account_first n k v w c a (subst (λ x. slice_get vs (suc x) ≡ Some w) (sym e) b) told_here)
    | inr less ↦ (
        let u = before_at vs m (suc m) w (omega arith) b in
        account_next n k m u.0 w c less u.1 b (accounts m n k v u.0 c less a u.1 told_here))
  ]

  granted_accounted : (m n k : ℕ) (v w : List Line) (l : Line) (g : Lease) (c : Carried) → n < m
      → slice_get vs n ≡ Some v → slice_get vs m ≡ Some w → slice_get v k ≡ Some l → l.event ≡ Grant g
      → IsOf c (of_lease g) → c.end ≡ l.reading + 1000 * g.valid → Accounted vs n k m w c
  granted_accounted m n k v w l g c lt a b at is of e = accounts m n k v w c lt a b (of_granted v k l g c at is of e)

pub lawful : (side : Role) (vs : List (List Line)) → AreVolumes side 1 vs → Lawful vs
lawful side vs legal = record {
  once = λ n m j k v w l o x y last. sends_once side vs legal n m j k v w l o x y;
  finite = leases_finite side vs legal;
  accounted = granted_accounted side vs legal;
}
