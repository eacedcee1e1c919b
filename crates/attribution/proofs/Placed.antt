-- The placing rule's list is an order that places lesser readings first.
use Rattle.std.specs.Prelude.{◌≡◌, ℕ, ◌+◌, ◌-◌, ◌<◌, ◌≤◌, ◌⊎◌, Bool, true, false, nat_le, List, [], ◌∷◌, ◌++◌, Option}
use Rattle.std.specs.Prelude.{Some, None, slice_get, map, filter, length, drop, if◌then◌else◌}
use Rattle.std.proofs.Common.{zero, suc, arith, sym, ◌∙◌, ap, subst, inl, inr, refl}
use Rattle.std.proofs.lemmas.Bool.{cases_lt}
use Rattle.std.proofs.lemmas.Bool.Decides.{leb_tells}
use Rattle.std.proofs.lemmas.List.{append-nil, drop_all}
use Rattle.std.proofs.lemmas.Option.{slice_get_within}
use Rattle.binding_rules.specs.declared.role.Role.{Role}
use Rattle.binding_rules.specs.declared.role.Role.TheVariants.{Primary, Secondary}
use Rattle.binding_rules.specs.Role.{partner_of, is_side}
use Rattle.binding_rules.specs.declared.message.PartnerMessage.{PartnerMessage}
use Rattle.journal_lines.specs.declared.event.Event.TheVariants.{Send, Take, Close}
use Rattle.journal_lines.specs.declared.line.Line.{Line}
use Rattle.causal_order.specs.declared.reference.Ref.{Ref}
use Rattle.causal_order.specs.Journals.{Journals, journal_of, Names, line_of}
use Rattle.causal_order.proofs.Deciding.{names_line, decides_side}
use Rattle.journal_merge.specs.Messages.{first_send, was_sent_earlier, partner_lines, send_of}
use Rattle.journal_merge.specs.Refusals.{AreMatched}
use Rattle.journal_merge.specs.Placing.{Counts, start, count, advance, is_ready, if_ready, ready_line, goes_first, next}
use Rattle.journal_merge.specs.Placing.{Places, Placed}
use Rattle.journal_merge.proofs.Placing.{same_side, counts_one, counts_none, count_grows, two_refs, ready_of_next}
use Rattle.journal_merge.proofs.Placing.{waits, none_at_start, placed_is_interleaving}
use Rattle.journal_merge.proofs.Matched.{matched_are_sent}
use Rattle.attribution.proofs.Orders.{Written, lines_in, IsPassedOver, IsSentBefore, IsOrder, IsHeldUp}
use Rattle.attribution.proofs.Orders.{PlacesLesserFirst, NeverFalls}

or_blank : Option Line → Line
or_blank None = record { number = 0; reading = 0; event = Close }
or_blank (Some l) = l

written : Journals → Ref → Written
written js r = record { side = r.side; line = or_blank (line_of js r) }

pub order_of : Journals → List Ref → List Written
order_of js refs = map (written js) refs

written_line : (js : Journals) (r : Ref) (l : Line) → Names js r l → (written js r).line ≡ l
unfolding or_blank written
written_line js r l n = ap or_blank (names_line js r l n)

written_side : (js : Journals) (r : Ref) → (written js r).side ≡ r.side
unfolding written
written_side js r = refl

map_at : {X Y : Type 0} (f : X → Y) (xs : List X) (k : ℕ) (x : X) → slice_get xs k ≡ Some x
    → slice_get (map f xs) k ≡ Some (f x)
map_at f [] k x h = absurd (cc)
map_at f (y ∷ ys) zero x h = let e : y ≡ x = cc in ap (λ z. Some (f z)) e
map_at f (y ∷ ys) (suc k) x h = map_at f ys k x h

at_map : {X Y : Type 0} (f : X → Y) (xs : List X) (k : ℕ) (y : Y) → slice_get (map f xs) k ≡ Some y
    → (x : X) × (slice_get xs k ≡ Some x) × (y ≡ f x)
at_map f [] k y h = absurd (cc)
at_map f (x ∷ xs) zero y h = (x, refl, cc)
at_map f (x ∷ xs) (suc k) y h = at_map f xs k y h

drop_read : (xs : List Line) (k : ℕ) (x : Line) → slice_get xs k ≡ Some x → drop k xs ≡ x ∷ drop (suc k) xs
drop_read [] k x h = absurd (cc)
drop_read (y ∷ ys) zero x h = let e : y ≡ x = cc in ap (λ z. z ∷ ys) e
drop_read (y ∷ ys) (suc k) x h = drop_read ys k x h

-- what is placed next is there
next_named : (js : Journals) (c : Counts) (r : Ref) → next js c ≡ Some r.side → r.number ≡ count c r.side + 1
    → (l : Line) × Names js r l × (slice_get (journal_of js r.side) (count c r.side) ≡ Some l)
next_named js c r h n =
    let x = ready_of_next js c r.side h in
    let k : count c r.side ≡ r.number - 1 = omega arith in
    (x.line, (omega arith, subst (λ i. slice_get (journal_of js r.side) i ≡ Some x.line) k x.here), x.here)

placed_named : (js : Journals) (refs : List Ref) (c d : Counts) → Places js c refs d → (k : ℕ) (r : Ref)
    → slice_get refs k ≡ Some r → (l : Line) × Names js r l
placed_named js [] c d h k r at = absurd (cc)
placed_named js (q ∷ qs) c d h zero r at =
    let e : q ≡ r = cc in
    let n = next_named js c q h.0 h.1 in
    subst (λ x. (l : Line) × Names js x l) e (n.0, n.1)
placed_named js (q ∷ qs) c d h (suc k) r at = placed_named js qs (advance c q.side) d h.2 k r at

-- ---- the lines

module _ (js : Journals) (side : Role) where
  lines_by : (r : Ref) (rs : List Ref) (c d : Counts) → Places js c (r ∷ rs) d
      → lines_in side (order_of js rs) ++ drop (count d side) (journal_of js side)
      ≡ drop (count (advance c r.side) side) (journal_of js side)
      → (b : Bool) → is_side side r.side ≡ b
      → map (λ (w : Written). w.line) (if b then written js r ∷ filter (λ (w : Written). is_side side w.side)
      (order_of js rs) else filter (λ (w : Written). is_side side w.side) (order_of js rs))
      ++ drop (count d side) (journal_of js side)
      ≡ drop (count c side) (journal_of js side)
  lines_by r rs c d h rest false e = rest ∙ ap (λ n. drop n (journal_of js side)) (counts_none c side r.side e)
  lines_by r rs c d h rest true e =
      let n = next_named js c r h.0 h.1 in
      let same : r.side ≡ side = same_side side r.side e in
      let here : slice_get (journal_of js side) (count c side) ≡ Some n.0 =
      subst (λ x. slice_get (journal_of js x) (count c x) ≡ Some n.0) same n.2 in
      let one = counts_one c side r.side e in
      let next : count (advance c r.side) side ≡ suc (count c side) = omega arith in
      let line = written_line js r n.0 n.1 in
      ap (λ ls. (written js r).line ∷ ls) (rest ∙ ap (λ n. drop n (journal_of js side)) next)
      ∙ (ap (λ l. l ∷ drop (suc (count c side)) (journal_of js side)) line
      ∙ sym (drop_read (journal_of js side) (count c side) n.0 here))

  lines_grow : (refs : List Ref) (c d : Counts) → Places js c refs d
      → lines_in side (order_of js refs) ++ drop (count d side) (journal_of js side)
      ≡ drop (count c side) (journal_of js side)
  unfolding order_of written
  lines_grow [] c d h = ap (λ (x : Counts). drop (count x side) (journal_of js side)) (sym h)
  lines_grow (r ∷ rs) c d h = lines_by r rs c d h (lines_grow rs (advance c r.side) d h.2) (is_side side r.side) refl

  lines_placed : (refs : List Ref) → Placed js refs → lines_in side (order_of js refs) ≡ journal_of js side
  lines_placed refs (c, p, whole) =
      let w = whole side in
      let all : drop (count c side) (journal_of js side) ≡ [] =
      drop_all (count c side) (journal_of js side) (omega arith) in
      sym (append-nil (lines_in side (order_of js refs)))
      ∙ (ap (λ ls. lines_in side (order_of js refs) ++ ls) (sym all)
      ∙ (lines_grow refs start c p ∙ ap (λ n. drop n (journal_of js side)) (none_at_start side)))

-- ---- places of references

side_of : (a : Role) → is_side a a ≡ true
side_of a = (decides_side a a).1 refl

module _ (js : Journals) (side : Role) where
  -- no line that is placed later has a number that was placed
  number_more : (refs : List Ref) (c d : Counts) → Places js c refs d → (k : ℕ) (q : Ref) → slice_get refs k ≡ Some q
      → q.side ≡ side → count c side < q.number
  number_more [] c d h k q at of = absurd (cc)
  number_more (r ∷ rs) c d h zero q at of =
      let e : r ≡ q = cc in
      let n : q.number ≡ count c q.side + 1 = subst (λ (x : Ref). x.number ≡ count c x.side + 1) e h.1 in
      let m : q.number ≡ count c side + 1 = subst (λ x. q.number ≡ count c x + 1) of n in
      omega arith
  number_more (r ∷ rs) c d h (suc k) q at of =
      let x = number_more rs (advance c r.side) d h.2 k q at of in
      let y = count_grows c side r.side in
      omega arith

  abbrev NextAt : List Ref → Counts → ℕ → Type 0
  NextAt refs c k = (n : ℕ) × (n ≤ k) × (slice_get refs n ≡ Some (record { side = side; number = count c side + 1 }))

  -- where a line of the side is placed, the side's next line is placed no later
  next_by : (r : Ref) (rs : List Ref) (c d : Counts) → Places js c (r ∷ rs) d → (k : ℕ) (q : Ref)
      → slice_get (r ∷ rs) k ≡ Some q → q.side ≡ side
      → ((n : ℕ) → slice_get rs n ≡ Some q → NextAt rs (advance c r.side) n) → (b : Bool) → is_side side r.side ≡ b
      → NextAt (r ∷ rs) c k
  next_by r rs c d h k q at of rest true e =
      let same = same_side side r.side e in
      let n : r.number ≡ count c side + 1 = subst (λ x. r.number ≡ count c x + 1) same h.1 in
      (0, omega arith, ap (λ (x : Ref). Some x) (two_refs r (record { side = side; number = count c side + 1 }) same n))
  next_by r rs c d h zero q at of rest false e =
      let same : r ≡ q = cc in
      let t : is_side side r.side ≡ true = ap (λ (x : Ref). is_side side x.side) same
      ∙ (ap (λ x. is_side side x) of ∙ side_of side) in
      absurd (cc)
  next_by r rs c d h (suc k) q at of rest false e =
      let x = rest k at in
      let le = x.1 in (
        suc x.0,
        omega arith,
        subst (λ n. slice_get rs x.0 ≡ Some (record { side = side; number = n + 1 }))
            (counts_none c side r.side e) x.2,
      )

  next_place : (refs : List Ref) (c d : Counts) → Places js c refs d → (k : ℕ) (q : Ref) → slice_get refs k ≡ Some q
      → q.side ≡ side → NextAt refs c k
  next_place [] c d h k q at of = absurd (cc)
  next_place (r ∷ rs) c d h k q at of = next_by r rs c d h k q at of
      (λ n a. next_place rs (advance c r.side) d h.2 n q a of) (is_side side r.side) refl

  abbrev PlacedAt : List Ref → ℕ → Type 0
  PlacedAt refs n = (k : ℕ) × (slice_get refs k ≡ Some (record { side = side; number = n }))

  -- each number between is placed
  number_by : (r : Ref) (rs : List Ref) (c d : Counts) (n : ℕ) → r.number ≡ count c r.side + 1 → count c side < n
      → (count (advance c r.side) side < n → PlacedAt rs n)
      → (b : Bool) → is_side side r.side ≡ b → (count c side + 1 < n) ⊎ (n ≤ count c side + 1) → PlacedAt (r ∷ rs) n
  number_by r rs c d n h more rest false e o = let x = counts_none c side r.side e in let y = rest (omega arith) in
      (suc y.0, y.1)
  number_by r rs c d n h more rest true e (inl lt) = let x = counts_one c side r.side e in
      let y = rest (omega arith) in (suc y.0, y.1)
  number_by r rs c d n h more rest true e (inr le) =
      let same = same_side side r.side e in
      let k : r.number ≡ count c side + 1 = subst (λ x. r.number ≡ count c x + 1) same h in
      (0, ap (λ (x : Ref). Some x) (two_refs r (record { side = side; number = n }) same (omega arith)))

  number_place : (refs : List Ref) (c d : Counts) → Places js c refs d → (n : ℕ) → count c side < n → n ≤ count d side
      → PlacedAt refs n
  number_place [] c d h n more less = let e = ap (λ (x : Counts). count x side) h in absurd (omega arith)
  number_place (r ∷ rs) c d h n more less =
      number_by r rs c d n h.1 more (λ m. number_place rs (advance c r.side) d h.2 n m less) (is_side side r.side) refl
      (cases_lt (count c side + 1) n)

-- ---- which goes first

ready_is : (js : Journals) (c : Counts) (side : Role) (l : Line)
    → slice_get (journal_of js side) (count c side) ≡ Some l → is_ready js c side l.event ≡ true
    → ready_line js c side ≡ Some l
ready_is js c side l at t = ap (if_ready js c side) at ∙ ap (λ b. if b then Some l else None) t

primary_by : (b : Bool) → Some (if b then Primary else Secondary) ≡ Some Primary → b ≡ true
primary_by true h = refl
primary_by false h = absurd (cc)

secondary_by : (b : Bool) → Some (if b then Primary else Secondary) ≡ Some Secondary → b ≡ false
secondary_by true h = absurd (cc)
secondary_by false h = refl

le_true : (a b : ℕ) → nat_le a b ≡ true → a ≤ b
le_true a b h = elim (leb_tells a b) [ inl t ↦ t.1 | inr t ↦ (let x = t.0 in absurd (cc)) ]

le_false : (a b : ℕ) → nat_le a b ≡ false → b ≤ a
le_false a b h = elim (leb_tells a b) [ inl t ↦ (let x = t.0 in absurd (cc)) | inr t ↦ (let x = t.1 in omega arith) ]

-- of two ready lines the one that is placed reads no more
reads_least : (js : Journals) (c : Counts) (side : Role) (x z : Line) → next js c ≡ Some side
    → ready_line js c side ≡ Some x → ready_line js c (partner_of side) ≡ Some z → x.reading ≤ z.reading
reads_least js c Primary x z h p q =
    let e : goes_first (Some x) (Some z) ≡ Some Primary =
    subst (λ o. goes_first (Some x) o ≡ Some Primary) q
    (subst (λ o. goes_first o (ready_line js c Secondary) ≡ Some Primary) p h) in
    le_true x.reading z.reading (primary_by (nat_le x.reading z.reading) e)
reads_least js c Secondary x z h p q =
    let e : goes_first (Some z) (Some x) ≡ Some Secondary =
    subst (λ o. goes_first o (Some x) ≡ Some Secondary) q
    (subst (λ o. goes_first (ready_line js c Primary) o ≡ Some Secondary) p h) in
    le_false z.reading x.reading (secondary_by (nat_le z.reading x.reading) e)

-- the side was held up, in terms of references
record Held (js : Journals) (refs : List Ref) (side : Role) (i k : ℕ) : Type 0 where
  message : PartnerMessage
  take : Ref
  take_line : Line
  take_place : ℕ
  take_here : slice_get refs take_place ≡ Some take
  take_side : take.side ≡ side
  take_names : Names js take take_line
  takes : take_line.event ≡ Take message
  before : take_place ≤ k
  send : Ref
  send_line : Line
  send_place : ℕ
  send_here : slice_get refs send_place ≡ Some send
  send_side : send.side ≡ partner_of side
  send_names : Names js send send_line
  sends : send_line.event ≡ Send message
  behind : i ≤ send_place

partner_self : (x y : Role) → y ≡ partner_of x → is_side y x ≡ false
partner_self Primary y h = ap (λ z. is_side z Primary) h
partner_self Secondary y h = ap (λ z. is_side z Secondary) h

partner_twice : (x y : Role) → y ≡ partner_of x → partner_of y ≡ x
partner_twice Primary y h = ap partner_of h
partner_twice Secondary y h = ap partner_of h

module _ (js : Journals) (matched : AreMatched js) (rising : (side : Role)
    → NeverFalls (journal_of js side)) (d : Counts) (whole : (side : Role)
    → count d side ≡ length (journal_of js side)) where
  held_by : (refs : List Ref) (c : Counts) → Places js c refs d → (side : Role) (k : ℕ) (z : Line) → (z_place : ℕ)
      → z_place ≤ k
      → slice_get refs z_place ≡ Some (record { side = side; number = count c side + 1 })
      → slice_get (journal_of js side) (count c side) ≡ Some z → is_ready js c side z.event ≡ false
      → Held js refs side 0 k
  held_by refs c h side k z z_place le at here waiting =
      let w = waits js c side z.event waiting in
      let n : (count c side + 1) - 1 ≡ count c side = omega arith in
      let ref : Ref = record { side = side; number = count c side + 1 } in
      let names : Names js ref z = (omega arith, rw n here) in
      let s = matched_are_sent js matched ref w.0 (z, names, w.1, w.2) in
      let first : ℕ = first_send w.0.serial (partner_lines js side) in
      let less = slice_get_within (journal_of js (partner_of side)) (first - 1) s.0 s.1.1 in
      let all = whole (partner_of side) in
      let p = number_place js (partner_of side) refs c d h first w.3 (omega arith) in
      record {
        message = w.0;
        take = ref;
        take_line = z;
        take_place = z_place;
        take_here = at;
        take_side = refl;
        take_names = names;
        takes = w.1;
        before = le;
        send = send_of js side w.0;
        send_line = s.0;
        send_place = p.0;
        send_here = p.1;
        send_side = refl;
        send_names = s.1;
        sends = s.2;
        behind = omega arith;
      }

  held_here : (r : Ref) (rs : List Ref) (c : Counts) → Places js c (r ∷ rs) d → (k : ℕ) (q : Ref) (x y : Line)
      → slice_get (r ∷ rs) k ≡ Some q → q.side ≡ partner_of r.side
      → Names js r x → Names js q y → y.reading < x.reading → Held js (r ∷ rs) q.side 0 k
  held_here r rs c h k q x y at other nx ny less =
      let here = next_named js c r h.0 h.1 in
      let same : here.0 ≡ x = (let a = here.1.1 in let b = nx.1 in cc) in
      let p = next_place js q.side (r ∷ rs) c d h k q at refl in
      let z = placed_named js (r ∷ rs) c d h p.0 (record { side = q.side; number = count c q.side + 1 }) p.2 in
      let n : (count c q.side + 1) - 1 ≡ count c q.side = omega arith in
      let z_here : slice_get (journal_of js q.side) (count c q.side) ≡ Some z.0 = rw n at z.1.1 in
      let more = number_more js q.side (r ∷ rs) c d h k q at refl in
      let low : z.0.reading ≤ y.reading = rising q.side (count c q.side) (q.number - 1) z.0 y
      (omega arith) z_here ny.1 in
      by_test p.0 p.1 p.2 z.0 z_here low here.0 here.2 same (is_ready js c q.side z.0.event) refl where
        by_test : (z_place : ℕ) → z_place ≤ k → slice_get (r ∷ rs) z_place
            ≡ Some (record { side = q.side; number = count c q.side + 1 }) → (z : Line)
            → slice_get (journal_of js q.side) (count c q.side) ≡ Some z → z.reading ≤ y.reading → (l : Line)
            → slice_get (journal_of js r.side) (count c r.side) ≡ Some l → l ≡ x
            → (b : Bool) → is_ready js c q.side z.event ≡ b → Held js (r ∷ rs) q.side 0 k
        by_test z_place le at' z here low l l_here same false t = held_by (r ∷ rs) c h q.side k z z_place le at' here t
        by_test z_place le at' z here low l l_here same true t =
            let own = ready_of_next js c r.side h.0 in
            let line : own.line ≡ x = (let a = own.here in cc) in
            let own_ready = ready_is js c r.side own.line own.here own.ready in
            let z_ready : ready_line js c (partner_of r.side) ≡ Some z =
            subst (λ s. ready_line js c s ≡ Some z) other (ready_is js c q.side z here t) in
            let le = reads_least js c r.side own.line z h.0 own_ready z_ready in
            let e = ap (λ (l : Line). l.reading) line in
            absurd (omega arith)

  later : (r : Ref) (rs : List Ref) (side : Role) (i k : ℕ) → Held js rs side i k
      → Held js (r ∷ rs) side (suc i) (suc k)
  later r rs side i k h =
      let a = h.before in
      let b = h.behind in
      record {
        message = h.message;
        take = h.take;
        take_line = h.take_line;
        take_place = suc h.take_place;
        take_here = h.take_here;
        take_side = h.take_side;
        take_names = h.take_names;
        takes = h.takes;
        before = omega arith;
        send = h.send;
        send_line = h.send_line;
        send_place = suc h.send_place;
        send_here = h.send_here;
        send_side = h.send_side;
        send_names = h.send_names;
        sends = h.sends;
        behind = omega arith;
      }

  held : (refs : List Ref) (c : Counts) → Places js c refs d → (i k : ℕ) (r q : Ref) (x y : Line) → i < k
      → slice_get refs i ≡ Some r → slice_get refs k ≡ Some q → q.side ≡ partner_of r.side
      → Names js r x → Names js q y → y.reading < x.reading → Held js refs q.side i k
  held [] c h i k r q x y lt a b other nx ny less = absurd (cc)
  held (p ∷ ps) c h i zero r q x y lt a b other nx ny less = absurd (omega arith)
  held (p ∷ ps) c h zero (suc k) r q x y lt a b other nx ny less =
      let e : r ≡ p = cc in
      held_here p ps c h (suc k) q x y b (other ∙ ap (λ (z : Ref). partner_of z.side) e)
      (subst (λ z. Names js z x) e nx) ny less
  held (p ∷ ps) c h (suc i) (suc k) r q x y lt a b other nx ny less =
      later p ps q.side i k (held ps (advance c p.side) h.2 i k r q x y (omega arith) a b other nx ny less)

pub lesser_first : (js : Journals) → AreMatched js → ((side : Role) → NeverFalls (journal_of js side))
    → (refs : List Ref) → Placed js refs → PlacesLesserFirst (order_of js refs)
unfolding order_of
lesser_first js matched rising refs (d, p, whole) i k x y lt a b other less =
    let r = at_map (written js) refs i x a in
    let q = at_map (written js) refs k y b in
    let nr = placed_named js refs start d p i r.0 r.1 in
    let nq = placed_named js refs start d p k q.0 q.1 in
    let rx : x.line ≡ nr.0 = ap (λ (w : Written). w.line) r.2 ∙ written_line js r.0 nr.0 nr.1 in
    let qy : y.line ≡ nq.0 = ap (λ (w : Written). w.line) q.2 ∙ written_line js q.0 nq.0 nq.1 in
    let sx : x.side ≡ r.0.side = ap (λ (w : Written). w.side) r.2 ∙ written_side js r.0 in
    let sy : y.side ≡ q.0.side = ap (λ (w : Written). w.side) q.2 ∙ written_side js q.0 in
    let ex = ap (λ (l : Line). l.reading) rx in
    let ey = ap (λ (l : Line). l.reading) qy in
    let h = held js matched rising d whole refs start p i k r.0 q.0 nr.0 nq.0 lt r.1 q.1 (sym sy
    ∙ (other ∙ ap partner_of sx)) nr.1 nq.1 (omega arith) in
    subst (λ side. IsHeldUp (map (written js) refs) side i k) (sym sy) (record {
      message = h.message;
      take = written js h.take;
      take_place = h.take_place;
      take_here = map_at (written js) refs h.take_place h.take h.take_here;
      take_side = written_side js h.take ∙ h.take_side;
      takes = ap (λ (l : Line). l.event) (written_line js h.take h.take_line h.take_names) ∙ h.takes;
      before = h.before;
      send = written js h.send;
      send_place = h.send_place;
      send_here = map_at (written js) refs h.send_place h.send h.send_here;
      send_side = written_side js h.send ∙ h.send_side;
      sends = ap (λ (l : Line). l.event) (written_line js h.send h.send_line h.send_names) ∙ h.sends;
      behind = h.behind;
    })

-- ---- an order

-- what is taken of an earlier volume was passed over
abbrev pub EarlierArePassed : Journals → Type 0
EarlierArePassed js = (r : Ref) (l : Line) (m : PartnerMessage) → Names js r l → l.event ≡ Take m
    → was_sent_earlier (partner_lines js r.side) m.serial ≡ true → IsPassedOver js r.side m

sent_by : (js : Journals) (refs : List Ref) → AreMatched js → Placed js refs → EarlierArePassed js
    → (k : ℕ) (r : Ref) (l : Line) (m : PartnerMessage) → slice_get refs k ≡ Some r → Names js r l → l.event ≡ Take m
    → (b : Bool) → was_sent_earlier (partner_lines js r.side) m.serial ≡ b
    → IsSentBefore (order_of js refs) k r.side m ⊎ IsPassedOver js r.side m
unfolding order_of
sent_by js refs matched placed passed k r l m at names takes true e = inr (passed r l m names takes e)
sent_by js refs matched placed passed k r l m at names takes false e =
    let b = (placed_is_interleaving js refs placed).after_send k r m at (l, names, takes, e) in
    let s = matched_are_sent js matched r m (l, names, takes, e) in
    inl (
      b.0,
      written js (send_of js r.side m),
      b.1,
      map_at (written js) refs b.0 (send_of js r.side m) b.2,
      written_side js (send_of js r.side m),
      ap (λ (l : Line). l.event)
          (written_line js (send_of js r.side m) s.0 s.1) ∙ s.2,
    )

pub is_order : (js : Journals) → AreMatched js → EarlierArePassed js → (refs : List Ref) → Placed js refs
    → IsOrder js (order_of js refs)
unfolding order_of
is_order js matched passed refs placed = record { lines = λ side. lines_placed js side refs placed; sent = sent } where
  sent : (k : ℕ) (w : Written) (m : PartnerMessage) → slice_get (map (written js) refs) k ≡ Some w
      → w.line.event ≡ Take m → IsSentBefore (map (written js) refs) k w.side m ⊎ IsPassedOver js w.side m
  sent k w m at takes =
      let r = at_map (written js) refs k w at in
      let n = placed_named js refs start placed.0 placed.1 k r.0 r.1 in
      let line : w.line ≡ n.0 = ap (λ (w : Written). w.line) r.2 ∙ written_line js r.0 n.0 n.1 in
      let side : w.side ≡ r.0.side = ap (λ (w : Written). w.side) r.2 ∙ written_side js r.0 in
      subst (λ s. IsSentBefore (map (written js) refs) k s m ⊎ IsPassedOver js s m) (sym side)
      (sent_by js refs matched placed passed k r.0 n.0 m r.1 n.1 (ap (λ (l : Line). l.event) (sym line) ∙ takes)
      (was_sent_earlier (partner_lines js r.0.side) m.serial) refl)
