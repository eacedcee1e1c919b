-- What holds in a run that leaves two journals, where their volumes keep what proofs/Lawful says.
use Rattle.std.specs.Prelude.{◌≡◌, ◌≢◌, ℕ, ◌+◌, ◌-◌, ◌*◌, ◌<◌, ◌≤◌, ◌⊎◌, Bool, true, false, List, [], ◌∷◌, Some}
use Rattle.std.specs.Prelude.{slice_get, length}
use Rattle.std.specs.Str.{bytes_eq}
use Rattle.std.proofs.Common.{zero, suc, arith, sym, ◌∙◌, ap, subst, inl, inr, refl}
use Rattle.std.proofs.lemmas.Bool.{cases_lt}
use Rattle.std.proofs.lemmas.Option.{slice_get_read}
use Rattle.std.proofs.lemmas.Slice.Eq.{bytes_eq-Decides}
use Rattle.prefix_range.specs.Prefix.{Prefix, HasAddress, Overlaps}
use Rattle.binding_rules.specs.declared.role.Role.{Role}
use Rattle.binding_rules.specs.declared.role.Role.TheVariants.{Primary, Secondary}
use Rattle.binding_rules.specs.Role.{partner_of}
use Rattle.binding_rules.specs.declared.message.PartnerMessage.{PartnerMessage}
use Rattle.journal_lines.specs.declared.kept.Carried.{Carried}
use Rattle.journal_lines.specs.declared.event.Event.TheVariants.{Grant, Release, Send, Take}
use Rattle.journal_lines.specs.declared.event.Lease.{Lease}
use Rattle.journal_lines.specs.declared.line.Line.{Line}
use Rattle.causal_order.specs.declared.reference.Ref.{Ref}
use Rattle.causal_order.specs.declared.order.Precedes.{Precedes}
use Rattle.causal_order.specs.declared.order.Precedes.TheVariants.{Chain, Clock}
use Rattle.causal_order.specs.Journals.{Journals, journal_of, volume_of, open_of, Names}
use Rattle.causal_order.specs.Order.{IsLater, IsTakeOf, IsSurelyBefore, IsChain, EndsWith, Leads, WrittenBy}
use Rattle.causal_order.specs.Order.{WrittenFrom}
use Rattle.causal_order.specs.declared.certificate.Certificate.{Certificate}
use Rattle.causal_order.specs.declared.certificate.Piece.{Piece}
use Rattle.causal_order.specs.declared.certificate.ClearReason.{ClearReason}
use Rattle.causal_order.specs.declared.certificate.ClearReason.TheVariants.{Before, After}
use Rattle.causal_order.specs.declared.certificate.Foreign.{Foreign}
use Rattle.causal_order.specs.declared.certificate.Reason.{Reason}
use Rattle.causal_order.specs.declared.certificate.Reason.TheVariants.{Early, Late, Released}
use Rattle.attribution.specs.declared.delegation.Delegation.{Delegation}
use Rattle.attribution.specs.Delegation.{of_lease, of_carried, told_by}
use Rattle.attribution.specs.Volumes.{volume_at, volumes_in}
use Rattle.attribution.specs.Run.{Step, lines_of, At, closes, IsWithin, IsRun, KeepsSkew, StartInTime, IsValidAt, Holds}
use Rattle.attribution.specs.Run.{HoldsWhole, infinity}
use Rattle.attribution.specs.Acceptance.{Tells, IsCleared, IsCarried, IsAfterOpen, IsGrantedAfterOpen, IsPastPartner}
use Rattle.attribution.specs.Acceptance.{IsOutside, ClosesFrom, IsAccepted}
use Rattle.attribution.specs.Laws.{Stands, RefAt}
use Rattle.attribution.proofs.Tiling.{pieces_meet}
use Rattle.attribution.proofs.Places.{placed, standing, earlier, one_place, closes_le, earlier_volume, volumes_at}
use Rattle.attribution.proofs.Places.{volumes_length}
use Rattle.attribution.specs.Lawful.{IsOf, Lawful, StillCarried, Ended, GivenUp}

-- the index of the volume that the journal is
abbrev pub last : Journals → Role → ℕ
last js side = volume_of js side - 1

-- the run and the two journals that it leaves, with what legal volumes keep
pub record World (AreLegal : Role → List (List Line) → Type 0) (js : Journals) (skew : ℕ) (run : List Step) :
    Type 0 where
  pub is_run : IsRun AreLegal (volume_of js) run
  pub clocks : KeepsSkew skew (volume_of js) run
  pub some : (side : Role) → 0 < volume_of js side
  pub left : (side : Role) → journal_of js side ≡ volume_at (last js side) (lines_of side run)
  pub lawful : (side : Role) → Lawful (volumes_in (volume_of js side) (lines_of side run))

sides : (x y : Role) → (y ≡ x) ⊎ (y ≡ partner_of x)
sides Primary Primary = inl refl
sides Primary Secondary = inr refl
sides Secondary Primary = inr refl
sides Secondary Secondary = inl refl

partner_twice : (side : Role) → partner_of (partner_of side) ≡ side
partner_twice Primary = refl
partner_twice Secondary = refl

module _ (AreLegal : Role → List (List Line) → Type 0) (js : Journals) (skew : ℕ) (run : List Step)
    (world : World AreLegal js skew run) where
  within : (r : Ref) (i : ℕ) (s : Step) → RefAt js run r i s → IsWithin (volume_of js) run i s
  within r i s a =
      let some = world.some r.side in
      let v = a.stands.volume in
      subst (λ side. closes side run i < volume_of js side) (sym a.stands.of) (omega arith)

  pub ref_at : (r : Ref) (l : Line) → Names js r l → (i : ℕ) × (s : Step) × RefAt js run r i s × (s.line ≡ l)
  ref_at r l n =
      let h : slice_get (volume_at (last js r.side) (lines_of r.side run)) (r.number - 1) ≡ Some l =
      subst (λ ls. slice_get ls (r.number - 1) ≡ Some l) (world.left r.side) n.1 in
      let p = placed run r.side (last js r.side) (r.number - 1) l h in
      (p.0, p.1, record { positive = n.0; stands = p.2; names = (n.0, n.1 ∙ ap (λ x. Some x) (sym p.3)) }, p.3)

  -- a reference names one line
  one_line : (r : Ref) (l m : Line) → Names js r l → Names js r m → l ≡ m
  one_line r l m a b = let p = a.1 in let q = b.1 in cc

  -- what stands in the journal's volume is a line of the journal
  pub Here : ℕ → Step → Type 0
  Here i s = (r : Ref) × (r.side ≡ s.side) × RefAt js run r i s

  line_there : (i : ℕ) (s : Step) → At run i s → closes s.side run i ≡ last js s.side → Here i s
  unfolding Here
  line_there i s at here =
      let st = standing run s.side i s at refl in
      let k : (st.0 + 1) - 1 ≡ st.0 = omega arith in
      let h : slice_get (journal_of js s.side) st.0 ≡ Some s.line =
      subst (λ ls. slice_get ls st.0 ≡ Some s.line) (sym (world.left s.side))
      (subst (λ n. slice_get (volume_at n (lines_of s.side run)) st.0 ≡ Some s.line) here st.2) in (
        record { side = s.side; number = st.0 + 1 },
        refl,
        record {
          positive = omega arith;
          stands = rw k (subst (λ n. Stands run s.side n st.0 i s) here st.1);
          names = (omega arith, rw k h);
        },
      )

  same_at : (r : Ref) (i j : ℕ) (s t : Step) → RefAt js run r i s → RefAt js run r j t → i ≡ j
  same_at r i j s t a b = one_place run r.side (last js r.side) (r.number - 1) i j s t a.stands b.stands

  later_at : (r q : Ref) (i j : ℕ) (s t : Step) → IsLater r q → RefAt js run r i s → RefAt js run q j t → i < j
  later_at r q i j s t later a b =
      let there : Stands run r.side (last js r.side) (q.number - 1) j t =
      subst (λ side. Stands run side (last js side) (q.number - 1) j t) later.0 b.stands in
      let x = a.positive in
      earlier run r.side (last js r.side) (r.number - 1) (q.number - 1) i j s t a.stands there (omega arith)

  -- what stands in an earlier volume of the line's side stands before it
  before_line : (r : Ref) (i j : ℕ) (s t : Step) → RefAt js run r i s → t.side ≡ r.side
      → closes t.side run j < last js t.side → j < i
  before_line r i j s t a of lt =
      let v = a.stands.volume in
      let lt' : closes r.side run j < last js r.side = subst (λ side. closes side run j < last js side) of lt in
      earlier_volume r.side run j i (omega arith)

  -- the letter that is taken at j was sent at n, and the line r sends it at i
  sent_at : (r : Ref) (m : PartnerMessage) (i n : ℕ) (s t : Step) → RefAt js run r i s → s.line.event ≡ Send m
      → At run n t → t.side ≡ r.side → t.line.event ≡ Send m → (n < i) ⊎ (i ≤ n) → i ≤ n
  sent_at r m i n s t a sends at of sends' (inr le) = le
  sent_at r m i n s t a sends at of sends' (inl lt) =
      let lines = lines_of r.side run in
      let some = world.some r.side in
      let st = standing run r.side n t at of in
      let v = a.stands.volume in
      let le = closes_le r.side run n i (omega arith) in
      let here : slice_get (volume_at (last js r.side) lines) (r.number - 1) ≡ Some s.line =
      subst (λ ls. slice_get ls (r.number - 1) ≡ Some s.line) (world.left r.side) a.names.1 in
      let same = (world.lawful r.side).once (closes r.side run n) (last js r.side) st.0 (r.number - 1)
      (volume_at (closes r.side run n) lines) (volume_at (last js r.side) lines) t.line s.line m m (let len =
      volumes_length (volume_of js r.side) lines in omega arith)
      (volumes_at (volume_of js r.side) lines (closes r.side run n) (omega arith))
      (volumes_at (volume_of js r.side) lines (last js r.side) (omega arith)) st.2 sends' here sends refl in
      let there : Stands run r.side (last js r.side) (r.number - 1) n t =
      subst (λ k. Stands run r.side (last js r.side) k n t) same.1
      (subst (λ v. Stands run r.side v st.0 n t) same.0 st.1) in
      let e : i ≡ n = one_place run r.side (last js r.side) (r.number - 1) i n s t a.stands there in
      omega arith

  take_at : (r q : Ref) (i j : ℕ) (s t : Step) → IsTakeOf js r q → RefAt js run r i s → RefAt js run q j t → i < j
  take_at r q i j s t takes a b =
      let m = takes.1.0 in
      let sends : s.line.event ≡ Send m = ap (λ (l : Line). l.event) (one_line r s.line takes.1.1 a.names takes.1.3)
      ∙ takes.1.4 in
      let taken : t.line.event ≡ Take m = ap (λ (l : Line). l.event) (one_line q t.line takes.1.2 b.names takes.1.5)
      ∙ takes.1.6 in
      let source = world.is_run.sent j t m b.stands.here (within q j t b) taken in
      let of : source.1.side ≡ r.side = (source.4 ∙ ap partner_of (b.stands.of ∙ takes.0)) ∙ partner_twice r.side in
      let le = sent_at r m i source.0 s source.1 a sends source.3 of source.5 (cases_lt source.0 i) in
      let lt = source.2 in
      omega arith

  link_at : (r q : Ref) (i j : ℕ) (s t : Step) → IsLater r q ⊎ IsTakeOf js r q → RefAt js run r i s
      → RefAt js run q j t → i < j
  link_at r q i j s t (inl later) a b = later_at r q i j s t later a b
  link_at r q i j s t (inr takes) a b = take_at r q i j s t takes a b

  chain_head : (r : Ref) (rest : List Ref) → IsChain js (r ∷ rest) → (l : Line) × Names js r l
  chain_head r [] c = c
  chain_head r (s ∷ rs) c = c.0

  -- the lines of a chain stand in its order
  chain_at : (rest : List Ref) (r q : Ref) (i j : ℕ) (s t : Step) → IsChain js (r ∷ rest) → EndsWith (r ∷ rest) q
      → RefAt js run r i s → RefAt js run q j t
      → (i ≤ j) × (2 ≤ length (r ∷ rest) → i < j)
  chain_at [] r q i j s t c e a b =
      let same = same_at q i j s t (subst (λ x. RefAt js run x i s) e a) b in
      (omega arith, λ two. absurd (omega arith))
  chain_at (u ∷ us) r q i j s t c e a b =
      let head = chain_head u us c.2 in
      let n = ref_at u head.0 head.1 in
      let first = link_at r u i n.0 s n.1 c.1 a n.2 in
      let rest = (chain_at us u q n.0 j n.1 t c.2 e n.2 b).0 in
      (omega arith, λ two. omega arith)

  pub leads_at : (chain : List Ref) (r q : Ref) (i j : ℕ) (s t : Step) → Leads js chain r q → RefAt js run r i s
      → RefAt js run q j t
      → (i ≤ j) × (2 ≤ length chain → i < j)
  leads_at chain r q i j s t l a b =
      let c : IsChain js (r ∷ l.rest) = subst (IsChain js) l.begins l.links in
      let e : EndsWith (r ∷ l.rest) q = subst (λ x. EndsWith x q) l.begins l.ends in
      let both = chain_at l.rest r q i j s t c e a b in
      (both.0, λ two. both.1 (subst (λ (x : List Ref). 2 ≤ length x) l.begins two))

  -- each line of a chain stands somewhere, at or before its last line
  member_at : (chain : List Ref) (q r : Ref) (j k : ℕ) (t : Step) → IsChain js chain → EndsWith chain q
      → RefAt js run q j t → slice_get chain k ≡ Some r
      → (i : ℕ) × (s : Step) × RefAt js run r i s × (i ≤ j)
  member_at [] q r j k t c e b at = absurd (cc)
  member_at (u ∷ us) q r j zero t c e b at =
      let same : u ≡ r = cc in
      let head = chain_head u us c in
      let n = ref_at u head.0 head.1 in
      (n.0, n.1, subst (λ x. RefAt js run x n.0 n.1) same n.2, (chain_at us u q n.0 j n.1 t c e n.2 b).0)
  member_at (u ∷ []) q r j (suc k) t c e b at = absurd (cc)
  member_at (u ∷ v ∷ vs) q r j (suc k) t c e b at = member_at (v ∷ vs) q r j k t c.2 e b at

  pub written_by : (chain : List Ref) (r : Ref) (x i : ℕ) (s : Step) → WrittenBy js chain r x → RefAt js run r i s
      → s.moment ≤ x + skew
  written_by chain r x i s w a =
      let p = ref_at w.end w.line w.names in
      let le = (leads_at chain r w.end i p.0 s p.1 w.leads a p.2).0 in
      let time = world.is_run.in_time i p.0 s p.1 le a.stands.here p.2.stands.here in
      let near = (world.clocks p.0 p.1 p.2.stands.here (within w.end p.0 p.1 p.2)).1 in
      let read : p.1.line.reading ≡ x = ap (λ (l : Line). l.reading) p.3 ∙ w.read in
      omega arith

  pub written_from : (chain : List Ref) (r : Ref) (x i : ℕ) (s : Step) → WrittenFrom js chain r x → RefAt js run r i s
      → x ≤ s.moment + skew
  written_from chain r x i s w a =
      let p = ref_at w.begin w.line w.names in
      let le = (leads_at chain w.begin r p.0 i p.1 s w.leads p.2 a).0 in
      let time = world.is_run.in_time p.0 i p.1 s le p.2.stands.here a.stands.here in
      let near = (world.clocks p.0 p.1 p.2.stands.here (within w.begin p.0 p.1 p.2)).0 in
      let read : p.1.line.reading ≡ x = ap (λ (l : Line). l.reading) p.3 ∙ w.read in
      omega arith

  sooner : (i j : ℕ) (s t : Step) → At run i s → At run j t → s.moment < t.moment → i < j
  sooner i j s t a b lt = elim (cases_lt i j) [
    | inl h ↦ h
    | inr h ↦ (let x = world.is_run.in_time j i t s h b a in
        absurd (omega arith))
  ]

  surely_before : (order : Precedes) (r q : Ref) (i j : ℕ) (s t : Step) → IsSurelyBefore js skew order r q
      → RefAt js run r i s → RefAt js run q j t → i < j
  surely_before (Chain chain) r q i j s t h a b = (leads_at chain r q i j s t h.0 a b).1 h.1
  surely_before (Clock first second) r q i j s t h a b =
      let x = written_by first r h.0 i s h.2 a in
      let y = written_from second q h.1 j t h.3 b in
      let gap = h.4 in
      sooner i j s t a.stands.here b.stands.here (omega arith)

  -- A step is of an earlier volume, or a line of the journal, or its moment is at or past the end.
  pub When : ℕ → ℕ → Step → Type 0
  When to i s = (closes s.side run i < last js s.side) ⊎ (Here i s ⊎ (to ≤ s.moment))

  pub past_end : (to i : ℕ) (s : Step) → ClosesFrom (journal_of js s.side) (to + skew) → At run i s
      → last js s.side < closes s.side run i → to ≤ s.moment
  past_end to i s closed at lt =
      let k = closed.1.0 in
      let found : slice_get (journal_of js s.side) k ≡ Some closed.0 =
      slice_get_read (journal_of js s.side) (length (journal_of js s.side)) k closed.0 refl closed.1.1
      (sym closed.1.2) in
      let k' : (k + 1) - 1 ≡ k = omega arith in
      let r : Ref = record { side = s.side; number = k + 1 } in
      let p = ref_at r closed.0 (omega arith, rw k' found) in
      let near = (world.clocks p.0 p.1 p.2.stands.here (within r p.0 p.1 p.2)).0 in
      let read : p.1.line.reading ≡ closed.0.reading = ap (λ (l : Line). l.reading) p.3 in
      let v = p.2.stands.volume in
      let after = earlier_volume s.side run p.0 i (omega arith) in
      let time = world.is_run.in_time p.0 i p.1 s (omega arith) p.2.stands.here at in
      let late = closed.3 in
      omega arith

  when : (to i : ℕ) (s : Step) → ClosesFrom (journal_of js s.side) (to + skew) → At run i s → When to i s
  unfolding When
  when to i s closed at = elim (cases_lt (closes s.side run i) (last js s.side)) [
    | inl lt ↦ inl lt
    | inr ge ↦ elim (cases_lt (last js s.side) (closes s.side run i)) [
      | inl gt ↦ inr (inr (past_end to i s closed at gt))
      | inr le ↦ inr (inl (line_there i s at (omega arith)))
    ]
  ]

  -- a cleared release is not after the grant and by m
  cleared_apart : (r grant : Ref) (to m i j : ℕ) (s t : Step) (why : ClearReason) → IsCleared js skew r grant to why
      → RefAt js run grant i s → RefAt js run r j t
      → i < j → t.moment ≤ m → m < to → ⊥
  cleared_apart r grant to m i j s t (Before order) sure a b after by before = let lt =
      surely_before order r grant j i t s sure b a in absurd (omega arith)
  cleared_apart r grant to m i j s t (After chain) late a b after by before = let x =
      written_from chain r late.0 j t late.1 b in let y = late.2 in absurd (omega arith)

  -- the side's earlier volumes are before the piece's grant
  earlier_before_by : (p : Piece) (i j : ℕ) (s t : Step) → (x : ℕ) → WrittenFrom js p.earliest p.grant x
      → RefAt js run p.grant i s → IsGrantedAfterOpen js skew p t.side
      → At run j t → closes t.side run j < last js t.side → j < i
  earlier_before_by p i j s t x from a (inl chain) at lt =
      let k = slice_get_read p.earliest (length p.earliest) chain.1.0 chain.0 refl chain.1.1 (sym chain.1.2) in
      let n = member_at p.earliest p.grant chain.0 i chain.1.0 s from.leads.links from.leads.ends a k in
      let before = before_line chain.0 n.0 j n.1 t n.2 (sym chain.2) lt in
      let le = n.3 in
      omega arith
  earlier_before_by p i j s t x from a (inr clock) at lt =
      let o = ref_at (open_of t.side) clock.0 clock.1 in
      let before = before_line (open_of t.side) o.0 j o.1 t o.2 refl lt in
      let near = (world.clocks o.0 o.1 o.2.stands.here (within (open_of t.side) o.0 o.1 o.2)).1 in
      let read : o.1.line.reading ≡ clock.0.reading = ap (λ (l : Line). l.reading) o.3 in
      let since = written_from p.earliest p.grant clock.2.0 i s clock.2.1 a in
      let gap = clock.2.2 in
      let order = sooner o.0 i o.1 s o.2.stands.here a.stands.here (omega arith) in
      omega arith

  earlier_before : (p : Piece) (i j : ℕ) (s t : Step) → (x : ℕ) → WrittenFrom js p.earliest p.grant x
      → RefAt js run p.grant i s
      → IsPastPartner js skew p → At run j t → closes t.side run j < last js t.side
      → (t.side ≡ p.grant.side) ⊎ (t.side ≡ partner_of p.grant.side) → j < i
  earlier_before p i j s t x from a opened at lt (inl same) = before_line p.grant i j s t a same lt
  earlier_before p i j s t x from a opened at lt (inr differs) =
      earlier_before_by p i j s t x from a
      (subst (IsGrantedAfterOpen js skew p) (sym differs)
      (opened.after (subst (λ side. 1 < volume_of js side) differs (omega arith)))) at lt

  -- no release comes between the grant and a moment in the piece
  not_released_by : (p : Piece) (transit : ℕ) (c : Certificate) (h : IsCarried js skew transit c p) → p.to ≤ c.to
      → IsPastPartner js skew p
      → (m i j : ℕ) (s t : Step) → m < p.to → RefAt js run p.grant i s → i < j → At run j t
      → t.line.event ≡ Release h.0.lease.client h.0.lease.iaid h.0.lease.prefix → t.moment ≤ m
      → When c.to j t → ⊥
  unfolding When Here
  not_released_by p transit c h within_c opened m i j s t before a after at releases by (inl lt) =
      let order = earlier_before p i j s t h.0.earliest h.0.written_from a opened at lt (sides p.grant.side t.side) in
      absurd (omega arith)
  not_released_by p transit c h within_c opened m i j s t before a after at releases by (inr (inr late)) =
      absurd (omega arith)
  not_released_by p transit c h within_c opened m i j s t before a after at releases by (inr (inl there)) =
      let k = h.1 there.0 h.0.lease h.0.grants (t.line, there.2.names, releases) in
      cleared_apart there.0 p.grant p.to m i j s t k.0.why k.3 a there.2 after by before

  module _ (transit : ℕ) (starts : ℕ → ℕ) (reaches : StartInTime transit run starts) where
    -- a grant that carries a piece is valid in it
    carries : (p : Piece) (c : Certificate) → IsCarried js skew transit c p → IsPastPartner js skew p
        → ((side : Role) → ClosesFrom (journal_of js side) (c.to + skew)) → p.to ≤ c.to
        → (m : ℕ) → p.from ≤ m → m < p.to → HoldsWhole run starts c.prefix c.holder m
    carries p c h opened closed within_c m from to =
        let a = ref_at p.grant h.0.grants.0 h.0.grants.1 in
        let grants : a.1.line.event ≡ Grant h.0.lease = ap (λ (l : Line). l.event) a.3 ∙ h.0.grants.2 in
        let by = written_by p.latest p.grant h.0.latest a.0 a.1 h.0.written_by a.2 in
        let since = written_from p.earliest p.grant h.0.earliest a.0 a.1 h.0.written_from a.2 in
        let begun = h.0.begun in
        let start = reaches a.0 a.1 h.0.lease a.2.stands.here grants in
        let soon = start.0 in
        let late = start.1 in
        let ends : (h.0.lease.valid ≡ infinity) ⊎ (m < starts a.0 + 1000 * h.0.lease.valid) =
        elim h.0.lasts [ inl x ↦ inl x | inr x ↦ inr (omega arith) ] in (
          a.0,
          h.0.lease,
          record {
            step = a.1;
            here = a.2.stands.here;
            grants = grants;
            begun = omega arith;
            lasts = ends;
            kept = λ r. not_released_by p transit c h within_c opened m a.0 r.0 a.1 r.1 to a.2 r.2 r.3 r.4 r.5
                (when c.to r.0 r.1 (closed r.1.side) r.3);
          },
          h.0.holder,
          h.0.round,
        )

    -- another client's lease that does not touch the interval is not valid in it
    outside_invalid : (r : Ref) (g : Lease) (from to m i : ℕ) (reason : Reason) (v : IsValidAt run starts i g m)
        → IsOutside js skew transit r (of_lease g) from to reason
        → RefAt js run r i v.step → from ≤ m → m < to → ⊥
    outside_invalid r g from to m i (Early chain) v out a ge lt =
        let x = written_by chain r out.0 i v.step out.1 a in
        let y = out.2.1 in
        let late = (reaches i v.step g v.here v.grants).1 in
        elim v.lasts [ inl e ↦ out.2.0 e | inr z ↦ absurd (omega arith) ]
    outside_invalid r g from to m i (Late chain) v out a ge lt =
        let x = written_from chain r out.1.0 i v.step out.1.1 a in
        let y = out.1.2 in
        let z = v.begun in
        let soon = (reaches i v.step g v.here v.grants).0 in
        absurd (omega arith)
    outside_invalid r g from to m i (Released release order chain) v out a ge lt =
        let b = ref_at release out.0.0 out.0.1 in
        let after = surely_before order r release i b.0 v.step b.1 out.1 a b.2 in
        let by = written_by chain release out.2.0 b.0 b.1 out.2.1 b.2 in
        let y = out.2.2 in
        v.kept (b.0, b.1, after, b.2.stands.here, ap (λ (l : Line). l.event) b.3 ∙ out.0.2, omega arith)

    -- nor is one of an earlier volume, by its carry line ..
    carried_invalid : (r : Ref) (g : Lease) (o : Carried) (from to m i n : ℕ) (s : Step) (reason : Reason)
        (v : IsValidAt run starts i g m) → IsOutside js skew transit r (of_carried o) from to reason
        → IsOf o (of_lease g) → v.step.line.reading + 1000 * g.valid ≤ o.end → (g.valid ≡ infinity → ⊥)
        → v.step.moment ≤ v.step.line.reading + skew
        → RefAt js run r n s → i < n → from ≤ m → m < to → ⊥
    carried_invalid r g o from to m i n s (Early chain) v out of le finite near a before ge lt =
        let y = out.2 in
        let late = (reaches i v.step g v.here v.grants).1 in
        elim v.lasts [ inl e ↦ finite e | inr z ↦ absurd (omega arith) ]
    carried_invalid r g o from to m i n s (Late chain) v out of le finite near a before ge lt = out.0
    carried_invalid r g o from to m i n s (Released release order chain) v out of le finite near a before ge lt =
        let b = ref_at release out.0.0 out.0.1 in
        let after = surely_before order r release n b.0 s b.1 out.1 a b.2 in
        let by = written_by chain release out.2.0 b.0 b.1 out.2.1 b.2 in
        let y = out.2.2 in
        let same : Release o.client o.iaid o.prefix ≡ Release g.client g.iaid g.prefix =
        (let p = of.0 in let q = of.1 in let w = of.2 in cc) in
        v.kept (b.0, b.1, omega arith, b.2.stands.here, (ap (λ (l : Line). l.event) b.3 ∙ out.0.2) ∙ same, omega arith)

    -- .. by its end ..
    ended_invalid : (g : Lease) (from m i : ℕ) (v : IsValidAt run starts i g m) (l : Line)
        → v.step.line.reading + 1000 * g.valid ≤ l.reading → l.reading + skew + transit ≤ from
        → (g.valid ≡ infinity → ⊥) → v.step.moment ≤ v.step.line.reading + skew → from ≤ m → ⊥
    ended_invalid g from m i v l le open_by finite near ge =
        let late = (reaches i v.step g v.here v.grants).1 in
        elim v.lasts [ inl e ↦ finite e | inr z ↦ absurd (omega arith) ]

    -- .. or by a release of an earlier volume
    given_up_invalid : (g : Lease) (from m i n k : ℕ) (v : IsValidAt run starts i g m) (l o : Line)
        → Stands run v.step.side n k i v.step
        → (x y : ℕ) → slice_get (volume_at x (lines_of v.step.side run)) y ≡ Some l
        → l.event ≡ Release g.client g.iaid g.prefix → x < last js v.step.side → (n < x) ⊎ ((n ≡ x) × (k < y))
        → Names js (open_of v.step.side) o → o.reading + skew + transit ≤ from → from ≤ m → ⊥
    given_up_invalid g from m i n k v l o st x y at releases earlier_one after opens open_by ge =
        let p = placed run v.step.side x y l at in
        let q = ref_at (open_of v.step.side) o opens in
        let e = p.2.volume in
        let f = q.2.stands.volume in
        let g_at = st.volume in
        let order : i < p.0 = elim after [
          | inl lt ↦ earlier_volume v.step.side run i p.0 (omega arith)
          | inr same ↦ earlier run v.step.side n k y i p.0 v.step p.1 st
              (subst (λ z. Stands run v.step.side z y p.0 p.1) (sym same.0) p.2) same.1
        ] in
        let before = earlier_volume v.step.side run p.0 q.0 (omega arith) in
        let time = world.is_run.in_time p.0 q.0 p.1 q.1 (omega arith) p.2.here q.2.stands.here in
        let near = (world.clocks q.0 q.1 q.2.stands.here (within (open_of v.step.side) q.0 q.1 q.2)).1 in
        let read : q.1.line.reading ≡ o.reading = ap (λ (z : Line). z.reading) q.3 in
        v.kept (p.0, p.1, order, p.2.here, ap (λ (z : Line). z.event) p.3 ∙ releases, omega arith)

    -- an accepted certificate is true in this run
    pub held : (c : Certificate) → IsAccepted js skew transit c → (m : ℕ) → c.from ≤ m → m < c.to
        → HoldsWhole run starts c.prefix c.holder m
    held c ok m ge lt =
        let t = pieces_meet c.pieces c.from c.to m ok.tiled ge lt in
        carries t.0 c (subst (IsCarried js skew transit c) t.1.2 (ok.carried t.1.0 t.0 t.1.1))
        (subst (IsPastPartner js skew) t.1.2 (ok.opened.pieces t.1.0 t.0 t.1.1)) ok.closed t.4 m t.2 t.3

    -- what the certificate says of a foreign delegation
    said_of : (c : Certificate) → IsAccepted js skew transit c → (r : Ref) (d : Delegation) → Tells js r d
        → d.client ≢ c.holder → Overlaps d.prefix c.prefix
        → (reason : Reason) × IsOutside js skew transit r d c.from c.to reason
    said_of c ok r d tells differs over =
        let f = ok.covered r d (tells, differs, over) in
        let out = subst (λ (x : Foreign). (h : Delegation) × Tells js x.grant h
        × IsOutside js skew transit x.grant h c.from c.to x.reason) f.1.2 (ok.outside f.1.0 f.0 f.1.1) in
        let at_r = subst (λ x. (h : Delegation) × Tells js x h × IsOutside js skew transit x h c.from c.to f.0.reason)
        f.2 out in
        let one : at_r.1.0 ≡ tells.0 = one_line r at_r.1.0 tells.0 at_r.1.1 tells.1 in
        let same : Some at_r.0 ≡ Some d = (sym at_r.1.2 ∙ ap (λ (l : Line). told_by l.event) one) ∙ tells.2 in
        let is : at_r.0 ≡ d = cc in
        (f.0.reason, subst (λ x. IsOutside js skew transit r x c.from c.to f.0.reason) is at_r.2)

    Asked : Certificate → (m address i : ℕ) (g : Lease) → IsValidAt run starts i g m → Type 0
    Asked c m address i g v = (c.from ≤ m) × (m < c.to) × HasAddress c.prefix address × HasAddress g.prefix address
        × (g.client ≢ c.holder)

    -- what is owed to the lease at its line
    abbrev carried_by : Lease → ℕ → Carried
    carried_by g reading = record {
      client = g.client;
      iaid = g.iaid;
      prefix = g.prefix;
      end =
          reading + 1000 * g.valid;
    }

    by_carry : (c : Certificate) → IsAccepted js skew transit c
        → (m address i : ℕ) (g : Lease) (v : IsValidAt run starts i g m) → Asked c m address i g v
        → closes v.step.side run i < last js v.step.side → (g.valid ≡ infinity → ⊥)
        → v.step.moment ≤ v.step.line.reading + skew
        → StillCarried (volume_at (last js v.step.side) (lines_of v.step.side run)) (carried_by g v.step.line.reading)
        → ⊥
    unfolding Asked StillCarried
    by_carry c ok m address i g v q lt finite near x =
        let k' : (x.0 + 1) - 1 ≡ x.0 = omega arith in
        let r : Ref = record { side = v.step.side; number = x.0 + 1 } in
        let at : slice_get (journal_of js v.step.side) x.0 ≡ Some x.1 =
        subst (λ ls. slice_get ls x.0 ≡ Some x.1) (sym (world.left v.step.side)) x.3 in
        let names : Names js r x.1 = (omega arith, rw k' at) in
        let said = said_of c ok r (of_carried x.2) (x.1, names, ap told_by x.4) (λ e. q.4 (x.5.0 ∙ e)) (
          address,
          subst (λ (p : Prefix). HasAddress p address) x.5.2 q.3,
          q.2,
        ) in
        let n = ref_at r x.1 names in
        carried_invalid r g x.2 c.from c.to m i n.0 n.1 said.0 v said.1 x.5 x.6 finite near n.2
        (before_line r n.0 i n.1 v.step n.2 refl lt) q.0 q.1

    by_end : (c : Certificate) → IsAccepted js skew transit c
        → (m address i : ℕ) (g : Lease) (v : IsValidAt run starts i g m) → Asked c m address i g v
        → (g.valid ≡ infinity → ⊥) → v.step.moment ≤ v.step.line.reading + skew
        → IsAfterOpen js skew transit c.from v.step.side
        → Ended (volume_at (last js v.step.side) (lines_of v.step.side run)) (carried_by g v.step.line.reading) → ⊥
    unfolding Asked Ended
    by_end c ok m address i g v q finite near opens x =
        let at : slice_get (journal_of js v.step.side) 0 ≡ Some x.0 =
        subst (λ ls. slice_get ls 0 ≡ Some x.0) (sym (world.left v.step.side)) x.1 in
        let first : slice_get (journal_of js v.step.side) 0 ≡ Some opens.0 = opens.1.1 in
        let one : x.0 ≡ opens.0 = cc in
        ended_invalid g c.from m i v x.0 x.2 (subst (λ (o : Line). o.reading + skew + transit ≤ c.from)
        (sym one) opens.2) finite near q.0

    by_release : (c : Certificate) → IsAccepted js skew transit c
        → (m address i : ℕ) (g : Lease) (v : IsValidAt run starts i g m) → Asked c m address i g v
        → (k : ℕ) → Stands run v.step.side (closes v.step.side run i) k i v.step
        → IsAfterOpen js skew transit c.from v.step.side
        → GivenUp (volumes_in (volume_of js v.step.side) (lines_of v.step.side run)) (closes v.step.side run i) k
        (last js v.step.side) (carried_by g v.step.line.reading) → ⊥
    unfolding Asked GivenUp
    by_release c ok m address i g v q k st opens x =
        let earlier_one = x.4 in
        let at_vs = volumes_at (volume_of js v.step.side) (lines_of v.step.side run) x.0 (omega arith) in
        let found = x.6 in
        let one : x.2 ≡ volume_at x.0 (lines_of v.step.side run) = cc in
        given_up_invalid g c.from m i (closes v.step.side run i) k v x.3 opens.0 st x.0 x.1
        (subst (λ ls. slice_get ls x.1 ≡ Some x.3) one x.7) x.8 earlier_one x.5 opens.1 opens.2 q.0

    alone_earlier : (c : Certificate) → IsAccepted js skew transit c
        → (m address i : ℕ) (g : Lease) (v : IsValidAt run starts i g m) → Asked c m address i g v
        → closes v.step.side run i < last js v.step.side → ⊥
    alone_earlier c ok m address i g v q lt =
        let side = v.step.side in
        let lines = lines_of side run in
        let some = world.some side in
        let st = standing run side i v.step v.here refl in
        let law = world.lawful side in
        let upto = volumes_at (volume_of js side) lines in
        let n = closes side run i in
        let in_vs = upto n (omega arith) in
        let w_vs = upto (last js side) (omega arith) in
        let small = law.finite n st.0 (volume_at n lines) v.step.line g in_vs st.2 v.grants in
        let finite : g.valid ≡ infinity → ⊥ = λ e. omega arith in
        let near = (world.clocks i v.step v.here (omega arith)).1 in
        let opens = ok.opened.interval side (omega arith) in
        elim (law.accounted (last js side) n st.0 (volume_at n lines) (volume_at (last js side) lines) v.step.line g
        (carried_by g v.step.line.reading) lt in_vs w_vs st.2 v.grants (refl, refl, refl) refl) [
          | inl x ↦ by_carry c ok m address i g v q lt finite near x
          | inr y ↦ elim y [
            | inl x ↦ by_end c ok m address i g v q finite near opens x
            | inr x ↦ by_release c ok m address i g v q st.0 st.1 opens x
          ]
        ]

    alone_here : (c : Certificate) → IsAccepted js skew transit c
        → (m address i : ℕ) (g : Lease) (v : IsValidAt run starts i g m) → Asked c m address i g v → Here i v.step → ⊥
    unfolding Asked Here
    alone_here c ok m address i g v q there =
        let said = said_of c ok there.0 (of_lease g) (v.step.line, there.2.names, ap told_by v.grants) q.4 (
          address,
          q.3,
          q.2,
        ) in
        outside_invalid there.0 g c.from c.to m i said.0 v said.1 there.2 q.0 q.1

    alone_by : (c : Certificate) → IsAccepted js skew transit c
        → (m address i : ℕ) (g : Lease) (v : IsValidAt run starts i g m) → Asked c m address i g v → When c.to i v.step
        → ⊥
    unfolding Asked When
    alone_by c ok m address i g v q (inl lt) = alone_earlier c ok m address i g v q lt
    alone_by c ok m address i g v q (inr (inl there)) = alone_here c ok m address i g v q there
    alone_by c ok m address i g v q (inr (inr late)) =
        let x = v.begun in
        let soon = (reaches i v.step g v.here v.grants).0 in
        let lt = q.1 in
        absurd (omega arith)

    pub alone : (c : Certificate) → IsAccepted js skew transit c → (m address : ℕ) (client : List ℕ) → c.from ≤ m
        → m < c.to → HasAddress c.prefix address
        → Holds run starts address client m → client ≡ c.holder
    unfolding Asked
    alone c ok m address client ge lt mine h = by_test (bytes_eq client c.holder) refl where
      by_test : (b : Bool) → bytes_eq client c.holder ≡ b → client ≡ c.holder
      by_test true e = (bytes_eq-Decides client c.holder).0 e
      by_test false e =
          let differs : h.1.client ≢ c.holder = λ same. let q =
          (bytes_eq-Decides client c.holder).1 (sym h.3 ∙ same) in absurd (cc) in
          absurd (alone_by c ok m address h.0 h.1 h.2 (ge, lt, mine, h.4, differs)
          (when c.to h.0 h.2.step (ok.closed h.2.step.side) h.2.here))
