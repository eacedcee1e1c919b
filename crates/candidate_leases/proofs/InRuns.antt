-- Where single lines stand in a run that leaves two journals.
use Rattle.std.specs.Prelude.{◌≡◌, ℕ, ◌+◌, ◌-◌, ◌<◌, ◌≤◌, ◌⊎◌, List, [], ◌∷◌, Some, slice_get}
use Rattle.std.proofs.Common.{arith, sym, subst, inl, inr, refl}
use Rattle.std.proofs.lemmas.Bool.{cases_lt}
use Rattle.binding_rules.specs.declared.role.Role.{Role}
use Rattle.binding_rules.specs.declared.role.Role.TheVariants.{Primary, Secondary}
use Rattle.binding_rules.specs.Role.{partner_of}
use Rattle.book_rules.specs.NextHead.{AreLegal}
use Rattle.causal_order.specs.declared.reference.Ref.{Ref}
use Rattle.causal_order.specs.Journals.{Journals, journal_of, open_of}
use Rattle.attribution.specs.Volumes.{volume_at}
use Rattle.attribution.specs.Run.{Step, lines_of, At, closes}
use Rattle.attribution.specs.Acceptance.{ClosesFrom}
use Rattle.attribution.specs.Laws.{Stands, RefAt}
use Rattle.attribution.proofs.Places.{standing, earlier_volume}
use Rattle.attribution.proofs.Runs.{last, World, ref_at, leads_at, written_by, written_from, past_end}
use Rattle.plain_search.specs.Search.{IsReadAt}
use Rattle.plain_search.proofs.Orders.{line_read, by_alone, from_alone}
use Rattle.evidence_report.specs.declared.mark.LineReading.{LineReading}
use Rattle.evidence_report.specs.Marks.{Reads}
use Rattle.candidate_leases.specs.Conditions.{Asked, OpensAt, IsBeforeClose}
use Rattle.candidate_leases.specs.Near.{IsSurelyAfter}

pub sides : (x y : Role) → (y ≡ x) ⊎ (y ≡ partner_of x)
sides Primary Primary = inl refl
sides Primary Secondary = inr refl
sides Secondary Primary = inr refl
sides Secondary Secondary = inl refl

-- the journal of a side that is closed late enough reaches the moment's end
pub reaches : (js : Journals) (q : Asked) (side : Role) → IsBeforeClose js q side
    → ClosesFrom (journal_of js side) ((q.at + 1) + q.skew)
reaches js q side h =
    let l = h.closes.some in
    let read = h.closes.each l.0 l.1 l.2 in
    let before = h.before in
    (l.0, l.1, l.2, omega arith)

module _ (js : Journals) (skew : ℕ) (run : List Step) (world : World AreLegal js skew run) where
  -- what stands in the side's journal is a line of it
  unfoldable pub LineOf : ℕ → Step → Type 0
  LineOf i s = (r : Ref) × (r.side ≡ s.side) × RefAt js run r i s

  pub line_there : (i : ℕ) (s : Step) → At run i s → closes s.side run i ≡ last js s.side → LineOf i s
  unfolding LineOf
  line_there i s at here =
      let st = standing run s.side i s at refl in
      let k : (st.0 + 1) - 1 ≡ st.0 = omega arith in
      let h : slice_get (journal_of js s.side) st.0 ≡ Some s.line =
      subst (λ ls. slice_get ls st.0 ≡ Some s.line) (sym (world.left s.side))
      (subst (λ n. slice_get (volume_at n (lines_of s.side run)) st.0 ≡ Some s.line) here st.2) in (
        record { side = s.side; number = st.0 + 1 },
        refl,
        record {
          positive = omega arith;
          stands = rw k (subst (λ n. Stands run s.side n st.0 i s) here st.1);
          names = (omega arith, rw k h);
        },
      )

  -- a step is of an earlier volume, or a line of the journal, or it came at the moment's end or later
  unfoldable pub Where : (to i : ℕ) → Step → Type 0
  Where to i s = (closes s.side run i < last js s.side) ⊎ (LineOf i s ⊎ (to ≤ s.moment))

  pub where_is : (to i : ℕ) (s : Step) → ClosesFrom (journal_of js s.side) (to + skew) → At run i s → Where to i s
  unfolding Where
  where_is to i s closed at = elim (cases_lt (closes s.side run i) (last js s.side)) [
    | inl lt ↦ inl lt
    | inr ge ↦ elim (cases_lt (last js s.side) (closes s.side run i)) [
      | inl gt ↦ inr (inr (past_end AreLegal js skew run world to i s closed at gt))
      | inr le ↦ inr (inl (line_there i s at (omega arith)))
    ]
  ]

  -- a line's reading bounds its moment
  pub near : (r : Ref) (x i : ℕ) (s : Step) → Reads js r x → RefAt js run r i s
      → (s.moment ≤ x + skew) × (x ≤ s.moment + skew)
  near r x i s reads a =
      let read : IsReadAt js r x = subst (IsReadAt js r) reads.2 (line_read js r reads.0 reads.1) in (
        written_by AreLegal js skew run world (r ∷ []) r x i s (by_alone js r x read) a,
        written_from AreLegal js skew run world (r ∷ []) r x i s (from_alone js r x read) a,
      )

  pub sooner : (i j : ℕ) (s t : Step) → At run i s → At run j t → s.moment < t.moment → i < j
  sooner i j s t a b lt = elim (cases_lt i j) [
    | inl h ↦ h
    | inr h ↦ (let x = world.is_run.in_time j i t s h b a in absurd (omega arith))
  ]

  -- the one line was written after the other
  pub after : (line other : LineReading) (i j : ℕ) (s t : Step) → Reads js line.at line.reading
      → Reads js other.at other.reading → IsSurelyAfter skew line other
      → RefAt js run line.at i s → RefAt js run other.at j t → j < i
  after line other i j s t reads others (inl later) a b =
      (leads_at AreLegal js skew run world (other.at ∷ line.at ∷ []) other.at line.at j i t s (record {
        rest = line.at ∷ [];
        begins = refl;
        ends = refl;
        links = ((others.0, others.1), inl (later.0, later.1), (reads.0, reads.1));
      }) b a).1 (omega arith)
  after line other i j s t reads others (inr apart) a b =
      let x = near line.at line.reading i s reads a in
      let y = near other.at other.reading j t others b in
      let since = x.1 in
      let by = y.0 in
      let gap = apart.1 in
      sooner j i t s b.stands.here a.stands.here (omega arith)

  -- a step of an earlier volume was written before the side's open line
  pub before_open : (j : ℕ) (t : Step) (x : ℕ) → closes t.side run j < last js t.side → OpensAt js t.side x
      → (o : ℕ) × (u : Step) × RefAt js run (open_of t.side) o u × (j < o)
  before_open j t x lt opens =
      let o = ref_at AreLegal js skew run world (open_of t.side) opens.0 opens.1 in
      let v = o.2.stands.volume in
      (o.0, o.1, o.2, earlier_volume t.side run j o.0 (omega arith))

  -- a step of an earlier volume of the line's side was written before the line
  pub before_line : (r : Ref) (i j : ℕ) (s t : Step) → RefAt js run r i s → t.side ≡ r.side
      → closes t.side run j < last js t.side → j < i
  before_line r i j s t a of lt =
      let v = a.stands.volume in
      let lt' : closes r.side run j < last js r.side = subst (λ side. closes side run j < last js side) of lt in
      earlier_volume r.side run j i (omega arith)

  -- a step of an earlier volume of the partner's was written before the line, if that was read late enough
  pub before_partners : (r : Ref) (x opened i j : ℕ) (s t : Step) → Reads js r x → RefAt js run r i s
      → OpensAt js t.side opened → opened + skew + skew < x → closes t.side run j < last js t.side → j < i
  before_partners r x opened i j s t reads a opens gap lt =
      let o = before_open j t opened lt opens in
      let begun = (near (open_of t.side) opened o.0 o.1 opens o.2).0 in
      let since = (near r x i s reads a).1 in
      let order = sooner o.0 i o.1 s o.2.stands.here a.stands.here (omega arith) in
      let before = o.3 in
      omega arith
