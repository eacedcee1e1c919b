-- The headline for journals that are still being written: a close step behind the last line that was read makes of a
-- run one that the
-- headline speaks of.
use Rattle.std.specs.Prelude.{◌≡◌, ℕ, ◌+◌, ◌<◌, ◌≤◌, ◌⊎◌, Bool, true, false, List, [], ◌∷◌, ◌++◌, Some, slice_get}
use Rattle.std.specs.Prelude.{length, take, drop, if◌then◌else◌}
use Rattle.std.proofs.Common.{zero, suc, arith, sym, ◌∙◌, ap, subst, inl, inr, refl}
use Rattle.std.proofs.lemmas.Bool.{cases_lt}
use Rattle.std.proofs.lemmas.List.{length-take, take-append-drop}
use Rattle.std.proofs.lemmas.Option.{slice_get_read}
use Rattle.binding_rules.specs.declared.role.Role.{Role}
use Rattle.binding_rules.specs.declared.role.Role.TheVariants.{Primary, Secondary}
use Rattle.binding_rules.specs.Role.{partner_of, is_side}
use Rattle.binding_rules.specs.declared.message.PartnerMessage.{PartnerMessage}
use Rattle.journal_lines.specs.declared.event.Event.TheVariants.{Send, Take, Close}
use Rattle.journal_lines.specs.declared.line.Line.{Line}
use Rattle.causal_order.specs.Journals.{Volume, Journals, volume_of}
use Rattle.causal_order.specs.declared.certificate.Certificate.{Certificate}
use Rattle.attribution.specs.Volumes.{volume_at, volumes_in}
use Rattle.attribution.specs.Run.{Step, lines_of, At, IsWithin, IsRun, KeepsSkew, Leaves, StartInTime}
use Rattle.attribution.specs.Laws.{count}
use Rattle.attribution.specs.Acceptance.{IsTrueIn, ClosesFrom}
use Rattle.attribution.specs.Lawful.{Lawful}
use Rattle.attribution.specs.Snapshot.{close_behind, closed_now, snapshot, snapshots, read_of, IsRead, IsRunSoFar}
use Rattle.attribution.specs.Snapshot.{KeepsSkewSoFar, SnapshotsAreTrue}
use Rattle.attribution.proofs.Places.{closes_in, side_same, side_refl, count_lt, place, closes_are}
use Rattle.attribution.proofs.Headline.{headline}
use Rattle.attribution.proofs.Insertion.{behind, IsOther, up, up_lt, le_up, up_past, past_up, at_up, at_down}
use Rattle.attribution.proofs.Insertion.{lines_behind, lines_same, count_same, count_more, starts_behind}
use Rattle.attribution.proofs.Insertion.{in_time_behind, true_down}
use Rattle.attribution.proofs.Closing.{Opens, closed_or, lawful_closed, total, total_le, volume_append, volume_closed}
use Rattle.attribution.proofs.Closing.{volume_total, volumes_append}

-- ---- one side is closed

-- what the law speaks of, over lawful volumes
record State (skew : ℕ) (upto read : Role → ℕ) (run : List Step) : Type 0 where
  is_run : IsRunSoFar (λ side vs. Lawful vs) upto read run
  clocks : KeepsSkewSoFar skew read run

-- what is true in the one run is true in the other, where its leases start in time
IsEnough : List Step → List Step → Type 0
IsEnough run new = (transit : ℕ) (starts : ℕ → ℕ) → StartInTime transit run starts
    → (starts' : ℕ → ℕ) × StartInTime transit new starts' × ((c : Certificate) → IsTrueIn new starts' c
    → IsTrueIn run starts c)

-- a run in which the side closes behind its last line that was read
record Closed (side : Role) (skew : ℕ) (upto read : Role → ℕ) (run : List Step) : Type 0 where
  new : List Step
  reads : Role → ℕ
  state : State skew upto reads new
  here : read_of reads new side ≡ closed_now (read_of read run side)
  there : (other : Role) → is_side side other ≡ false → read_of reads new other ≡ read_of read run other
  enough : IsEnough run new

take_at : (r : ℕ) (ls : List Line) (n : ℕ) (l : Line) → slice_get (take r ls) n ≡ Some l
    → (n < r) × (slice_get ls n ≡ Some l)
take_at zero ls n l h = absurd (cc)
take_at (suc r) [] n l h = absurd (cc)
take_at (suc r) (x ∷ xs) zero l h = (omega arith, h)
take_at (suc r) (x ∷ xs) (suc n) l h = let t = take_at r xs n l h in ((let a = t.0 in omega arith), t.1)

take_whole : (r : ℕ) (ls : List Line) (n : ℕ) → length (take r ls) ≡ n → take n ls ≡ take r ls
take_whole zero ls zero h = refl
take_whole zero ls (suc n) h = absurd (omega arith)
take_whole (suc r) [] zero h = refl
take_whole (suc r) [] (suc n) h = absurd (omega arith)
take_whole (suc r) (x ∷ xs) zero h = absurd (omega arith)
take_whole (suc r) (x ∷ xs) (suc n) h = ap (λ ls. x ∷ ls) (take_whole r xs n (omega arith))

take_behind : (n : ℕ) (ls : List Line) (x l : Line) → slice_get ls n ≡ Some l
    → take (suc (suc n)) (behind n x ls) ≡ take (suc n) ls ++ x ∷ []
take_behind n [] x l h = absurd (cc)
take_behind zero (y ∷ ys) x l h = refl
take_behind (suc n) (y ∷ ys) x l h = ap (λ ls. y ∷ ls) (take_behind n ys x l h)

either : (b : Bool) → (b ≡ true) ⊎ (b ≡ false)
either true = inl refl
either false = inr refl

module _ (side : Role) (skew : ℕ) (upto read : Role → ℕ) (run : List Step) (st : State skew upto read run) where
  -- as it is
  as_it_is : closed_now (read_of read run side) ≡ read_of read run side → Closed side skew upto read run
  unfolding IsEnough
  as_it_is e = record {
    new = run;
    reads = read;
    state = st;
    here = sym e;
    there = λ other h. refl;
    enough = λ transit starts reaches. (starts, reaches, λ c t. t);
  }

  -- step p is the last of the side's that was read, and its line l is the one with index n
  module _ (n : ℕ) (l : Line) (p : ℕ) (s : Step) (long : length (read_of read run side) ≡ suc n)
      (found : slice_get (read_of read run side) n ≡ Some l)
      (adds : closed_now (read_of read run side) ≡ read_of read run side ++ close_behind l ∷ []) (at : At run p s)
      (of : s.side ≡ side) (counted : count side run p ≡ n) (is : s.line ≡ l) where
    abbrev closing : Step
    closing = record { side = side; moment = s.moment; line = close_behind l }

    abbrev reads_on : Role → ℕ
    reads_on other = if is_side side other then suc (suc n) else read other

    abbrev closing_run : List Step
    closing_run = behind p closing run

    was_read : n < read side
    was_read = (take_at (read side) (lines_of side run) n l found).0

    here_on : read_of reads_on closing_run side ≡ closed_now (read_of read run side)
    here_on =
        let lines = lines_of side run in
        let same : lines_of side closing_run ≡ behind n (close_behind l) lines =
        subst (λ k. lines_of side closing_run ≡ behind k (close_behind l) lines) counted
        (lines_behind closing side p run s (side_refl side) at of) in
        let r : reads_on side ≡ suc (suc n) = rw (side_refl side) refl in
        let there = take_behind n lines (close_behind l) l (take_at (read side) lines n l found).1 in
        let whole = take_whole (read side) lines (suc n) long in
        let a : read_of reads_on closing_run side ≡ take (suc (suc n)) (behind n (close_behind l) lines) =
        ap (λ k. take k (lines_of side closing_run)) r ∙ ap (take (suc (suc n))) same in
        (a ∙ there) ∙ (ap (λ z. z ++ close_behind l ∷ []) whole ∙ sym adds)

    there_on : (other : Role) → is_side side other ≡ false → is_side other side ≡ false
        → read_of reads_on closing_run other ≡ read_of read run other
    there_on other h g =
        let r : reads_on other ≡ read other = rw h refl in
        ap (λ k. take k (lines_of other closing_run)) r ∙ ap (take (read other)) (lines_same closing other p run g)

    other_side : (x : Role) → is_side side x ≡ false → is_side x side ≡ false
    other_side x h = elim (either (is_side x side)) [
      | inl e ↦ (let same : side ≡ x = side_same x side e in let q : is_side side x ≡ true =
          subst (λ z. is_side side z ≡ true) same (side_refl side) in absurd (cc))
      | inr e ↦ e
    ]

    -- of the steps up to the close all were read before
    read_before : (i : ℕ) (t : Step) → At run i t → IsRead reads_on closing_run (up p i) t → IsRead read run i t
    read_before i t here lt = elim (either (is_side side t.side)) [
      | inl mine ↦ (
          let e : t.side ≡ side = side_same side t.side mine in
          let r : reads_on t.side ≡ suc (suc n) = rw mine refl in
          elim (cases_lt p i) [
            | inl after ↦ (
                let more = count_more closing t.side p run s i
                (subst (λ x. is_side x side ≡ true) (sym e) (side_refl side)) at after in
                let past = count_lt side run p i s at of after in
                let c : count t.side run i ≡ count side run i = ap (λ x. count x run i) e in
                absurd (omega arith))
            | inr le ↦ elim (cases_lt i p) [
              | inl before ↦ (
                  let past = count_lt side run i p t here e before in
                  let c : count t.side run i ≡ count side run i = ap (λ x. count x run i) e in
                  let d : read t.side ≡ read side = ap read e in
                  let w = was_read in
                  omega arith)
              | inr ge ↦ (
                  let same : i ≡ p = omega arith in
                  let c : count t.side run i ≡ count side run p = ap (λ x. count x run i) e
                  ∙ ap (count side run) same in
                  let d : read t.side ≡ read side = ap read e in
                  let w = was_read in
                  omega arith)
            ]
          ])
      | inr theirs ↦ (
          let r : reads_on t.side ≡ read t.side = rw theirs refl in
          let c = count_same closing t.side p run i (other_side t.side theirs) in
          omega arith)
    ]

    moment_first : (i j : ℕ) (t u : Step) → i ≤ j → ((i ≡ suc p) × (t ≡ closing)) ⊎ IsOther p run i t
        → ((j ≡ suc p) × (u ≡ closing)) ⊎ IsOther p run j u → t.moment ≤ u.moment
    moment_first i j t u le (inl a) (inl b) =
        let x = ap (λ (z : Step). z.moment) a.1 in
        let y = ap (λ (z : Step). z.moment) b.1 in
        omega arith
    moment_first i j t u le (inl a) (inr b) =
        let x = ap (λ (z : Step). z.moment) a.1 in
        let e = a.0 in
        let f = b.1 in
        let y = st.is_run.in_time p b.0 s u (past_up p b.0 (omega arith)) at b.2 in
        omega arith
    moment_first i j t u le (inr a) (inl b) =
        let y = ap (λ (z : Step). z.moment) b.1 in
        let e = a.1 in
        let f = b.0 in
        let x = st.is_run.in_time a.0 p t s (up_past p a.0 (omega arith)) a.2 at in
        omega arith
    moment_first i j t u le (inr a) (inr b) =
        let e = a.1 in
        let f = b.1 in
        st.is_run.in_time a.0 b.0 t u (le_up p a.0 b.0 (omega arith)) a.2 b.2

    legal_on : (other : Role) → Lawful (volumes_in (upto other) (read_of reads_on closing_run other))
    legal_on other = elim (either (is_side side other)) [
      | inl mine ↦ (
          let e : other ≡ side = side_same side other mine in
          let h = lawful_closed (upto side) (read_of read run side) (st.is_run.legal side) in
          subst (λ z. Lawful (volumes_in (upto z) (read_of reads_on closing_run z))) (sym e)
          (subst (λ z. Lawful (volumes_in (upto side) z)) (sym here_on) h))
      | inr theirs ↦ subst (λ z. Lawful (volumes_in (upto other) z))
          (sym (there_on other theirs (other_side other theirs))) (st.is_run.legal other)
    ]

    sent_on : (j : ℕ) (t : Step) (m : PartnerMessage) → At closing_run j t → IsRead reads_on closing_run j t
        → t.line.event ≡ Take m
        → (k : ℕ) × (u : Step) × (k < j) × At closing_run k u × (u.side ≡ partner_of t.side) × (u.line.event ≡ Send m)
    sent_on j t m here lt takes = elim (at_down p closing run j t here) [
      | inl h ↦ (let e : Close ≡ Take m = sym (ap (λ (z : Step). z.line.event) h.1) ∙ takes in absurd (cc))
      | inr h ↦ (
          let r = read_before h.0 t h.2 (subst (λ k. IsRead reads_on closing_run k t) h.1 lt) in
          let q = st.is_run.sent h.0 t m h.2 r takes in
          let order = up_lt p q.0 h.0 q.2 in
          let e = h.1 in
          (up p q.0, q.1, omega arith, at_up p closing run q.0 q.1 q.3, q.4, q.5))
    ]

    clocks_on : KeepsSkewSoFar skew reads_on closing_run
    clocks_on j t here lt = elim (at_down p closing run j t here) [
      | inl h ↦ (
          let w = was_read in
          let c : count s.side run p ≡ n = ap (λ z. count z run p) of ∙ counted in
          let d : read s.side ≡ read side = ap read of in
          let k = st.clocks p s at (omega arith) in
          let x = ap (λ (z : Step). z.moment) h.1 in
          let y = ap (λ (z : Step). z.line.reading) h.1 in
          let z = ap (λ (q : Line). q.reading) is in
          let a = k.0 in
          let b = k.1 in
          (omega arith, omega arith))
      | inr h ↦ st.clocks h.0 t h.2 (read_before h.0 t h.2 (subst (λ k. IsRead reads_on closing_run k t) h.1 lt))
    ]

    closed_behind : Closed side skew upto read run
    unfolding IsEnough
    closed_behind = record {
      new = closing_run;
      reads = reads_on;
      state = record {
        is_run = record {
          in_time = λ i j t u le a b. moment_first i j t u le (at_down p closing run i t a)
              (at_down p closing run j u b);
          legal = legal_on;
          sent = sent_on;
        };
        clocks = clocks_on;
      };
      here = here_on;
      there = λ other h. there_on other h (other_side other h);
      enough = λ transit starts reaches. (
        starts_behind p closing refl run starts,
        in_time_behind p closing refl run starts transit reaches,
        true_down p closing refl run starts,
      );
    }

  close_open : Opens (read_of read run side) → Closed side skew upto read run
  unfolding Opens
  close_open o =
      let found = (take_at (read side) (lines_of side run) o.0 o.1 o.3).1 in
      let q = place run side o.0 o.1 found in
      closed_behind o.0 o.1 q.0 q.1 o.2 o.3 o.4 q.2 q.3 q.4 q.5

  close_side : Closed side skew upto read run
  close_side = elim (closed_or (read_of read run side)) [ inl e ↦ as_it_is e | inr o ↦ close_open o ]

-- ---- both are closed: a run that the headline speaks of

module _ (js : Journals) (skew : ℕ) (read : Role → ℕ) (run : List Step) (st : State skew (volume_of js) read run)
    (whole : (side : Role) → volume_of js side ≤ total (read_of read run side)) where
  split : (side : Role) → read_of read run side ++ drop (read side) (lines_of side run) ≡ lines_of side run
  split side = take-append-drop (read side) (lines_of side run)

  is_read : (i : ℕ) (s : Step) → IsWithin (volume_of js) run i s → IsRead read run i s
  is_read i s lt = elim (cases_lt (count s.side run i) (read s.side)) [
    | inl h ↦ h
    | inr ge ↦ (
        let ls = read_of read run s.side in
        let more = drop (read s.side) (lines_of s.side run) in
        let w = whole s.side in
        let c = closes_are run s.side i in
        let short = length-take (read s.side) (lines_of s.side run) in
        let t = total_le ls more (count s.side run i) (omega arith) in
        let e : closes_in (ls ++ more) (count s.side run i) ≡ closes_in (lines_of s.side run) (count s.side run i) =
        ap (λ z. closes_in z (count s.side run i)) (split s.side) in
        absurd (omega arith))
  ]

  is_run : IsRun (λ side vs. Lawful vs) (volume_of js) run
  is_run = record {
    in_time = st.is_run.in_time;
    legal = λ side.
        subst Lawful (sym (volumes_append (volume_of js side) (read_of read run side)
        (drop (read side) (lines_of side run)) (whole side)) ∙ ap (volumes_in (volume_of js side)) (split side))
        (st.is_run.legal side);
    sent = λ i s m at within takes. st.is_run.sent i s m at (is_read i s within) takes;
  }

  clocks : KeepsSkew skew (volume_of js) run
  clocks i s at within = st.clocks i s at (is_read i s within)

  -- a closed volume that was read is one that the run leaves
  leaves : (side : Role) (v : Volume) (n k : ℕ) (l : Line) → v.number ≡ n + 1
      → v.lines ≡ volume_at n (read_of read run side) → slice_get v.lines k ≡ Some l → l.event ≡ Close
      → n < total (read_of read run side) → Leaves run side v
  leaves side v n k l number lines found is lt = record {
    index = n;
    number = number;
    lines = lines ∙ (sym (volume_append n (read_of read run side) (drop (read side) (lines_of side run)) lt)
        ∙ ap (volume_at n) (split side));
    closed = (k, l, found, is);
  }

-- the close line that an interval is within
closing_line : (lines : List Line) (reading : ℕ) → ClosesFrom lines reading
    → (k : ℕ) × (l : Line) × (slice_get lines k ≡ Some l) × (l.event ≡ Close)
closing_line lines reading h = (h.1.0, h.0, slice_get_read lines (length lines) h.1.0 h.0 refl h.1.1 (sym h.1.2), h.2)

-- what was read, closed now, is the snapshot
snapshot_at : (n : ℕ) (lines read new : List Line) → lines ≡ volume_at n read → new ≡ closed_now read
    → closed_now lines ≡ volume_at n new
snapshot_at n lines read new e f = ap closed_now e ∙ (sym (volume_closed n read) ∙ ap (volume_at n) (sym f))

pub snapshots_true : SnapshotsAreTrue (λ side vs. Lawful vs)
unfolding IsEnough
snapshots_true js skew transit c ok run read is_run_so_far clocks_so_far left_a left_b starts reaches =
    let upto = volume_of (snapshots js) in
    let st : State skew upto read run = record {
      is_run = record {
        in_time = is_run_so_far.in_time;
        legal = λ side. elim side as (λ x. Lawful (volumes_in (volume_of (snapshots js) x) (read_of read run x)))
            [ Primary ↦ is_run_so_far.legal Primary | Secondary ↦ is_run_so_far.legal Secondary ];
        sent = is_run_so_far.sent;
      };
      clocks = clocks_so_far;
    } in
    let one = close_side Primary skew upto read run st in
    let two = close_side Secondary skew upto one.reads one.new one.state in
    let lines_a : (snapshot js.a).lines ≡ volume_at left_a.index (read_of two.reads two.new Primary) =
    snapshot_at left_a.index js.a.lines (read_of read run Primary) _ left_a.lines (two.there Primary refl
    ∙ one.here) in
    let lines_b : (snapshot js.b).lines ≡ volume_at left_b.index (read_of two.reads two.new Secondary) =
    snapshot_at left_b.index js.b.lines (read_of read run Secondary) _ left_b.lines (two.here
    ∙ ap closed_now (one.there Secondary refl)) in
    let a = closing_line (snapshot js.a).lines (c.to + skew) (ok.closed Primary) in
    let b = closing_line (snapshot js.b).lines (c.to + skew) (ok.closed Secondary) in
    let past_a = volume_total left_a.index (read_of two.reads two.new Primary) a.0 a.1
    (subst (λ z. slice_get z a.0 ≡ Some a.1) lines_a a.2) a.3 in
    let past_b = volume_total left_b.index (read_of two.reads two.new Secondary) b.0 b.1
    (subst (λ z. slice_get z b.0 ≡ Some b.1) lines_b b.2) b.3 in
    let number_a = left_a.number in
    let number_b = left_b.number in
    let whole : (side : Role) → volume_of (snapshots js) side ≤ total (read_of two.reads two.new side) =
    λ side. elim side as (λ x. volume_of (snapshots js) x ≤ total (read_of two.reads two.new x))
    [ Primary ↦ omega arith | Secondary ↦ omega arith ] in
    let first = one.enough transit starts reaches in
    let second = two.enough transit first.0 first.1 in
    first.2 c (second.2 c (headline (λ side vs. Lawful vs) (λ side vs h. h) (snapshots js) skew transit c ok two.new
    (is_run (snapshots js) skew two.reads two.new two.state whole)
    (clocks (snapshots js) skew two.reads two.new two.state whole)
    (leaves (snapshots js) skew two.reads two.new two.state whole Primary
    (snapshot js.a) left_a.index a.0 a.1 left_a.number lines_a a.2 a.3 past_a)
    (leaves (snapshots js) skew two.reads two.new two.state whole Secondary
    (snapshot js.b) left_b.index b.0 b.1 left_b.number lines_b b.2 b.3 past_b)
    second.0 second.1))

-- what the pair's rules allow is lawful
pub snapshots_true_of : (AreLegal : Role → List (List Line) → Type 0)
    → ((side : Role) (vs : List (List Line)) → AreLegal side vs → Lawful vs) → SnapshotsAreTrue AreLegal
snapshots_true_of AreLegal keeps js skew transit c ok run read so_far =
    snapshots_true js skew transit c ok run read (record {
      in_time = so_far.in_time;
      legal = λ side. keeps side (volumes_in (volume_of js side) (read_of read run side)) (so_far.legal side);
      sent = so_far.sent;
    })
