-- The same of runs of which only so many lines of each side were read, be the last volumes closed or not.
use Rattle.std.specs.Prelude.{◌≡◌, ℕ, ◌+◌, ◌≤◌, false, List, [], ◌∷◌, ◌++◌}
use Rattle.std.specs.Prelude.{length, take, drop, if◌then◌else◌}
use Rattle.std.proofs.Common.{zero, suc, arith, sym, ◌∙◌, ap, subst, inl, inr, refl}
use Rattle.std.proofs.Math.Seq.{take-append_seam}
use Rattle.std.proofs.lemmas.List.{take-append-drop}
use Rattle.binding_rules.specs.declared.role.Role.{Role}
use Rattle.binding_rules.specs.declared.role.Role.TheVariants.{Primary, Secondary}
use Rattle.binding_rules.specs.Role.{is_side}
use Rattle.journal_lines.specs.declared.line.Line.{Line}
use Rattle.book_rules.specs.NextHead.{AreLegal}
use Rattle.causal_order.specs.Journals.{volume_of}
use Rattle.volume_join.specs.Laws.{HaveRoom, JoinedIsLegal}
use Rattle.attribution.specs.Volumes.{volume_at, volumes_in}
use Rattle.attribution.specs.Run.{Step, lines_of, At, StartInTime}
use Rattle.attribution.specs.Laws.{count}
use Rattle.attribution.specs.Snapshot.{read_of, IsRead, IsRunSoFar, KeepsSkewSoFar, LeavesSoFar, SnapshotsAreTrue}
use Rattle.attribution.proofs.Places.{side_same, side_refl}
use Rattle.joined_runs.specs.Volumes.{SideVolumes, last_number, last_of, joined_volume, joined_journals}
use Rattle.joined_runs.specs.Left.{LeavesAllSoFar}
use Rattle.joined_runs.specs.Laws.{AreHeldAlike, JoinedCouldBeLeftSoFar, SnapshotsAreTrueOverVolumes}
use Rattle.joined_runs.proofs.Places.{IsSame}
use Rattle.joined_runs.proofs.Kept.{in_time_new, sent_new, clocks_new}
use Rattle.joined_runs.proofs.Thinning.{Makes, Can}
use Rattle.joined_runs.proofs.Lines.{beyond}
use Rattle.joined_runs.proofs.Holders.{starts_on, in_time_on, held_alike, alike_over, true_alike}
use Rattle.joined_runs.proofs.Legal.{from_joined, AreChanged}
use Rattle.joined_runs.proofs.OneSide.{changed_lines as lines_changed, legal, can}
use Rattle.joined_runs.proofs.Closed.{either, half, others_a, others_b}

-- a run like another one, in which what was read of the side shows the joined volumes at that number
pub record JoinsSoFar (skew : ℕ) (upto read : Role → ℕ) (run : List Step) (side : Role) (v : SideVolumes) : Type 0 where
  pub new : List Step
  pub reads : Role → ℕ
  pub is_run : IsRunSoFar AreLegal upto reads new
  pub clocks : KeepsSkewSoFar skew reads new
  pub left : LeavesSoFar reads new side (joined_volume v)
  pub there : (other : Role) → is_side side other ≡ false → read_of reads new other ≡ read_of read run other
  pub alike : (transit : ℕ) (starts : ℕ → ℕ) → StartInTime transit run starts
      → (others : ℕ → ℕ) × StartInTime transit new others × AreHeldAlike run starts new others

taken_within : (n : ℕ) (ls : List Line) → length (take n ls) ≤ n
taken_within zero ls = omega arith
taken_within (suc n) [] = omega arith
taken_within (suc n) (l ∷ ls) = let h = taken_within n ls in omega arith

module _ (law : JoinedIsLegal) (side : Role) (skew : ℕ) (upto read : Role → ℕ) (run : List Step)
    (is_run : IsRunSoFar AreLegal upto read run) (clocks : KeepsSkewSoFar skew read run) (v : SideVolumes)
    (whole : upto side ≡ last_number v) (room : HaveRoom v.first v.further) (left : LeavesAllSoFar read run side v)
  where
    abbrev lines : List Line
    lines = read_of read run side

    abbrev more : List Line
    more = drop (read side) (lines_of side run)

    abbrev index : ℕ
    index = left.index

    volumes : AreLegal side (volumes_in (suc (index + length v.further)) lines)
    volumes =
        let number = left.number in
        let n : upto side ≡ suc (index + length v.further) = omega arith in
        subst (λ z. AreLegal side (volumes_in z lines)) n (is_run.legal side)

    abbrev changed_lines : List Line
    changed_lines = lines_changed law side lines index v left.each room volumes

    is_legal : AreChanged side 1 index v.first v.further
        (from_joined law side v.first v.further room (beyond index lines)) lines
    is_legal = legal law side lines index v left.each room volumes

    can_be : (less : ℕ) × Can side (length v.further) less lines changed_lines
    can_be = can law side lines index v left.each room volumes

    made : Makes side (length v.further) can_be.0 run (changed_lines ++ more)
    made = can_be.1.make run more (sym (take-append-drop (read side) (lines_of side run)))

    abbrev reads_on : Role → ℕ
    reads_on x = if is_side side x then length changed_lines else read x

    here : read_of reads_on made.new side ≡ changed_lines
    here =
        let n : reads_on side ≡ length changed_lines = rw (side_refl side) refl in
        ap (λ k. take k (lines_of side made.new)) n
        ∙ (ap (take (length changed_lines)) made.here ∙ take-append_seam changed_lines more)

    there : (x : Role) → is_side side x ≡ false → read_of reads_on made.new x ≡ read_of read run x
    there x not =
        let n : reads_on x ≡ read x = rw not refl in
        ap (λ k. take k (lines_of x made.new)) n ∙ ap (take (read x)) (made.there x not)

    inside : (i : ℕ) (s t : Step) → At made.new i s → IsSame s t → IsRead reads_on made.new i s
        → IsRead read run (made.thins.to i) t
    inside i s t at same lt =
        let j = made.thins.to i in
        let e : count t.side run j ≡ count s.side run j = ap (λ z. count z run j) (sym same.side) in
        let u : read t.side ≡ read s.side = ap read (sym same.side) in
        elim (either (is_side side s.side)) [
          | inl mine ↦ (
              let is : s.side ≡ side = side_same side s.side mine in
              let a : count s.side run j ≡ count side run j = ap (λ z. count z run j) is in
              let b : count s.side made.new i ≡ count side made.new i = ap (λ z. count z made.new i) is in
              let c : reads_on s.side ≡ length changed_lines = rw mine refl in
              let d : read s.side ≡ read side = ap read is in
              let r = made.thins.counts i in
              let f = can_be.1.fewer in
              let w = taken_within (read side) (lines_of side run) in
              omega arith)
          | inr theirs ↦ (
              let a = made.thins.count_there s.side theirs i in
              let b : reads_on s.side ≡ read s.side = rw theirs refl in
              omega arith)
        ]

    module _ (upto' : Role → ℕ) (at : upto' side ≡ v.number)
        (others : (x : Role) → is_side side x ≡ false → upto' x ≡ upto x) where
      legal_on : (x : Role) → AreLegal x (volumes_in (upto' x) (read_of reads_on made.new x))
      legal_on x = elim (either (is_side side x)) [
        | inl mine ↦ (
            let number = left.number in
            let n : suc index ≡ upto' side = omega arith in
            let l : AreLegal side (volumes_in (upto' side) (read_of reads_on made.new side)) =
            subst (λ z. AreLegal side (volumes_in z (read_of reads_on made.new side))) n
            (subst (λ ls. AreLegal side (volumes_in (suc index) ls)) (sym here) is_legal.legal) in
            let is : x ≡ side = side_same side x mine in
            subst (λ z. AreLegal z (volumes_in (upto' z) (read_of reads_on made.new z))) (sym is) l)
        | inr theirs ↦ (
            subst (λ z. AreLegal x (volumes_in z (read_of reads_on made.new x))) (sym (others x theirs))
            (subst (λ ls. AreLegal x (volumes_in (upto x) ls)) (sym (there x theirs)) (is_run.legal x)))
      ]

      pub joins_so_far : JoinsSoFar skew upto' read run side v
      joins_so_far = record {
        new = made.new;
        reads = reads_on;
        is_run = record {
          in_time = in_time_new side (length v.further) can_be.0 run made.new made.thins is_run.in_time;
          legal = legal_on;
          sent = sent_new side (length v.further) can_be.0 run made.new made.thins (IsRead read run)
              (IsRead reads_on made.new) inside is_run.sent;
        };
        clocks = clocks_new side (length v.further) can_be.0 run made.new made.thins (IsRead read run)
            (IsRead reads_on made.new) inside skew clocks;
        left = record {
          index = index;
          number = left.number;
          lines = sym (ap (volume_at index) here ∙ is_legal.there);
        };
        there = there;
        alike = λ transit starts reaches. (
          starts_on side (length v.further) can_be.0 run made.new made.thins starts,
          in_time_on side (length v.further) can_be.0 run made.new made.thins starts transit reaches,
          held_alike side (length v.further) can_be.0 run made.new made.thins starts,
        );
      }

-- ---- then the other side's

module _ (law : JoinedIsLegal) where
  pub could_be_left_so_far : JoinedCouldBeLeftSoFar AreLegal
  could_be_left_so_far vs skew run read room is_run clocks left_a left_b =
      let a = joins_so_far law Primary skew (last_of vs) read run is_run clocks vs.a refl room.0 left_a (half vs) refl
      (others_a vs) in
      let still : LeavesAllSoFar a.reads a.new Secondary vs.b = record {
        index = left_b.index;
        number = left_b.number;
        each = λ n ls h. left_b.each n ls h ∙ ap (volume_at (left_b.index + n)) (sym (a.there Secondary refl));
      } in
      let b = joins_so_far law Secondary skew (half vs) a.reads a.new a.is_run a.clocks vs.b refl room.1 still
      (volume_of (joined_journals vs)) refl (others_b vs) in
      record {
        other = b.new;
        reads = b.reads;
        is_run = b.is_run;
        clocks = b.clocks;
        left_a = record {
          index = a.left.index;
          number = a.left.number;
          lines = a.left.lines ∙ ap (volume_at a.left.index) (sym (b.there Primary refl));
        };
        left_b = b.left;
        alike = λ transit starts reaches. (
            let one = a.alike transit starts reaches in
            let two = b.alike transit one.0 one.1 in
            (two.0, two.1, alike_over run starts a.new one.0 b.new two.0 one.2 two.2));
      }

-- ---- the headline over snapshots

pub over_snapshots : JoinedCouldBeLeftSoFar AreLegal → SnapshotsAreTrue AreLegal → SnapshotsAreTrueOverVolumes AreLegal
over_snapshots could headline vs skew transit c room ok run read is_run clocks left_a left_b starts reaches =
    let o = could vs skew run read room is_run clocks left_a left_b in
    let on = o.alike transit starts reaches in
    true_alike run starts o.other on.0 on.2 c
    (headline (joined_journals vs) skew transit c ok o.other o.reads o.is_run o.clocks o.left_a o.left_b on.0 on.1)
