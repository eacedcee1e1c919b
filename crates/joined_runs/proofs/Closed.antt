-- Of a run that leaves volumes, one is made that leaves the joined journals: the first side's, then the other's.
use Rattle.std.specs.Prelude.{◌≡◌, ℕ, ◌+◌, ◌⊎◌, Bool, true, false, List, [], ◌++◌}
use Rattle.std.specs.Prelude.{length}
use Rattle.std.proofs.Common.{suc, arith, sym, ◌∙◌, ap, subst, inl, inr, refl}
use Rattle.std.proofs.lemmas.List.{append-nil}
use Rattle.binding_rules.specs.declared.role.Role.{Role}
use Rattle.binding_rules.specs.declared.role.Role.TheVariants.{Primary, Secondary}
use Rattle.binding_rules.specs.Role.{is_side}
use Rattle.journal_lines.specs.declared.line.Line.{Line}
use Rattle.journal_lines.specs.Close.{until_close}
use Rattle.book_rules.specs.NextHead.{AreLegal}
use Rattle.causal_order.specs.Journals.{volume_of}
use Rattle.volume_join.specs.Laws.{HaveRoom, JoinedIsLegal}
use Rattle.attribution.specs.Volumes.{past_close, volume_at, volumes_in}
use Rattle.attribution.specs.Run.{Step, lines_of, At, closes, IsWithin, IsRun, KeepsSkew, Leaves, StartInTime}
use Rattle.attribution.specs.Acceptance.{AcceptedIsTrue}
use Rattle.attribution.proofs.Places.{side_same}
use Rattle.joined_runs.specs.Volumes.{SideVolumes, PairVolumes, last_number, last_of, joined_volume, joined_journals}
use Rattle.joined_runs.specs.Left.{LeavesAll}
use Rattle.joined_runs.specs.Laws.{AreHeldAlike, JoinedCouldBeLeft, AcceptedIsTrueOverVolumes}
use Rattle.joined_runs.specs.Laws.{TrueOfJoinedIsTrueOverVolumes}
use Rattle.joined_runs.proofs.Places.{IsSame}
use Rattle.joined_runs.proofs.Kept.{in_time_new, sent_new, clocks_new}
use Rattle.joined_runs.proofs.Thinning.{Makes, Can}
use Rattle.joined_runs.proofs.OneSide.{cut, changed_lines as lines_changed, legal, can}
use Rattle.joined_runs.proofs.Lines.{AreNext, beyond}
use Rattle.joined_runs.proofs.Holders.{starts_on, in_time_on, held_alike, alike_over, true_alike}
use Rattle.joined_runs.proofs.Legal.{from_joined, AreChanged, joined_closes}

-- ---- one side's volumes are joined

-- a run like another one, in which the side's volume of that number is the joined ones
pub record Joins (skew : ℕ) (upto : Role → ℕ) (run : List Step) (side : Role) (v : SideVolumes) : Type 0 where
  pub new : List Step
  pub is_run : IsRun AreLegal upto new
  pub clocks : KeepsSkew skew upto new
  pub left : Leaves new side (joined_volume v)
  pub there : (other : Role) → is_side side other ≡ false → lines_of other new ≡ lines_of other run
  pub alike : (transit : ℕ) (starts : ℕ → ℕ) → StartInTime transit run starts
      → (others : ℕ → ℕ) × StartInTime transit new others × AreHeldAlike run starts new others

pub either : (b : Bool) → (b ≡ true) ⊎ (b ≡ false)
either true = inl refl
either false = inr refl

module _ (law : JoinedIsLegal) (side : Role) (skew : ℕ) (upto : Role → ℕ) (run : List Step)
    (is_run : IsRun AreLegal upto run) (clocks : KeepsSkew skew upto run) (v : SideVolumes)
    (whole : upto side ≡ last_number v) (room : HaveRoom v.first v.further) (left : LeavesAll run side v) where
  abbrev lines : List Line
  lines = lines_of side run

  abbrev index : ℕ
  index = left.index

  volumes : AreLegal side (volumes_in (suc (index + length v.further)) lines)
  volumes =
      let number = left.number in
      let n : upto side ≡ suc (index + length v.further) = omega arith in
      subst (λ z. AreLegal side (volumes_in z lines)) n (is_run.legal side)

  abbrev changed_lines : List Line
  changed_lines = lines_changed law side lines index v left.each room volumes

  is_legal : AreChanged side 1 index v.first v.further
      (from_joined law side v.first v.further room (beyond index lines)) lines
  is_legal = legal law side lines index v left.each room volumes

  can_be : (less : ℕ) × Can side (length v.further) less lines changed_lines
  can_be = can law side lines index v left.each room volumes

  cut_at : (v.first ≡ until_close (beyond index lines)) × AreNext v.further (past_close (beyond index lines))
  cut_at = cut law side lines index v left.each room volumes

  made : Makes side (length v.further) can_be.0 run (changed_lines ++ [])
  made = can_be.1.make run [] (sym (append-nil lines))

  here : lines_of side made.new ≡ changed_lines
  here = made.here ∙ append-nil changed_lines

  module _ (upto' : Role → ℕ) (at : upto' side ≡ v.number)
      (others : (x : Role) → is_side side x ≡ false → upto' x ≡ upto x) where
    inside : (i : ℕ) (s t : Step) → At made.new i s → IsSame s t → IsWithin upto' made.new i s
        → IsWithin upto run (made.thins.to i) t
    inside i s t there same lt =
        let j = made.thins.to i in
        let e : closes t.side run j ≡ closes s.side run j = ap (λ z. closes z run j) (sym same.side) in
        let u : upto t.side ≡ upto s.side = ap upto (sym same.side) in
        elim (either (is_side side s.side)) [
          | inl mine ↦ (
              let is : s.side ≡ side = side_same side s.side mine in
              let a : closes s.side run j ≡ closes side run j = ap (λ z. closes z run j) is in
              let b : closes s.side made.new i ≡ closes side made.new i = ap (λ z. closes z made.new i) is in
              let c : upto' s.side ≡ upto' side = ap upto' is in
              let d : upto s.side ≡ upto side = ap upto is in
              let r = made.thins.shuts i in
              omega arith)
          | inr theirs ↦ (
              let a = made.thins.closes_there s.side theirs i in
              let b = others s.side theirs in
              omega arith)
        ]

    legal_on : (x : Role) → AreLegal x (volumes_in (upto' x) (lines_of x made.new))
    legal_on x = elim (either (is_side side x)) [
      | inl mine ↦ (
          let number = left.number in
          let n : suc index ≡ upto' side = omega arith in
          let l : AreLegal side (volumes_in (upto' side) (lines_of side made.new)) =
          subst (λ z. AreLegal side (volumes_in z (lines_of side made.new))) n
          (subst (λ ls. AreLegal side (volumes_in (suc index) ls)) (sym here) is_legal.legal) in
          subst (λ z. AreLegal z (volumes_in (upto' z) (lines_of z made.new))) (sym (side_same side x mine)) l)
      | inr theirs ↦ (
          subst (λ z. AreLegal x (volumes_in z (lines_of x made.new))) (sym (others x theirs))
          (subst (λ ls. AreLegal x (volumes_in (upto x) ls)) (sym (made.there x theirs)) (is_run.legal x)))
    ]

    pub joins : Joins skew upto' run side v
    joins = record {
      new = made.new;
      is_run = record {
        in_time = in_time_new side (length v.further) can_be.0 run made.new made.thins is_run.in_time;
        legal = legal_on;
        sent = sent_new side (length v.further) can_be.0 run made.new made.thins (IsWithin upto run)
            (IsWithin upto' made.new) inside is_run.sent;
      };
      clocks = clocks_new side (length v.further) can_be.0 run made.new made.thins (IsWithin upto run)
          (IsWithin upto' made.new) inside skew clocks;
      left = record {
        index = index;
        number = left.number;
        lines = sym (ap (volume_at index) here ∙ is_legal.there);
        closed = joined_closes v.further v.first (beyond index lines) cut_at.0 cut_at.1 left.closed;
      };
      there = made.there;
      alike = λ transit starts reaches. (
        starts_on side (length v.further) can_be.0 run made.new made.thins starts,
        in_time_on side (length v.further) can_be.0 run made.new made.thins starts transit reaches,
        held_alike side (length v.further) can_be.0 run made.new made.thins starts,
      );
    }

-- ---- then the other side's

-- how many volumes come before and with the last of what is left, where the primary's are joined
abbrev pub half : PairVolumes → Role → ℕ
half vs Primary = vs.a.number
half vs Secondary = last_number vs.b

abbrev pub none_there : (f g : Role → ℕ) (side : Role) → Type 0
none_there f g side = (x : Role) → is_side side x ≡ false → f x ≡ g x

pub others_a : (vs : PairVolumes) → none_there (half vs) (last_of vs) Primary
others_a vs Primary h = absurd (cc)
others_a vs Secondary h = refl

pub others_b : (vs : PairVolumes) → none_there (volume_of (joined_journals vs)) (half vs) Secondary
others_b vs Primary h = refl
others_b vs Secondary h = absurd (cc)

module _ (law : JoinedIsLegal) where
  pub could_be_left : JoinedCouldBeLeft AreLegal
  could_be_left vs skew run room is_run clocks left_a left_b =
      let a = joins law Primary skew (last_of vs) run is_run clocks vs.a refl room.0 left_a (half vs) refl
      (others_a vs) in
      let still : LeavesAll a.new Secondary vs.b = record {
        index = left_b.index;
        number = left_b.number;
        each = λ n ls h. left_b.each n ls h ∙ ap (volume_at (left_b.index + n)) (sym (a.there Secondary refl));
        closed = left_b.closed;
      } in
      let b = joins law Secondary skew (half vs) a.new a.is_run a.clocks vs.b refl room.1 still
      (volume_of (joined_journals vs)) refl (others_b vs) in
      record {
        other = b.new;
        is_run = b.is_run;
        clocks = b.clocks;
        left_a = record {
          index = a.left.index;
          number = a.left.number;
          lines = a.left.lines ∙ ap (volume_at a.left.index) (sym (b.there Primary refl));
          closed = a.left.closed;
        };
        left_b = b.left;
        alike = λ transit starts reaches. (
            let one = a.alike transit starts reaches in
            let two = b.alike transit one.0 one.1 in
            (two.0, two.1, alike_over run starts a.new one.0 b.new two.0 one.2 two.2));
      }

-- ---- the headline

pub carried : JoinedCouldBeLeft AreLegal → TrueOfJoinedIsTrueOverVolumes AreLegal
carried could vs skew transit c room always run is_run clocks left_a left_b starts reaches =
    let o = could vs skew run room is_run clocks left_a left_b in
    let on = o.alike transit starts reaches in
    true_alike run starts o.other on.0 on.2 c (always o.other o.is_run o.clocks o.left_a o.left_b on.0 on.1)

pub over_volumes : JoinedCouldBeLeft AreLegal → AcceptedIsTrue AreLegal → AcceptedIsTrueOverVolumes AreLegal
over_volumes could headline vs skew transit c room ok =
    carried could vs skew transit c room (headline (joined_journals vs) skew transit c ok)
