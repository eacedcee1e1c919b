-- Clocks fit two later volumes: earlier volumes are made up that send what was taken of them.
use Rattle.std.specs.Prelude.{◌≡◌, ℕ, ◌+◌, ◌-◌, ◌<◌, ◌≤◌, List, Some, slice_get, length}
use Rattle.std.proofs.Common.{suc, arith, sym, ◌∙◌, ap, subst, inl, inr, refl}
use Rattle.std.proofs.lemmas.Option.{slice_get_within, slice_get_read}
use Rattle.binding_rules.specs.declared.role.Role.{Role}
use Rattle.binding_rules.specs.declared.role.Role.TheVariants.{Primary, Secondary}
use Rattle.binding_rules.specs.Role.{partner_of}
use Rattle.binding_rules.specs.declared.message.PartnerMessage.{PartnerMessage}
use Rattle.journal_lines.specs.declared.event.Event.{Event}
use Rattle.journal_lines.specs.declared.event.Event.TheVariants.{Send, Take}
use Rattle.journal_lines.specs.declared.line.Line.{Line}
use Rattle.journal_lines.specs.Close.{until_close}
use Rattle.causal_order.specs.Journals.{Volume, Journals, journal_of, volume_of}
use Rattle.book_state.specs.Book.{blank}
use Rattle.attribution.specs.Volumes.{volume_at, volumes_in}
use Rattle.attribution.specs.Run.{Step, lines_of, At, IsWithin, KeepsSkew, Leaves}
use Rattle.attribution.specs.Laws.{count}
use Rattle.attribution.specs.Lawful.{Lawful}
use Rattle.attribution.specs.Clocks.{AreChecked, AreClosed, NoneIsEarly, VolumesFit, TimelyNameOne, FitsClocks}
use Rattle.attribution.proofs.Headline.{headline}
use Rattle.attribution.proofs.Clocks.{no_two_holders, early_fits_no_clocks}
use Rattle.attribution.proofs.Places.{line_at}
use Rattle.attribution.proofs.Orders.{IsPassedOver}
use Rattle.attribution.proofs.Timed.{run, run_in_time, lines_left, near, sent_or}
use Rattle.attribution.proofs.Fitting.{rising, ordered}
use Rattle.attribution.proofs.LegalJournals.{is_whole, one_lawful}
use Rattle.attribution.proofs.PassedOver.{Passed, passed}
use Rattle.attribution.proofs.Earlier.{plain, before, early, lines_same, lines_other, split, later_at, event_at}
use Rattle.attribution.proofs.Earlier.{early_in_time, events, takes_nothing, sends_each, volume_left, made_lawful}

twice : (side : Role) → partner_of (partner_of side) ≡ side
twice Primary = refl
twice Secondary = refl

module _ (js : Journals) (skew : ℕ) (are : AreChecked js) (closed : AreClosed js) (some : (side : Role)
    → 0 < volume_of js side) (none : NoneIsEarly js skew) where
  base : List Step
  base = run js skew (ordered js are).order (ordered js are).is (rising js are)

  -- how many volumes came before, and what they sent
  earlier : Role → ℕ
  earlier side = volume_of js side - 1

  sent_there : (side : Role) → Passed (journal_of js (partner_of side)) (journal_of js side)
  sent_there side = passed (journal_of js (partner_of side)) (journal_of js side)

  made : Role → List Event
  made side = events (earlier side) (sent_there side).messages

  whole : List Step
  whole = early Primary (made Primary) (early Secondary (made Secondary) base)

  lines_base : (side : Role) → lines_of side base ≡ journal_of js side
  unfolding base
  lines_base side = lines_left js skew (ordered js are).order (ordered js are).is (rising js are) side

  lines_whole : (side : Role) → lines_of side whole ≡ before (made side) (journal_of js side)
  unfolding whole
  lines_whole Primary = lines_same Primary (made Primary) (early Secondary (made Secondary) base)
      ∙ ap (before (made Primary)) (lines_other Secondary (made Secondary) base ∙ lines_base Primary)
  lines_whole Secondary = lines_other Primary (made Primary) (early Secondary (made Secondary) base)
      ∙ (lines_same Secondary (made Secondary) base ∙ ap (before (made Secondary)) (lines_base Secondary))

  ends : (side : Role) → until_close (journal_of js side) ≡ journal_of js side
  ends side = is_whole (journal_of js side) (blank side (volume_of js side)) (are.legal side)

  legal : (side : Role) → Lawful (volumes_in (volume_of js side) (lines_of side whole))
  unfolding made earlier
  legal side =
      let p : Passed (journal_of js (partner_of side)) (journal_of js side) = sent_there side in
      let at_least = some side in
      let n : suc (volume_of js side - 1) ≡ volume_of js side = omega arith in
      let one = one_lawful side (volume_of js side) (journal_of js side) (are.legal side) in
      let m : Lawful (volumes_in (suc (volume_of js side - 1))
      (before (events (volume_of js side - 1) p.messages) (journal_of js side))) =
      made_lawful p.messages (journal_of js side) (ends side) one
      (λ i k x y l at here is same. p.unsent i x at k l y here is same) (volume_of js side - 1) in
      let c : Lawful (volumes_in (suc (volume_of js side - 1)) (lines_of side whole)) =
      subst (λ ls. Lawful (volumes_in (suc (volume_of js side - 1)) ls)) (sym (lines_whole side)) m in
      subst (λ n. Lawful (volumes_in n (lines_of side whole))) n c

  left : (side : Role) → journal_of js side ≡ volume_at (volume_of js side - 1) (lines_of side whole)
  unfolding made earlier
  left side = sym (ap (volume_at (volume_of js side - 1)) (lines_whole side)
      ∙ volume_left (sent_there side).messages (journal_of js side) (ends side) (volume_of js side - 1))

  in_time : (i j : ℕ) (s t : Step) → i ≤ j → At whole i s → At whole j t → s.moment ≤ t.moment
  unfolding whole base
  in_time = early_in_time Primary (made Primary) (early Secondary (made Secondary) base)
      (early_in_time Secondary (made Secondary) base
      (run_in_time js skew (ordered js are).order (ordered js are).is (rising js are)))

  near_base : (i : ℕ) (s : Step) → At base i s → (s.line.reading ≤ s.moment + skew) × (s.moment ≤ s.line.reading + skew)
  unfolding base
  near_base = near js skew (ordered js are).order (ordered js are).is (rising js are) (ordered js are).lesser none

  keeps : KeepsSkew skew (volume_of js) whole
  unfolding whole
  keeps i s at within = elim (split Primary (made Primary) (early Secondary (made Secondary) base) i s at) [
    | inl h ↦ (let r = h.2 in let m = h.3 in (omega arith, omega arith))
    | inr h ↦ elim (split Secondary (made Secondary) base h.0 s h.2) [
      | inl h ↦ (let r = h.2 in let m = h.3 in (omega arith, omega arith))
      | inr h ↦ near_base h.0 s h.2
    ]
  ]

  -- a step is a line of its journal
  line_in : (side : Role) (k : ℕ) (s : Step) → At base k s → s.side ≡ side
      → (n : ℕ) × (slice_get (journal_of js side) n ≡ Some s.line)
  line_in side k s at of = (
    count side base k,
    subst (λ ls. slice_get ls (count side base k) ≡ Some s.line) (lines_base side) (line_at base side k s at of),
  )

  -- what was passed over is among what the partner's earlier volumes send
  made_send : (side : Role) (k : ℕ) (l : Line) (m : PartnerMessage) → slice_get (journal_of js side) k ≡ Some l
      → l.event ≡ Take m → IsPassedOver js side m
      → (j : ℕ) × (slice_get (made (partner_of side)) j ≡ Some (Send m))
  unfolding made earlier
  made_send side k l m at takes over =
      let back = twice side in
      let p : Passed (journal_of js (partner_of (partner_of side))) (journal_of js (partner_of side)) =
      sent_there (partner_of side) in
      let here : slice_get (journal_of js (partner_of (partner_of side))) k ≡ Some l =
      subst (λ s. slice_get (journal_of js s) k ≡ Some l) (sym back) at in
      let found = p.each k l m here takes over.1 in
      let number = over.0 in
      (found.0, sends_each (volume_of js (partner_of side) - 1) p.messages found.0 m (omega arith) found.1)

  IsSentTo : Step → PartnerMessage → ℕ → Type 0
  IsSentTo s m i = (j : ℕ) × (t : Step) × (j < i) × At whole j t × (t.side ≡ partner_of s.side)
      × (t.line.event ≡ Send m)

  made_step : (side : Role) (i k : ℕ) (s : Step) (m : PartnerMessage)
      → i ≡ length (made Primary) + (length (made Secondary) + k) → s.side ≡ side
      → (j : ℕ) × (slice_get (made (partner_of side)) j ≡ Some (Send m)) → IsSentTo s m i
  unfolding IsSentTo whole
  made_step Primary i k s m n of sends =
      let at = event_at Secondary (made Secondary) base sends.0 (Send m) sends.1 in
      let less = slice_get_within (made Secondary) sends.0 (Send m) sends.1 in (
        length (made Primary) + sends.0,
        record { side = Secondary; moment = 0; line = plain (Send m) },
        omega arith,
        later_at Primary (made Primary) (early Secondary (made Secondary) base) sends.0 _ at,
        sym (ap partner_of of),
        refl,
      )
  made_step Secondary i k s m n of sends =
      let at = event_at Primary (made Primary) (early Secondary (made Secondary) base) sends.0 (Send m) sends.1 in
      let less = slice_get_within (made Primary) sends.0 (Send m) sends.1 in (
        sends.0,
        record { side = Primary; moment = 0; line = plain (Send m) },
        omega arith,
        at,
        sym (ap partner_of of),
        refl,
      )

  base_sent : (i k : ℕ) (s : Step) (m : PartnerMessage) → i ≡ length (made Primary) + (length (made Secondary) + k)
      → At base k s → s.line.event ≡ Take m → IsSentTo s m i
  unfolding IsSentTo whole base
  base_sent i k s m n at takes =
      elim (sent_or js skew (ordered js are).order (ordered js are).is (rising js are) k s m at takes) [
        | inl t ↦ (
            let less = t.2 in (
              length (made Primary) + (length (made Secondary) + t.0),
              t.1,
              omega arith,
              later_at Primary (made Primary) (early Secondary (made Secondary) base)
                  (length (made Secondary) + t.0) t.1
                  (later_at Secondary (made Secondary) base t.0 t.1 t.3),
              t.4,
              t.5,
            )
            )
        | inr over ↦ (
            let line = line_in s.side k s at refl in
            made_step s.side i k s m n refl (made_send s.side line.0 s.line m line.1 takes over)
            )
      ]

  sent : (i : ℕ) (s : Step) (m : PartnerMessage) → At whole i s → IsWithin (volume_of js) whole i s
      → s.line.event ≡ Take m
      → (j : ℕ) × (t : Step) × (j < i) × At whole j t × (t.side ≡ partner_of s.side) × (t.line.event ≡ Send m)
  unfolding IsSentTo whole made
  sent i s m at within takes = elim (split Primary (made Primary) (early Secondary (made Secondary) base) i s at) [
    | inl h ↦ absurd (takes_nothing (earlier Primary) (sent_there Primary).messages i m (h.1 ∙ ap (λ e. Some e) takes))
    | inr h ↦ elim (split Secondary (made Secondary) base h.0 s h.2) [
      | inl g ↦ absurd (takes_nothing (earlier Secondary) (sent_there Secondary).messages h.0 m (g.1
          ∙ ap (λ e. Some e) takes))
      | inr g ↦ (let a = h.1 in let b = g.1 in base_sent i g.0 s m (omega arith) g.2 takes)
    ]
  ]

  leaves : (side : Role) → (v : Volume) → v.lines ≡ journal_of js side → v.number ≡ volume_of js side
      → Leaves whole side v
  leaves side v lines number =
      let at_least = some side in
      let c = closed side in
      record {
        index = volume_of js side - 1;
        number = omega arith;
        lines = lines ∙ left side;
        closed = (c.0, c.1, subst (λ ls. slice_get ls c.0 ≡ Some c.1) (sym lines) c.2, c.3);
      }

  fits : FitsClocks (λ side volumes. Lawful volumes) js skew
  fits = (
    whole,
    record {
      is_run = record { in_time = in_time; legal = legal; sent = sent };
      clocks = keeps;
      left_a = leaves Primary js.a refl refl;
      left_b = leaves Secondary js.b refl refl;
    },
  )

pub volumes_fit : VolumesFit
volumes_fit js skew are closed some =
    (early_fits_no_clocks (λ side vs. Lawful vs) (λ side vs h. h) js skew, λ none. fits js skew are closed some none)

pub timely_name_one : TimelyNameOne
timely_name_one js skew are some none skew_c transit_c skew_d transit_d c d le_c ok_c =
    let closed : AreClosed js = λ side.
    let l = ok_c.closed side in (
      l.1.0,
      l.0,
      slice_get_read (journal_of js side) (length (journal_of js side)) l.1.0 l.0 refl l.1.1 (sym l.1.2),
      l.2,
    ) in
    no_two_holders (λ side vs. Lawful vs) (headline (λ side vs. Lawful vs) (λ side vs h. h)) js skew
    (fits js skew are closed some none) skew_c transit_c skew_d transit_d c d le_c ok_c
