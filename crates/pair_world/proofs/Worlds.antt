-- Every world that a list of events leads to is good: its run is a run of the pair, and at each unit the invariant
-- holds.
use Rattle.std.specs.Prelude.{◌≡◌, ◌+◌, ◌≤◌, ◌∷◌, ◌++◌, [], Bool, Err, List, Ok, Result, false, max, true, ℕ}
use Rattle.std.proofs.Common.{◌∙◌, ap, append-nil, ap₂, arith, refl, subst, suc, sym, zero}
use Rattle.pair_world.specs.Kept.{PairKept}
use Rattle.pair_world.specs.UnitInRun.{messages, server_of, setting_of}
use Rattle.prefix_range.specs.Prefix.{IsPrefix, Prefix}
use Rattle.lead_time.specs.Lease.{allowed_lifetime}
use Rattle.binding_rules.specs.declared.message.PartnerMessage.{PartnerMessage}
use Rattle.binding_rules.specs.declared.role.Role.TheVariants.{Primary, Secondary}
use Rattle.binding_rules.specs.declared.role.Role.{Role}
use Rattle.journal_lines.specs.declared.event.Event.{Event}
use Rattle.journal_lines.specs.declared.event.Event.TheVariants.{Grant, Restart, Take}
use Rattle.journal_lines.specs.declared.line.Journal.{Journal}
use Rattle.journal_lines.specs.declared.event.Lease.{Lease}
use Rattle.journal_lines.specs.declared.line.Line.{Line}
use Rattle.journal_lines.specs.declared.volume.Head.TheVariants.{One}
use Rattle.journal_lines.specs.Head.{volume_number}
use Rattle.book_rules.specs.Volumes.{AreSteps, book_after}
use Rattle.book_state.specs.Book.{BookState, blank, is_unit}
use Rattle.book_rules.specs.Rules.{IsStep}
use Rattle.book_rules.specs.declared.rule.Rule.TheVariants.{Lifetime, Unit as UnitRule}
use Rattle.book_state.specs.declared.pool.Pool.{Pool}
use Rattle.order_book.specs.declared.order.Order.{Order}
use Rattle.order_book.specs.declared.reply.Reply.{Reply}
use Rattle.order_book.specs.declared.order.Order.TheVariants.{Restart as RestartOrder, Take as TakeOrder}
use Rattle.server_settings.specs.Settings.{ServerSettings, opening}
use Rattle.order_book.proofs.FirstLines.{opening_is_legal}
use Rattle.order_book.specs.Replayed.{state_of, with_line}
use Rattle.order_book.specs.Answer.{IsAnswer}
use Rattle.binding_rules.specs.Role.{partner_of}
use Rattle.attribution.specs.Run.{At, Step, lines_of}
use Rattle.pair_world.specs.PairWorld.{ServerAnswers, AreAlike, IsDone, IsDownAllowed, IsFedBy, IsWorldStep, PairWorld}
use Rattle.pair_world.specs.PairWorld.{Reaches, book, is_stopped, journal, new_world, steps_of, with_stop, written}
use Rattle.pair_world.specs.PairSafe.{Comes, MayOpen}
use Rattle.pair_world.specs.declared.event.Event.TheVariants.{Deliver, Pass, Restart as RestartEvent, Serve, Stop}
use Rattle.pair_world.specs.UnitWorld.{IsIn, UnitSetting, first}
use Rattle.pair_world.specs.declared.error.WorldError.{WorldError}
use Rattle.pair_world.specs.declared.event.Event.{Event as WorldEvent}
use Rattle.pair_world.proofs.Openings.{AreOpening, AreOpeningSteps, head_append, head_steps, heads_server, is_opening}
use Rattle.pair_world.proofs.Openings.{log_heads, messages_heads, opening_heading, settled}
use Rattle.pair_world.proofs.Pairs.{Known, Settled, book_own, book_other, line, own_lines, other_lines, pass}
use Rattle.pair_world.proofs.Pairs.{settled_after, stop}
use Rattle.pair_world.proofs.Safety.{Invariant, at_start, passes}
use Rattle.pair_world.proofs.BookSteps.{MayWrite, step, stopped_after}
use Rattle.pair_world.proofs.Traces.{Trace, blank_trace, book_in, lines_of_own, lines_of_partner, trace_later}
use Rattle.pair_world.proofs.Traces.{trace_lines, trace_on}
use Rattle.pair_world.proofs.Lists.{at_split, lines_append, numbered_at, numbered_in}
use Rattle.pair_world.proofs.Phases.{by_word}
use Rattle.pair_world.proofs.Shapes.{fed_of, may_write, shape}

-- each grant is of a unit, and none is endless
abbrev pub AreGifts : List Pool → List Step → Type 0
AreGifts pools run = (i : ℕ) (t : Step) (g : Lease) → At run i t → t.line.event ≡ Grant g
    → (g.valid ≤ 31536000) × IsPrefix g.prefix × (is_unit pools g.prefix ≡ true)

-- one of two, by the side
abbrev pub of_two : {T : Type 0} → T → T → Role → T
of_two a b Primary = a
of_two a b Secondary = b

-- for each side, from one and its partner
by_sides : (side : Role) (P : Role → Type 0) → P side → P (partner_of side) → (x : Role) → P x
by_sides Primary P own other Primary = own
by_sides Primary P own other Secondary = other
by_sides Secondary P own other Primary = other
by_sides Secondary P own other Secondary = own

-- a journal is what its side wrote in the run
pub record IsJournalIn (side : Role) (run : List Step) (j : Journal) : Type 0 where
  pub role : j.role ≡ side
  pub head : j.head ≡ One
  pub lines : j.lines ≡ lines_of side run

pub book_is : (side : Role) (run : List Step) (j : Journal) → IsJournalIn side run j → state_of j ≡ book_in side run
book_is side run j is =
    (ap (λ r. book_after (blank r (volume_number j.head)) j.lines) is.role
    ∙ ap (λ h. book_after (blank side (volume_number h)) j.lines) is.head)
    ∙ ap (book_after (blank side 1)) is.lines

-- a run of the pair, with who is stopped and the journals
pub record GoodRun (s : ServerSettings) (moment : ℕ) (run : List Step) (stopped : Role → Bool) (journals : Role
    → Journal) : Type 0 where
  pub trace : Trace s.skew moment run
  pub journal : (side : Role) → IsJournalIn side run (journals side)
  pub settled : (side : Role) → Settled (setting_of s) side s.pools (book_in side run)
  pub known : (p : Prefix) → is_unit s.pools p ≡ true → Known (setting_of s) p moment run stopped
  pub gifts : AreGifts s.pools run

pub record Good (s : ServerSettings) (w : PairWorld) : Type 0 where
  pub skew_is : w.skew ≡ s.skew
  pub transit_is : w.transit ≡ s.transit
  pub run : GoodRun s w.moment w.run (of_two w.stopped_a w.stopped_b) (of_two w.a w.b)

-- each of the two journals, and who is stopped
pub journal_in : (side : Role) (s : ServerSettings) (w : PairWorld) → Good s w → IsJournalIn side w.run (journal side w)
journal_in Primary s w good = good.run.journal Primary
journal_in Secondary s w good = good.run.journal Secondary

pub stopped_in : (side : Role) (w : PairWorld) → of_two w.stopped_a w.stopped_b side ≡ is_stopped side w
stopped_in Primary w = refl
stopped_in Secondary w = refl

-- the start
head_gifts : (pools : List Pool) (ss : List Step) → AreOpeningSteps ss → AreGifts pools ss
head_gifts pools ss h i t g at is = absurd (none ss h i at) where
  none : (ss : List Step) → AreOpeningSteps ss → (i : ℕ) → At ss i t → ⊥
  none [] h i at = absurd (cc)
  none (x ∷ xs) h zero at = let e : x ≡ t = cc in let z : is_opening x.line.event ≡ false =
      ap (λ (y : Step). is_opening y.line.event) e ∙ ap is_opening is in absurd (cc)
  none (x ∷ xs) h (suc i) at = none xs h.1 i at

-- a line
valid_short : (life mclt acked now valid : ℕ) → life ≤ 31536000 → valid ≡ allowed_lifetime life mclt acked now
    → valid ≤ 31536000
valid_short life mclt acked now valid le is = omega arith

gift : (pools : List Pool) (b : BookState) (l : Line) (g : Lease) → b.pools ≡ pools → b.life ≤ 31536000 → IsStep b l
    → l.event ≡ Grant g → (g.valid ≤ 31536000) × (is_unit pools g.prefix ≡ true)
gift pools b l g same short step is =
    let r7 = rw is at (step Lifetime) in
    let r4 = rw is at (step UnitRule) in (
      valid_short b.life b.mclt (b.units g.prefix).acked l.reading g.valid short r7,
      subst (λ z. is_unit z g.prefix ≡ true) same r4,
    )

gifts_on : (pools : List Pool) (run : List Step) (t : Step) → AreGifts pools run
    → ((g : Lease) → t.line.event ≡ Grant g → (g.valid ≤ 31536000) × IsPrefix g.prefix
    × (is_unit pools g.prefix ≡ true))
    → AreGifts pools (run ++ t ∷ [])
gifts_on pools run t gifts new i u g at is =
    by_word (at_split run t i u at) (λ old. gifts i u g old is) (λ e. new g (ap (λ (x : Step). x.line.event) e.1 ∙ is))

read_line : (clock last moment skew : ℕ) → clock ≤ moment + skew → moment ≤ clock + skew → last ≤ moment + skew
    → (max clock last ≤ moment + skew) × (moment ≤ max clock last + skew)
read_line clock last moment skew a b c = (omega arith, omega arith)

runs_on : (stopped : Bool) → stopped ≡ false → (e e' : Event) → e' ≡ e
    → MayWrite stopped e × (stopped_after stopped e ≡ false)
runs_on stopped is e e' same = subst (λ t. MayWrite t e × (stopped_after t e ≡ false)) (sym is) (
  may_write e,
  still e,
) where
  still : (e : Event) → stopped_after false e ≡ false
  still (Restart n) = refl
  still _ = refl

restarted : (stopped : Bool) (n : ℕ) (e e' : Event) → e' ≡ Restart n → e' ≡ e
    → MayWrite stopped e × (stopped_after stopped e ≡ false)
restarted stopped n e e' is same = subst (λ z. MayWrite stopped z × (stopped_after stopped z ≡ false)) (sym is ∙ same)
    (tt, refl)

same_setting : (s t : ServerSettings) → AreAlike s t → setting_of t ≡ setting_of s
same_setting s t h =
    let make : ℕ → ℕ → ℕ → UnitSetting = λ skew transit mclt. record { skew = skew; transit = transit; mclt = mclt } in
    ap (λ z. make z t.transit t.mclt) h.skew
    ∙ (ap (λ z. make s.skew z t.mclt) h.transit ∙ ap (make s.skew s.transit) h.mclt)

-- a server's line, by a clock
module _ (s : ServerSettings) (moment : ℕ) (run : List Step) (stopped : Role → Bool) (journals : Role
    → Journal) (good : GoodRun s moment run stopped journals) (side : Role)
    (stopped' : Role → Bool) (others : stopped' (partner_of side) ≡ stopped (partner_of side)) where
  abbrev other : Role
  other = partner_of side

  book_is_in : state_of (journals side) ≡ book_in side run
  book_is_in = book_is side run (journals side) (good.journal side)

  line_on : (journals' : Role → Journal) (clock : ℕ) (order : Order) (l : Line) (reply : Reply)
      → journals' side ≡ with_line (journals side) l → journals' other ≡ journals other → stopped' side ≡ false
      → clock ≤ moment + s.skew → moment ≤ clock + s.skew → IsAnswer (state_of (journals side)) clock order l reply
      → ((e : Event) → l.event ≡ e → MayWrite (stopped side) e × (stopped_after (stopped side) e ≡ false))
      → IsFedBy (journals other).lines order → IsDownAllowed (stopped other) order
      → GoodRun s moment (run ++ record { side = side; moment = moment; line = l } ∷ []) stopped' journals'
  line_on journals' clock order l reply own_is other_is stop near near' answer writes fed down =
      let t : Step = record { side = side; moment = moment; line = l } in
      let sh = shape (journals other).lines (stopped other) (state_of (journals side)) l.reading order l.event
      answer.line.named fed down in
      let last = good.trace.read side in
      let same_reading = ap (λ (b : BookState). b.reading) book_is_in in
      let r = read_line clock (state_of (journals side)).reading moment s.skew near near' (omega arith) in
      let ahead : l.reading ≤ moment + s.skew = subst (λ z. z ≤ moment + s.skew) (sym answer.line.reading) r.0 in
      let behind : moment ≤ l.reading + s.skew = subst (λ z. moment ≤ z + s.skew) (sym answer.line.reading) r.1 in
      let may = writes l.event refl in
      let legal : IsStep (book_in side run) l = subst (λ b. IsStep b l) book_is_in answer.line.legal in
      let sent : (m : PartnerMessage) → l.event ≡ Take m → IsIn (messages other run []) m =
      λ m e. let n = sh.fed m e in numbered_in other run (journals other).lines n.0 m (good.journal other).lines n.1 in
      let own = good.journal side in
      let theirs = good.journal other in
      record {
        trace = trace_on s.skew moment run good.trace t refl ahead behind (λ m e. let n = sh.fed m e in
            numbered_at other run (journals other).lines n.0 m theirs.lines n.1) legal;
        journal = by_sides side (λ x. IsJournalIn x (run ++ t ∷ []) (journals' x))
            (subst (IsJournalIn side (run ++ t ∷ [])) (sym own_is) (record {
              role = own.role;
              head = own.head;
              lines =
                  ap (λ z. z ++ l ∷ []) own.lines ∙ sym (own_lines run t);
            }))
            (subst (IsJournalIn other (run ++ t ∷ [])) (sym other_is) (record {
              role = theirs.role;
              head = theirs.head;
              lines = theirs.lines ∙ sym (other_lines run t);
            }));
        settled = by_sides side (λ x. Settled (setting_of s) x s.pools (book_in x (run ++ t ∷ [])))
            (subst (Settled (setting_of s) side s.pools) (sym (book_own run t))
            (settled_after (setting_of s) side s.pools (book_in side run) l (good.settled side) sh.body))
            (subst (Settled (setting_of s) other s.pools) (sym (book_other run t)) (good.settled other));
        known = λ p unit. line (setting_of s) s.pools p unit moment run stopped (good.known p unit) side stopped' others
            (good.settled side) l legal sh.body ahead behind may.0 (stop ∙ sym may.1) sh.down
            (fed_of l.event (messages other run []) sent);
        gifts = gifts_on s.pools run t good.gifts
            (λ g e. let y = gift s.pools (book_in side run) l g (good.settled side).pools_are
            (good.settled side).short legal e in (y.0, sh.aligned g e, y.1));
      }

  stop_on : stopped' side ≡ true → GoodRun s moment run stopped' journals
  stop_on is = record {
    trace = good.trace;
    journal = good.journal;
    settled = good.settled;
    known = λ p unit. stop (setting_of s) s.pools p unit moment run stopped (good.known p unit) side stopped' others is;
    gifts = good.gifts;
  }

line_good : (side : Role) (s : ServerSettings) (w : PairWorld) → Good s w
    → (clock : ℕ) (order : Order) (l : Line) (reply : Reply) → ServerAnswers w side clock order l reply
    → ((e : Event) → l.event ≡ e → MayWrite (is_stopped side w) e × (stopped_after (is_stopped side w) e ≡ false))
    → IsFedBy (journal (partner_of side) w).lines order → IsDownAllowed (is_stopped (partner_of side) w) order
    → Good s (with_stop side false (written side w l))
line_good Primary s w good clock order l reply ((near, near'), answer) writes fed down =
    let skew = good.skew_is in
    let on = line_on s w.moment w.run _ _ good.run Primary (of_two false w.stopped_b) refl
    (of_two (with_line w.a l) w.b) clock order l reply refl refl refl (omega arith)
    (omega arith) answer writes fed down in
    record { skew_is = good.skew_is; transit_is = good.transit_is; run = on }
line_good Secondary s w good clock order l reply ((near, near'), answer) writes fed down =
    let skew = good.skew_is in
    let on = line_on s w.moment w.run _ _ good.run Secondary (of_two w.stopped_a false) refl
    (of_two w.a (with_line w.b l)) clock order l reply refl refl refl (omega arith)
    (omega arith) answer writes fed down in
    record { skew_is = good.skew_is; transit_is = good.transit_is; run = on }

stop_good : (side : Role) (s : ServerSettings) (w : PairWorld) → Good s w → Good s (with_stop side true w)
stop_good Primary s w good = record {
  skew_is = good.skew_is;
  transit_is = good.transit_is;
  run =
      stop_on s w.moment w.run _ _ good.run Primary (of_two true w.stopped_b) refl refl;
}
stop_good Secondary s w good = record {
  skew_is = good.skew_is;
  transit_is = good.transit_is;
  run =
      stop_on s w.moment w.run _ _ good.run Secondary (of_two w.stopped_a true) refl refl;
}

as_stopped : (side : Role) (w : PairWorld) (l : Line) → with_stop side (is_stopped side w) (written side w l)
    ≡ written side w l
as_stopped Primary w l = refl
as_stopped Secondary w l = refl

module _ (side : Role) (s : ServerSettings) (w : PairWorld) (good : Good s w) where
  serve_good : (clock : ℕ) (order : Order) (l : Line) (reply : Reply) → is_stopped side w ≡ false
      → ServerAnswers w side clock order l reply
      → IsFedBy (journal (partner_of side) w).lines order → IsDownAllowed (is_stopped (partner_of side) w) order
      → Good s (written side w l)
  serve_good clock order l reply runs answers fed down = subst (Good s) (as_stopped side w l)
      (subst (λ t. Good s (with_stop side t (written side w l))) (sym runs)
      (line_good side s w good clock order l reply answers (λ e same.
      runs_on (is_stopped side w) runs e l.event same) fed down))

  restart_good : (clock : ℕ) (l : Line) (reply : Reply) → ServerAnswers w side clock RestartOrder l reply
      → Good s (with_stop side false (written side w l))
  restart_good clock l reply answers = line_good side s w good clock RestartOrder l reply answers
      (λ e same. restarted (is_stopped side w) ((book side w).restart + 1) e l.event answers.1.line.named same) tt tt

-- both servers begin
pub good_new : (moment : ℕ) (s t : ServerSettings) → MayOpen moment s t → Good s (new_world moment s t)
good_new moment s t opens =
    let ls = (opening s moment).lines in
    let ms = (opening t moment).lines in
    let h = opening_heading moment s in
    let g = opening_heading moment t in
    let run_a = steps_of Primary moment ls in
    let run_b = steps_of Secondary moment ms in
    let run = run_a ++ run_b in
    let all = head_append run_a run_b (head_steps Primary moment ls h.0) (head_steps Secondary moment ms g.0) in
    let legal_a : AreSteps (blank Primary 1) ls =
    subst (λ r. AreSteps (blank r 1) ls) opens.alike.first
    (opening_is_legal s moment opens.first_fits opens.moment_fits) in
    let legal_b : AreSteps (blank Secondary 1) ms =
    subst (λ r. AreSteps (blank r 1) ms) opens.alike.second
    (opening_is_legal t moment opens.second_fits opens.moment_fits) in
    let of_a : lines_of Primary run ≡ ls = lines_append Primary run_a run_b
    ∙ ap₂ (λ x y. x ++ y) (lines_of_own Primary moment ls) (lines_of_partner Primary moment ms) ∙ append-nil ls in
    let of_b : lines_of Secondary run ≡ ms = lines_append Secondary run_a run_b
    ∙ ap₂ (λ x y. x ++ y) (lines_of_partner Secondary moment ls) (lines_of_own Secondary moment ms) in
    let book_a : book_in Primary run ≡ book_after (blank Primary 1) ls = ap (book_after (blank Primary 1)) of_a in
    let book_b : book_in Secondary run ≡ book_after (blank Secondary 1) ms = ap (book_after (blank Secondary 1)) of_b in
    let trace_a = trace_lines s.skew moment Primary ls [] (blank_trace s.skew moment) legal_a h.1 in
    let idle : book_in Secondary run_a ≡ blank Secondary 1 =
    ap (book_after (blank Secondary 1)) (lines_of_partner Secondary moment ls) in
    record {
      skew_is = refl;
      transit_is = refl;
      run = record {
        trace = trace_lines s.skew moment Secondary ms run_a trace_a
            (subst (λ b. AreSteps b ms) (sym idle) legal_b) g.1;
        journal = by_sides Primary (λ x. IsJournalIn x run (of_two (opening s moment) (opening t moment) x))
            (record { role = opens.alike.first; head = refl; lines = sym of_a })
            (record { role = opens.alike.second; head = refl; lines = sym of_b });
        settled = by_sides Primary (λ x. Settled (setting_of s) x s.pools (book_in x run)) (settled_a book_a)
            (settled_b book_b);
        known = λ p unit. first_known p run all book_a book_b h.0 g.0;
        gifts = head_gifts s.pools run all;
      };
    } where
      settled_a : book_in Primary (steps_of Primary moment (opening s moment).lines
          ++ steps_of Secondary moment (opening t moment).lines) ≡ book_after (blank Primary 1) (opening s moment).lines
          → Settled (setting_of s) Primary s.pools
          (book_in Primary (steps_of Primary moment (opening s moment).lines
          ++ steps_of Secondary moment (opening t moment).lines))
      settled_a is = subst (Settled (setting_of s) Primary s.pools) (sym is)
          (subst (λ r. Settled (setting_of s) r s.pools (book_after (blank r 1) (opening s moment).lines))
          opens.alike.first (settled s opens.first_fits.within.life moment))

      settled_b : book_in Secondary (steps_of Primary moment (opening s moment).lines
          ++ steps_of Secondary moment (opening t moment).lines) ≡ book_after (blank Secondary 1)
          (opening t moment).lines
          → Settled (setting_of s) Secondary s.pools
          (book_in Secondary (steps_of Primary moment (opening s moment).lines
          ++ steps_of Secondary moment (opening t moment).lines))
      settled_b is = subst (Settled (setting_of s) Secondary s.pools) (sym is)
          (subst (λ x. Settled x Secondary s.pools (book_after (blank Secondary 1) (opening t moment).lines))
          (same_setting s t opens.alike)
          (subst (λ ps. Settled (setting_of t) Secondary ps (book_after (blank Secondary 1) (opening t moment).lines))
          opens.alike.pools
          (subst (λ r. Settled (setting_of t) r t.pools (book_after (blank r 1) (opening t moment).lines))
          opens.alike.second (settled t opens.second_fits.within.life moment))))

      first_known : (p : Prefix) (run : List Step) → AreOpeningSteps run
          → book_in Primary run ≡ book_after (blank Primary 1) (opening s moment).lines
          → book_in Secondary run ≡ book_after (blank Secondary 1) (opening t moment).lines
          → AreOpening (opening s moment).lines → AreOpening (opening t moment).lines
          → Known (setting_of s) p moment run (of_two false false)
      first_known p run all book_a book_b h g =
          let zero_plus : 0 + moment ≡ moment = omega arith in
          let server_a : server_of p (book_in Primary run) (messages Primary run []) false ≡ first =
          ap (λ b. server_of p b (messages Primary run []) false) book_a
          ∙ (ap (λ ms. server_of p (book_after (blank Primary 1) (opening s moment).lines) ms false)
          (messages_heads Primary run [] all) ∙ heads_server p (blank Primary 1) (opening s moment).lines
          [] false h) in
          let server_b : server_of p (book_in Secondary run) (messages Secondary run []) false ≡ first =
          ap (λ b. server_of p b (messages Secondary run []) false) book_b
          ∙ (ap (λ ms. server_of p (book_after (blank Secondary 1) (opening t moment).lines) ms false)
          (messages_heads Secondary run [] all) ∙ heads_server p (blank Secondary 1) (opening t moment).lines
          [] false g) in
          subst (λ es. Invariant (setting_of s) moment es
          (server_of p (book_in Primary run) (messages Primary run []) false)
          (server_of p (book_in Secondary run) (messages Secondary run []) false))
          (sym (log_heads p run [] all))
          (subst (λ x. Invariant (setting_of s) moment [] x
          (server_of p (book_in Secondary run) (messages Secondary run []) false)) (sym server_a)
          (subst (λ x. Invariant (setting_of s) moment [] first x) (sym server_b)
          (record {
            kept = subst (λ n. PairKept (setting_of s) n [] first first) zero_plus
                (passes (setting_of s) 0 [] first first moment (at_start (setting_of s)).kept);
            alone =
                λ m j k h h'. absurd h;
          })))

module _ (s : ServerSettings) (w : PairWorld) (good : Good s w) where
  pass_good : (n : ℕ) → Good s (record w { moment = w.moment + n })
  pass_good n = record {
    skew_is = good.skew_is;
    transit_is = good.transit_is;
    run = record {
      trace = trace_later s.skew w.moment n w.run good.run.trace;
      journal = good.run.journal;
      settled = good.run.settled;
      known = λ p unit. pass (setting_of s) p w.moment w.run (of_two w.stopped_a w.stopped_b) (good.run.known p unit) n;
      gifts = good.run.gifts;
    };
  }

  done_good : (v : PairWorld) (e : WorldEvent) (reply : Reply) → IsDone w e reply v → Good s v
  done_good v (Serve side clock order) reply d = let x = d.3 in
      subst (Good s) (sym x.2) (serve_good side s w good clock order x.0 reply d.0 x.1 d.1 d.2)
  done_good v (Deliver side sent clock) reply d = let x = d.1 in
      subst (Good s) (sym x.4) (serve_good side s w good clock (TakeOrder x.0) x.1 reply d.0 x.3 (sent, x.2) tt)
  done_good v (Stop side) reply d = subst (Good s) (sym d.2) (stop_good side s w good)
  done_good v (RestartEvent side clock) reply d = let x = d.1 in
      subst (Good s) (sym x.2) (restart_good side s w good clock x.0 reply x.1)
  done_good v (Pass ms) reply d = subst (Good s) (sym d.2) (pass_good ms)

  step_good : (v : PairWorld) (e : WorldEvent) (answer : Result Reply WorldError) → IsWorldStep w e answer v → Good s v
  step_good v e (Ok reply) d = done_good v e reply d
  step_good v e (Err error) d = subst (Good s) (sym d.1) good

reaches_good : (s : ServerSettings) (es : List WorldEvent) (w v : PairWorld) → Good s w → Reaches w es v → Good s v
reaches_good s [] w v good r = subst (Good s) (sym r) good
reaches_good s (e ∷ es) w v good r = reaches_good s es r.1 v (step_good s w good r.1 e r.0 r.2) r.3

pub good : (s t : ServerSettings) (w : PairWorld) → Comes s t w → Good s w
good s t w c = reaches_good s c.events (new_world c.moment s t) w (good_new c.moment s t c.opens) c.reaches
