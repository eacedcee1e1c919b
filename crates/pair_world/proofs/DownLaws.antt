-- The laws of a server whose partner is down, from what is good of each world.
use Rattle.std.specs.Prelude.{◌≡◌, ◌≢◌, ◌+◌, ◌*◌, ◌/◌, ◌<◌, ◌≤◌, ◌⊎◌, ◌==◌, ◌∷◌, [], List, None, Option, Some, false}
use Rattle.std.specs.Prelude.{length, max, true, ℕ}
use Rattle.std.proofs.Common.{◌∙◌, ap, arith, inl, inr, refl, subst, sym}
use Rattle.std.proofs.lemmas.Bool.{and_from, eq-eqb}
use Rattle.pair_world.specs.UnitInRun.{holder_of, log_of, messages, server_of, setting_of}
use Rattle.prefix_range.specs.Prefix.{Prefix, size_of}
use Rattle.binding_rules.specs.declared.update.Status.TheVariants.{Active as ActiveDue}
use Rattle.binding_rules.specs.declared.role.Role.TheVariants.{Primary, Secondary}
use Rattle.binding_rules.specs.declared.role.Role.{Role}
use Rattle.binding_rules.specs.Giving.{is_own}
use Rattle.binding_rules.specs.Role.{partner_of}
use Rattle.binding_rules.specs.Unit.{status_of}
use Rattle.journal_lines.specs.declared.event.Lease.{Lease}
use Rattle.journal_lines.specs.declared.event.Event.TheVariants.{Release}
use Rattle.book_state.specs.Book.{BookState, IsCalm, is_in, is_unit}
use Rattle.book_state.specs.declared.pool.Pool.{Pool}
use Rattle.server_settings.specs.Settings.{ServerSettings}
use Rattle.attribution.specs.Run.{IsValidAt, StartInTime}
use Rattle.pair_world.specs.PairSafe.{BooksKeep, AckWasTold, EndsInTime, IsTheirs, PartnerStandsBack, StandsBack}
use Rattle.pair_world.specs.UnitWorld.{IsIn}
use Rattle.pair_world.specs.PairWorld.{PairWorld, WasSent, book, is_stopped, journal}
use Rattle.pair_world.specs.UnitSafe.{Runs}
use Rattle.pair_world.proofs.Worlds.{Good, book_is, good, journal_in, of_two, stopped_in}
use Rattle.pair_world.proofs.Pairs.{known_of, server_in}
use Rattle.pair_world.proofs.Sides.{KeptFrom, seen_from}
use Rattle.binding_rules.specs.declared.message.PartnerMessage.{PartnerMessage}
use Rattle.pair_world.proofs.KeptSteps.{ack_told, in_time}
use Rattle.pair_world.proofs.Traces.{book_in}
use Rattle.pair_world.proofs.Kept.{by_bool}
use Rattle.pair_world.proofs.Phases.{by_word}
use Rattle.pair_world.proofs.Books.{sent_contact}
use Rattle.pair_world.proofs.Lists.{numbered_in}
use Rattle.pair_world.proofs.Valid.{valid_runs}
use Rattle.pair_world.specs.Kept.{PairKept}

-- each of the pair's two books, as the run leads to it
book_at : (s : ServerSettings) (w : PairWorld) → Good s w → (side : Role) → book side w ≡ book_in side w.run
book_at s w g side = book_is side w.run (journal side w) (journal_in side s w g)

pools_at : (s : ServerSettings) (w : PairWorld) → Good s w → (side : Role) → (book side w).pools ≡ s.pools
pools_at s w g side = ap (λ (b : BookState). b.pools) (book_at s w g side) ∙ (g.run.settled side).pools_are

pub unit_at : (s : ServerSettings) (w : PairWorld) → Good s w → (side : Role) (p : Prefix)
    → is_unit (book side w).pools p ≡ true → is_unit s.pools p ≡ true
unit_at s w g side p h = subst (λ ps. is_unit ps p ≡ true) (pools_at s w g side) h

-- a unit of each list of pools that has one
first_unit : (pools : List Pool) → 1 ≤ length pools → (p : Prefix) × (is_unit pools p ≡ true)
first_unit [] le = absurd (omega arith)
first_unit (q ∷ qs) le =
    let p : Prefix = record { address = q.prefix.address; length = q.unit_length } in
    let first = q.prefix.address / size_of q.prefix.length in
    let there : is_in q p ≡ true = and_from (q.unit_length == q.unit_length) (first == first)
    (eq-eqb q.unit_length q.unit_length refl) (eq-eqb first first refl) in
    (p, rw there refl)

module _ (s : ServerSettings) (w : PairWorld) (is : Good s w) where
  -- at a unit a server is alone by its book
  abbrev IsAloneAt : Role → Prefix → Type 0
  IsAloneAt side p = ((d : ℕ) × ((book side w).down ≡ Some d)) ⊎ (((book side w).units p).marked ≡ true)

  -- what is known at a unit, from one side
  known_from : (side : Role) (p : Prefix) → is_unit s.pools p ≡ true
      → KeptFrom side (setting_of s) w.moment (log_of p w.run [])
      (server_in p w.run side (of_two w.stopped_a w.stopped_b side))
      (server_in p w.run (partner_of side) (of_two w.stopped_a w.stopped_b (partner_of side)))
  known_from side p unit = known_of side (setting_of s) p w.moment w.run (of_two w.stopped_a w.stopped_b)
      (is.run.known p unit)

  law : (side : Role) (p : Prefix) → is_unit s.pools p ≡ true → IsAloneAt side p → StandsBack w (partner_of side)
  law side p unit off =
      let same = book_at s w is (partner_of side) in
      let alone = subst (λ (b : BookState). ((d : ℕ) × (b.down ≡ Some d)) ⊎ ((b.units p).marked ≡ true))
      (book_at s w is side) off in
      by_word ((seen_from side (setting_of s) w.moment (log_of p w.run []) _ _
      (known_from side p unit)).servers.there.law alone) (λ st. inl (sym (stopped_in (partner_of side) w) ∙ st))
      (λ waits. inr (
        ap (λ (b : BookState). b.waiting) same ∙ waits.0,
        λ m ask answer sent body.
            subst (λ (b : BookState). answer ≢ b.restart) (sym same)
            (waits.1 (record { ask = ask; answer = answer })
            (sent_contact (messages side w.run []) m ask answer (numbered_in' side m sent) body)),
      )) where
        numbered_in' : (side : Role) (m : PartnerMessage) → WasSent (journal (partner_of (partner_of side)) w).lines m
            → IsIn (messages side w.run []) m
        numbered_in' Primary m sent = numbered_in Primary w.run w.a.lines sent.0 m
            (journal_in Primary s w is).lines sent.1
        numbered_in' Secondary m sent = numbered_in Secondary w.run w.b.lines sent.0 m
            (journal_in Secondary s w is).lines sent.1

  -- a server whose partner doesn't stand back is calm
  calm : (side : Role) (somewhere : Prefix) → is_unit s.pools somewhere ≡ true → (StandsBack w (partner_of side) → ⊥)
      → IsCalm (book side w)
  calm side somewhere unit never = (
    by_down (book side w).down refl,
    λ p of_book. by_bool ((book side w).units p).marked
        (λ m. absurd (never (law side p (unit_at s w is side p of_book) (inr m)))) (λ f. f),
  ) where
    by_down : (down : Option ℕ) → (book side w).down ≡ down → (book side w).down ≡ None
    by_down None e = e
    by_down (Some d) e = absurd (never (law side somewhere unit (inl (d, e))))

  stands : (side : Role) → 1 ≤ length s.pools → (IsCalm (book side w) → ⊥) → StandsBack w (partner_of side)
  stands side some uncalm =
      let u = first_unit s.pools some in
      let x = partner_of side in
      let open' : (StandsBack w x → ⊥) → ⊥ = λ never. uncalm (calm side u.0 u.1 never) in
      by_bool (is_stopped x w) (λ st. inl st)
      (λ runs. by_bool (book x w).waiting
      (λ waits. inr (
        waits,
        λ m ask answer sent body same.
            open' (λ back. by_word back (λ st. absurd (cc)) (λ unanswered. unanswered.1 m ask answer sent body same)),
      ))
      (λ serves. absurd (open' (λ back. by_word back (λ st. absurd (cc)) (λ waits. let z = waits.0 in absurd (cc))))))

pub partner_stands_back : PartnerStandsBack
partner_stands_back s t w c side uncalm = stands s w (good s t w c) side c.opens.first_fits.within.some uncalm

-- what is known of a unit that is theirs, as the run leads to it
module _ (s : ServerSettings) (w : PairWorld) (is : Good s w) where
  told : (side : Role) (p : Prefix) → IsTheirs w side p → status_of ((book_in (partner_of side) w.run).units p).status
      ≡ ActiveDue
      → ((book_in (partner_of side) w.run).units p).acked ≤ ((book_in side w.run).units p).told
  told side p theirs active =
      ack_told side (setting_of s) w.moment (log_of p w.run []) _ _
      (known_from s w is side p (unit_at s w is side p theirs.unit)) active
      (subst (λ (b : BookState). (b.units p).marked ≡ false) (book_at s w is side) theirs.unmarked)
      (subst (λ (b : BookState). is_own side (b.units p).status ≡ false) (book_at s w is side) theirs.outside)

  -- what the two books say of a unit
  between : (side : Role) (p : Prefix) (P : BookState → BookState → Type 0)
      → P (book_in side w.run) (book_in (partner_of side) w.run) → P (book side w) (book (partner_of side) w)
  between side p P h = subst (λ b. P b (book (partner_of side) w)) (sym (book_at s w is side))
      (subst (λ b. P (book_in side w.run) b) (sym (book_at s w is (partner_of side))) h)

  running : (side : Role) (p : Prefix) (starts : ℕ → ℕ) (i : ℕ) (g : Lease) (v : IsValidAt w.run starts i g w.moment)
      → v.step.side ≡ side → g.prefix ≡ p
      → Runs s.transit (log_of p w.run []) side (holder_of g.client g.iaid) (v.step.moment + 1000 * g.valid + s.transit)
  running side p starts i g v of_side same =
      subst (λ x. Runs s.transit (log_of p w.run []) x (holder_of g.client g.iaid)
      (v.step.moment + 1000 * g.valid + s.transit)) of_side
      (valid_runs s.transit p g w.run i v.step v.here v.grants same
      (λ j t lt at r. v.kept (
        j,
        t,
        lt,
        at,
        subst (λ q. t.line.event ≡ Release g.client g.iaid q) (sym same) r,
        is.run.trace.late j t at,
      )))

  lasts_on : (starts : ℕ → ℕ) → StartInTime s.transit w.run starts
      → (i : ℕ) (g : Lease) (v : IsValidAt w.run starts i g w.moment)
      → w.moment < v.step.moment + 1000 * g.valid + s.transit
  lasts_on starts are i g v =
      let begins = are i v.step g v.here v.grants in
      let short = (is.run.gifts i v.step g v.here v.grants).0 in
      by_word v.lasts (λ endless. absurd (omega arith)) (λ lt. omega arith)

pub ack_was_told : AckWasTold
ack_was_told s t w c side p theirs active = let is = good s t w c in
    between s w is side p (λ x y. (y.units p).acked ≤ (x.units p).told)
    (told s w is side p theirs (subst (λ (b : BookState). status_of (b.units p).status ≡ ActiveDue)
    (book_at s w is (partner_of side)) active))

pub ends_in_time : EndsInTime
ends_in_time s t w c side p d theirs down starts are i g v of_side same =
    let is = good s t w c in
    let x = book_at s w is side in
    let end = in_time side (setting_of s) w.moment (log_of p w.run []) _ _
    (known_from s w is side p (unit_at s w is side p theirs.unit)) d (ap (λ (b : BookState). b.down) (sym x) ∙ down)
    (subst (λ (b : BookState). (b.units p).marked ≡ false) x theirs.unmarked)
    (subst (λ (b : BookState). is_own side (b.units p).status ≡ false) x theirs.outside) (holder_of g.client g.iaid)
    (v.step.moment + 1000 * g.valid + s.transit) (running s w is (partner_of side) p starts i g v of_side same)
    (lasts_on s w is starts are i g v) in
    let begins = are i v.step g v.here v.grants in
    subst (λ (b : BookState). starts i + 1000 * g.valid ≤ max (b.units p).told d + 1000 * s.mclt + s.skew + s.transit)
    (sym x) (omega arith)

pub books_keep : BooksKeep
books_keep s t w c p unit =
    let is = good s t w c in
    let kept = (is.run.known p (unit_at s w is Primary p unit)).kept in
    subst (λ x. PairKept (setting_of s) w.moment (log_of p w.run []) x
    (server_of p (book Secondary w) (messages Secondary w.run []) w.stopped_b))
    (ap (λ b. server_of p b (messages Primary w.run []) w.stopped_a) (sym (book_at s w is Primary)))
    (subst (λ x. PairKept (setting_of s) w.moment (log_of p w.run [])
    (server_of p (book_in Primary w.run) (messages Primary w.run []) w.stopped_a) x)
    (ap (λ b. server_of p b (messages Secondary w.run []) w.stopped_b) (sym (book_at s w is Secondary))) kept)
