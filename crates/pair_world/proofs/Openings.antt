-- What the opening lines leave: the settings, and nothing said, granted or sent.
use Rattle.std.specs.Prelude.{◌≡◌, ◌+◌, ◌≤◌, ◌∷◌, ◌++◌, [], if◌then◌else◌, Bool, List, false, map, true, ℕ, ⊤}
use Rattle.std.proofs.Common.{◌∙◌, ap, append_assoc, refl, subst, suc, sym, zero}
use Rattle.pair_world.specs.UnitInRun.{entry_of, log_of, messages, sent_with, server_of, setting_of}
use Rattle.prefix_range.specs.Prefix.{Prefix}
use Rattle.binding_rules.specs.declared.message.PartnerMessage.{PartnerMessage}
use Rattle.binding_rules.specs.declared.role.Role.{Role}
use Rattle.binding_rules.specs.Role.{is_side}
use Rattle.journal_lines.specs.declared.event.Event.TheVariants.{Backup, Base, Carry, Close, Expire, Grant, Open}
use Rattle.journal_lines.specs.declared.event.Event.TheVariants.{Pool as PoolLine, Reclaim, Release, Restart, Seize}
use Rattle.journal_lines.specs.declared.event.Event.TheVariants.{Send, State, Take, Transit as TransitLine}
use Rattle.journal_lines.specs.declared.event.Event.TheVariants.{Unit as UnitLine}
use Rattle.journal_lines.specs.declared.event.Event.{Event}
use Rattle.journal_lines.specs.declared.line.Line.{Line}
use Rattle.book_state.specs.Book.{BookState, blank}
use Rattle.book_state.specs.declared.pool.Pool.{Pool}
use Rattle.book_state.specs.Effects.{after, effect}
use Rattle.book_rules.specs.Volumes.{book_after}
use Rattle.book_rules.specs.NextHead.{lines_from, pool_event, transit_events}
use Rattle.server_settings.specs.Settings.{ServerSettings, opening}
use Rattle.order_book.specs.Replayed.{state_of}
use Rattle.attribution.specs.Run.{Step}
use Rattle.pair_world.specs.UnitWorld.{Entry}
use Rattle.pair_world.specs.PairWorld.{steps_of}
use Rattle.pair_world.proofs.Traces.{AreAt}
use Rattle.pair_world.proofs.Pairs.{Settled}
use Rattle.pair_world.proofs.Effects.{by_test}

-- the events of a first volume's head
abbrev pub is_opening : Event → Bool
is_opening (Open x y z) = true
is_opening (PoolLine x y) = true
is_opening (TransitLine x) = true
is_opening _ = false

abbrev pub AreOpening : List Line → Type 0
AreOpening [] = ⊤
AreOpening (l ∷ ls) = (is_opening l.event ≡ true) × AreOpening ls

abbrev pub AreOpeningSteps : List Step → Type 0
AreOpeningSteps [] = ⊤
AreOpeningSteps (s ∷ ss) = (is_opening s.line.event ≡ true) × AreOpeningSteps ss

-- lines of events of the head, at one reading
abbrev IsHeading : ℕ → List Line → Type 0
IsHeading moment ls = AreOpening ls × AreAt moment ls

transit_heading : (n moment transit : ℕ) → IsHeading moment (lines_from n moment (transit_events transit))
transit_heading n moment zero = (tt, tt)
transit_heading n moment (suc d) = ((refl, tt), (refl, λ m is. absurd (cc), tt))

pools_heading : (n moment transit : ℕ) (ps : List Pool)
    → IsHeading moment (lines_from n moment (map pool_event ps ++ transit_events transit))
pools_heading n moment transit [] = transit_heading n moment transit
pools_heading n moment transit (p ∷ ps) = let h = pools_heading (n + 1) moment transit ps in
    ((refl, h.0), (refl, λ m is. absurd (cc), h.1))

pub opening_heading : (moment : ℕ) (s : ServerSettings) → IsHeading moment (opening s moment).lines
opening_heading moment s = let h = pools_heading 2 moment s.transit s.pools in
    ((refl, h.0), (refl, λ m is. absurd (cc), h.1))

-- a server, as each unit sees it, is not changed by them
head_server : (p : Prefix) (b : BookState) (reading : ℕ) (e : Event) (sent : List PartnerMessage) (stopped : Bool)
    → is_opening e ≡ true → server_of p (effect b reading e) sent stopped ≡ server_of p b sent stopped
head_server p b reading (Open x y z) sent stopped h = refl
head_server p b reading (PoolLine x y) sent stopped h = refl
head_server p b reading (TransitLine x) sent stopped h = refl
head_server p b reading (Base x) sent stopped h = absurd (cc)
head_server p b reading (Carry x) sent stopped h = absurd (cc)
head_server p b reading (UnitLine x) sent stopped h = absurd (cc)
head_server p b reading (Grant g) sent stopped h = absurd (cc)
head_server p b reading (Release x y z) sent stopped h = absurd (cc)
head_server p b reading (Expire x) sent stopped h = absurd (cc)
head_server p b reading (Backup x) sent stopped h = absurd (cc)
head_server p b reading (Reclaim x) sent stopped h = absurd (cc)
head_server p b reading (Send x) sent stopped h = absurd (cc)
head_server p b reading (Take x) sent stopped h = absurd (cc)
head_server p b reading (State x) sent stopped h = absurd (cc)
head_server p b reading (Seize x) sent stopped h = absurd (cc)
head_server p b reading (Restart x) sent stopped h = absurd (cc)
head_server p b reading Close sent stopped h = absurd (cc)

pub heads_server : (p : Prefix) (b : BookState) (ls : List Line) (sent : List PartnerMessage) (stopped : Bool)
    → AreOpening ls → server_of p (book_after b ls) sent stopped ≡ server_of p b sent stopped
heads_server p b [] sent stopped h = refl
heads_server p b (l ∷ ls) sent stopped h = heads_server p (after b l) ls sent stopped h.1
    ∙ head_server p b l.reading l.event sent stopped h.0

pub head_steps : (side : Role) (moment : ℕ) (ls : List Line) → AreOpening ls → AreOpeningSteps (steps_of side moment ls)
head_steps side moment [] h = tt
head_steps side moment (l ∷ ls) h = (h.0, head_steps side moment ls h.1)

pub head_append : (xs ys : List Step) → AreOpeningSteps xs → AreOpeningSteps ys → AreOpeningSteps (xs ++ ys)
head_append [] ys h g = g
head_append (x ∷ xs) ys h g = (h.0, head_append xs ys h.1 g)

head_entry : (p : Prefix) (side : Role) (moment : ℕ) (e : Event) (log : List Entry) → is_opening e ≡ true
    → entry_of p side moment e log ≡ log
head_entry p side moment (Grant g) log h = absurd (cc)
head_entry p side moment (Release x y z) log h = absurd (cc)
head_entry p side moment (Open x y z) log h = refl
head_entry p side moment (PoolLine x y) log h = refl
head_entry p side moment (TransitLine x) log h = refl
head_entry p side moment (Base x) log h = refl
head_entry p side moment (Carry x) log h = refl
head_entry p side moment (UnitLine x) log h = refl
head_entry p side moment (Expire x) log h = refl
head_entry p side moment (Backup x) log h = refl
head_entry p side moment (Reclaim x) log h = refl
head_entry p side moment (Send x) log h = refl
head_entry p side moment (Take x) log h = refl
head_entry p side moment (State x) log h = refl
head_entry p side moment (Seize x) log h = refl
head_entry p side moment (Restart x) log h = refl
head_entry p side moment Close log h = refl

pub log_heads : (p : Prefix) (ss : List Step) (log : List Entry) → AreOpeningSteps ss → log_of p ss log ≡ log
log_heads p [] log h = refl
log_heads p (s ∷ ss) log h = log_heads p ss (entry_of p s.side s.moment s.line.event log) h.1
    ∙ head_entry p s.side s.moment s.line.event log h.0

head_sent : (e : Event) (ms : List PartnerMessage) → is_opening e ≡ true → sent_with e ms ≡ ms
head_sent (Send x) ms h = absurd (cc)
head_sent (Open x y z) ms h = refl
head_sent (PoolLine x y) ms h = refl
head_sent (TransitLine x) ms h = refl
head_sent (Base x) ms h = refl
head_sent (Carry x) ms h = refl
head_sent (UnitLine x) ms h = refl
head_sent (Grant g) ms h = refl
head_sent (Release x y z) ms h = refl
head_sent (Expire x) ms h = refl
head_sent (Backup x) ms h = refl
head_sent (Reclaim x) ms h = refl
head_sent (Take x) ms h = refl
head_sent (State x) ms h = refl
head_sent (Seize x) ms h = refl
head_sent (Restart x) ms h = refl
head_sent Close ms h = refl

pub messages_heads : (side : Role) (ss : List Step) (ms : List PartnerMessage) → AreOpeningSteps ss
    → messages side ss ms ≡ ms
messages_heads side [] ms h = refl
messages_heads side (s ∷ ss) ms h = messages_heads side ss
    (if is_side side s.side then sent_with s.line.event ms else ms) h.1
    ∙ by_test (λ z. z ≡ ms) (is_side side s.side) (sent_with s.line.event ms) ms (λ _. head_sent s.line.event ms h.0)
    (λ _. refl)

-- the settings
record Sets (s : ServerSettings) (pools : List Pool) (b : BookState) : Type 0 where
  role_is : b.role ≡ s.role
  skew_is : b.skew ≡ s.skew
  mclt_is : b.mclt ≡ s.mclt
  life_is : b.life ≡ s.life
  transit_is : b.transit ≡ 0
  pools_are : b.pools ≡ pools

append_nil : (xs : List Pool) → xs ++ [] ≡ xs
append_nil [] = refl
append_nil (x ∷ xs) = ap (λ z. x ∷ z) (append_nil xs)

module _ (s : ServerSettings) (short : s.life ≤ 31536000) (moment : ℕ) where
  transit_set : (d n : ℕ) (b : BookState) → s.transit ≡ d → Sets s s.pools b
      → Settled (setting_of s) s.role s.pools (book_after b (lines_from n moment (transit_events d)))
  transit_set zero n b is sets = record {
    agrees = record {
      side_is = sets.role_is;
      skew_is = sets.skew_is;
      mclt_is = sets.mclt_is;
      transit_is =
          sets.transit_is ∙ sym is;
    };
    pools_are = sets.pools_are;
    short = subst (λ z. z ≤ 31536000) (sym sets.life_is) short;
  }
  transit_set (suc d) n b is sets = record {
    agrees = record { side_is = sets.role_is; skew_is = sets.skew_is; mclt_is = sets.mclt_is; transit_is = sym is };
    pools_are = sets.pools_are;
    short = subst (λ z. z ≤ 31536000) (sym sets.life_is) short;
  }

  pools_set : (ps done : List Pool) (n : ℕ) (b : BookState) → done ++ ps ≡ s.pools → Sets s done b
      → Settled (setting_of s) s.role s.pools
      (book_after b (lines_from n moment (map pool_event ps ++ transit_events s.transit)))
  pools_set [] done n b all sets = transit_set s.transit n b refl
      (subst (λ z. Sets s z b) (sym (append_nil done) ∙ all) sets)
  pools_set (p ∷ ps) done n b all sets =
      pools_set ps (done ++ p ∷ []) (n + 1) (after b (record {
        number = n;
        reading = moment;
        event =
            PoolLine p.prefix p.unit_length;
      })) (append_assoc done (p ∷ []) ps ∙ all)
      (record {
        role_is = sets.role_is;
        skew_is = sets.skew_is;
        mclt_is = sets.mclt_is;
        life_is = sets.life_is;
        transit_is = sets.transit_is;
        pools_are = ap (λ z. z ++ p ∷ []) sets.pools_are;
      })

  pub settled : Settled (setting_of s) s.role s.pools (state_of (opening s moment))
  settled = pools_set s.pools [] 2 (after (blank s.role 1) (record {
    number = 1;
    reading = moment;
    event =
        Open s.skew s.mclt s.life;
  })) refl
      (record { role_is = refl; skew_is = refl; mclt_is = refl; life_is = refl; transit_is = refl; pools_are = refl })
