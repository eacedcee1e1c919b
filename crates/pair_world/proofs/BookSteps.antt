-- A line of a book is, at each unit, an event of the world of one unit, or nothing.
use Rattle.std.specs.Prelude.{◌≡◌, ◌+◌, ◌*◌, ◌≤◌, ◌⊎◌, ◌&&◌, ◌==◌, ◌∷◌, if◌then◌else◌, Bool, List, None, Option, Some}
use Rattle.std.specs.Prelude.{false, max, nat_lt, true, ℕ, ⊤}
use Rattle.std.proofs.Common.{◌∙◌, arith, inl, inr, refl, subst, sym}
use Rattle.pair_world.specs.UnitInRun.{contacts_of, entry_of, holder_of, replies_of, sent_with, server_of, updates_of}
use Rattle.prefix_range.specs.Prefix.{Prefix}
use Rattle.lead_time.specs.Lease.{allowed_lifetime}
use Rattle.binding_rules.specs.declared.update.Status.TheVariants.{Active as ActiveDue, Backup as BackupDue}
use Rattle.binding_rules.specs.declared.update.Status.TheVariants.{Expired as ExpiredDue, Free as FreeDue}
use Rattle.binding_rules.specs.declared.update.Status.TheVariants.{Released as ReleasedDue}
use Rattle.binding_rules.specs.declared.message.Body.{Body}
use Rattle.binding_rules.specs.declared.message.Body.TheVariants.{Contact as ContactBody, Reply as ReplyBody}
use Rattle.binding_rules.specs.declared.message.Body.TheVariants.{Update as UpdateBody}
use Rattle.binding_rules.specs.declared.message.ServerState.TheVariants.{Down, Interrupted, Normal}
use Rattle.binding_rules.specs.declared.unit.UnitStatus.TheVariants.{Free, FreeBackup, Released}
use Rattle.binding_rules.specs.declared.message.PartnerMessage.{PartnerMessage}
use Rattle.binding_rules.specs.declared.role.Role.{Role}
use Rattle.binding_rules.specs.declared.unit.Unit.{Unit as UnitValue}
use Rattle.binding_rules.specs.Reply.{after_reply}
use Rattle.binding_rules.specs.Table.{after_update}
use Rattle.binding_rules.specs.Giving.{is_own}
use Rattle.binding_rules.specs.Unit.{status_of}
use Rattle.journal_lines.specs.declared.event.Event.TheVariants.{Backup, Base, Carry, Close, Expire, Grant, Open}
use Rattle.journal_lines.specs.declared.event.Event.TheVariants.{Pool as PoolLine, Reclaim, Release, Restart, Seize}
use Rattle.journal_lines.specs.declared.event.Event.TheVariants.{Send, State, Take, Transit as TransitLine}
use Rattle.journal_lines.specs.declared.event.Event.TheVariants.{Unit as UnitLine}
use Rattle.journal_lines.specs.declared.event.Event.{Event}
use Rattle.journal_lines.specs.declared.event.Lease.{Lease}
use Rattle.journal_lines.specs.declared.line.Line.{Line}
use Rattle.book_rules.specs.declared.rule.Rule.TheVariants.{Backup as BackupRule, Contact as ContactRule}
use Rattle.book_rules.specs.declared.rule.Rule.TheVariants.{Down as DownRule, Expiry, Grant as GrantRule, Lifetime}
use Rattle.book_rules.specs.declared.rule.Rule.TheVariants.{Reclaim as ReclaimRule, Release as ReleaseRule}
use Rattle.book_rules.specs.declared.rule.Rule.TheVariants.{Reply as ReplyRule, Restart as RestartRule}
use Rattle.book_rules.specs.declared.rule.Rule.TheVariants.{Seize as SeizeRule, Update as UpdateRule}
use Rattle.book_rules.specs.declared.rule.Rule.TheVariants.{Waiting as WaitingRule}
use Rattle.book_state.specs.Book.{BookState, IsCalm, is_unit}
use Rattle.book_rules.specs.UnitRules.{IsActiveFor, IsSeizable, takeover}
use Rattle.book_rules.specs.MessageRules.{IsContactAnswer, TellsUnit}
use Rattle.book_rules.specs.Rules.{IsStep}
use Rattle.book_state.specs.Effects.{changed, effect, expired, granted, learned, or_as_was, same_prefix, seized}
use Rattle.book_state.specs.Effects.{taken_body}
use Rattle.book_rules.specs.NextHead.{is_head}
use Rattle.pair_world.specs.UnitWorld.{Entry, Gives, GivesBack, IsAlone, IsGrantable, IsIn, MaySay, Server, UnitSetting}
use Rattle.pair_world.specs.UnitWorld.{granted as one_granted}
use Rattle.pair_world.proofs.Books.{Moves, same_prefix_is, same_prefix_self, sent_contact, sent_reply, sent_update}
use Rattle.pair_world.proofs.Effects.{by_test}
use Rattle.pair_world.proofs.Phases.{by_word}

-- what is taken was sent
abbrev pub IsFed : Event → List PartnerMessage → Type 0
IsFed (Take m) ms = IsIn ms m
IsFed _ ms = ⊤

abbrev pub IsDownFor : Bool → Event → Type 0
IsDownFor stopped (State Down) = stopped ≡ true
IsDownFor stopped _ = ⊤

-- a stopped server grants nothing, and takes nobody for down
abbrev pub MayWrite : Bool → Event → Type 0
MayWrite stopped (Grant g) = stopped ≡ false
MayWrite stopped (State Down) = stopped ≡ false
MayWrite stopped _ = ⊤

abbrev pub stopped_after : Bool → Event → Bool
stopped_after stopped (Restart n) = false
stopped_after stopped _ = stopped

-- the settings that the book keeps
pub record Agrees (s : UnitSetting) (side : Role) (b : BookState) : Type 0 where
  pub side_is : b.role ≡ side
  pub skew_is : b.skew ≡ s.skew
  pub mclt_is : b.mclt ≡ s.mclt
  pub transit_is : b.transit ≡ s.transit

within_lead : (life mclt acked reading valid : ℕ) → valid ≡ allowed_lifetime life mclt acked reading
    → reading + 1000 * valid ≤ max acked reading + 1000 * mclt
within_lead life mclt acked reading valid is = omega arith

module _ (s : UnitSetting) (place : Prefix) (side : Role) (K : ℕ → List Entry → Server
    → Type 0) (theirs : List PartnerMessage) (other_stopped : Bool)
    (moves : Moves s side K (updates_of place theirs) (replies_of place theirs) (contacts_of theirs) other_stopped)
    (b : BookState) (sent : List PartnerMessage) (stopped : Bool) (agrees : Agrees s side b)
    (unit : is_unit b.pools place ≡ true)
    (log : List Entry) (now : ℕ) (k : K now log (server_of place b sent stopped)) where
  abbrev here : Server
  here = server_of place b sent stopped

  abbrev With : List Entry → UnitValue → Type 0
  With es u = K now es (record (server_of place b sent stopped) { unit = u })

  at_prefix : (t : Bool) (q : Prefix) (f : Prefix → UnitValue) (es : List Entry) → same_prefix place q ≡ t
      → (q ≡ place → With es (f place))
      → With (if t then es else log) (if t then f q else b.units place)
  at_prefix true q f es e g = let same = same_prefix_is place q e in subst (λ z. With es (f z)) same (g (sym same))
  at_prefix false q f es e g = k

  at_unit : (t : Bool) (q : Prefix) (f : Prefix → UnitValue) → same_prefix place q ≡ t
      → (q ≡ place → With log (f place)) → With log (if t then f q else b.units place)
  at_unit true q f e g = let same = same_prefix_is place q e in subst (λ z. With log (f z)) same (g (sym same))
  at_unit false q f e g = k

  same_grant : (g : Lease) (reading : ℕ) → g.prefix ≡ place
      → one_granted s reading g.valid (reading + 2000 * b.life) (holder_of g.client g.iaid) (b.units place)
      ≡ granted b reading g (b.units g.prefix)
  same_grant g reading e = rw e (rw agrees.skew_is (rw agrees.transit_is refl))

  grants : (l : Line) (g : Lease) → IsStep b l → l.event ≡ Grant g → stopped ≡ false → l.reading ≤ now + s.skew
      → now ≤ l.reading + s.skew
      → With (entry_of place side now (Grant g) log) ((effect b l.reading (Grant g)).units place)
  grants l g rules is runs near near' = by (same_prefix place g.prefix) refl where
    rule5 : b.waiting ≡ false
    rule5 = rw is at (rules WaitingRule)

    rule6 : (is_own b.role (b.units g.prefix).status ≡ true) ⊎ IsActiveFor (b.units g.prefix) g.client g.iaid
    rule6 = rw is at (rules GrantRule)

    rule7 : g.valid ≡ allowed_lifetime b.life b.mclt (b.units g.prefix).acked l.reading
    rule7 = rw is at (rules Lifetime)

    by : (t : Bool) → same_prefix place g.prefix ≡ t
        → With (if t then Gives side (holder_of g.client g.iaid) now g.valid ∷ log else log)
        (if t then granted b l.reading g (b.units g.prefix) else b.units place)
    by true e =
        let same = sym (same_prefix_is place g.prefix e) in
        let guard : IsGrantable side (b.units place) (holder_of g.client g.iaid) =
        subst (λ z. IsGrantable z (b.units place) (holder_of g.client g.iaid)) agrees.side_is
        (subst (λ z. IsGrantable b.role (b.units z) (holder_of g.client g.iaid)) same rule6) in
        let valid : g.valid ≡ allowed_lifetime b.life s.mclt (b.units place).acked l.reading =
        subst (λ z. g.valid ≡ allowed_lifetime b.life z (b.units place).acked l.reading) agrees.mclt_is
        (subst (λ z. g.valid ≡ allowed_lifetime b.life b.mclt (b.units z).acked l.reading) same rule7) in
        subst (λ u. With (Gives side (holder_of g.client g.iaid) now g.valid ∷ log) u) (same_grant g l.reading same)
        (moves.grants now log here k l.reading g.valid (l.reading + 2000 * b.life)
        (holder_of g.client g.iaid) near near' guard
        (within_lead b.life s.mclt (b.units place).acked l.reading g.valid valid) rule5 runs)
    by false e = k

  abbrev Sent : PartnerMessage → ℕ → Type 0
  Sent m reading = K now log (server_of place (effect b reading (Send m)) (m ∷ sent) stopped)

  not_calm : IsAlone here → IsCalm b → ⊥
  not_calm (inl d) calm = let e = sym d.1 ∙ calm.0 in absurd (cc)
  not_calm (inr m) calm = let e = sym m ∙ calm.1 place unit in absurd (cc)

  may_say : (ask answer : ℕ) → ask ≡ (if b.waiting then b.restart else 0) → IsContactAnswer b answer
      → MaySay here (record { ask = ask; answer = answer })
  may_say ask answer is answers = (
    subst (λ z. z ≤ b.restart) (sym is) (by_test (λ z. z ≤ b.restart) b.waiting b.restart 0 (λ _. omega arith)
        (λ _. omega arith)),
    by_word answers (λ on. inr (λ off. not_calm off on.0, on.1)) (λ off. inl off.1),
  )

  sends : (l : Line) (m : PartnerMessage) (body : Body) → m.body ≡ body → IsStep b l → l.event ≡ Send m
      → Sent m l.reading
  sends l m (UpdateBody u) e rules is =
      let r13 = rw is at (rules UpdateRule) in
      let h = rw e at r13 in
      rw e (by_test (λ us. K now log (record (server_of place b sent stopped) { updates = us }))
      (same_prefix place u.prefix) (u ∷ updates_of place sent) (updates_of place sent)
      (λ t.
      let same = sym (same_prefix_is place u.prefix t) in
      let told = subst (λ z. TellsUnit (b.units z) u) same h in
      moves.sends_update now log here k u told)
      (λ _. k))
  sends l m (ReplyBody r) e rules is = rw e (by (same_prefix place r.prefix) refl) where
    r14 : (b.units r.prefix).pending ≡ Some r
    r14 = let z = rw is at (rules ReplyRule) in rw e at z

    by : (t : Bool) → same_prefix place r.prefix ≡ t
        → K now log (record (server_of place b sent stopped) {
          unit =
              if t then record (b.units r.prefix) { pending = None } else b.units place;
          replies =
              if t then r ∷ replies_of place sent else replies_of place sent;
        })
    by true t =
        let same = same_prefix_is place r.prefix t in
        subst (λ z. K now log (record (server_of place b sent stopped) {
          unit = record (b.units z) { pending = None };
          replies = r ∷ replies_of place sent;
        })) same
        (moves.sends_reply now log here k r (subst (λ z. (b.units z).pending ≡ Some r) (sym same) r14))
    by false t = k
  sends l m (ContactBody ask answer) e rules is =
      let r15 = rw is at (rules ContactRule) in
      let h = rw e at r15 in
      rw e (moves.says now log here k (record { ask = ask; answer = answer }) (may_say ask answer h.0 h.1))

  abbrev Same : BookState → Type 0
  Same x = K now log (server_of place x sent stopped)

  takes_body : (m : PartnerMessage) (reading : ℕ) (body : Body) → m.body ≡ body → reading ≤ now + s.skew
      → IsIn theirs m → Same (taken_body b reading body)
  takes_body m reading (UpdateBody u) e near fed =
      by_test Same (is_unit b.pools u.prefix) _ b
      (λ _. at_unit (same_prefix place u.prefix) u.prefix (λ z. after_update b.role (b.units z) reading b.waiting u)
      refl (λ same.
      let in_theirs = sent_update place theirs m u fed e (rw same (same_prefix_self place)) in
      subst (λ z. With log (after_update z (b.units place) reading b.waiting u)) (sym agrees.side_is)
      (moves.takes now log here k reading u near in_theirs)))
      (λ _. k)
  takes_body m reading (ReplyBody r) e near fed =
      by_test Same (is_unit b.pools r.prefix) _ b
      (λ _. at_unit (same_prefix place r.prefix) r.prefix (λ z. or_as_was (b.units z) (after_reply (b.units z) r)) refl
      (λ same.
      let in_theirs = sent_reply place theirs m r fed e (rw same (same_prefix_self place)) in
      moves.takes_reply now log here k r in_theirs))
      (λ _. k)
  takes_body m reading (ContactBody ask answer) e near fed =
      moves.takes_contact now log here k (record { ask = ask; answer = answer })
      (sent_contact theirs m ask answer fed e)

  learns : (m : PartnerMessage) (body : Body) → m.body ≡ body → IsIn theirs m → Same (learned b m.term body)
  learns m (ContactBody ask answer) e fed =
      moves.learns now log here k (record { ask = ask; answer = answer }) (sent_contact theirs m ask answer fed e)
  learns m (UpdateBody u) e fed = k
  learns m (ReplyBody r) e fed = k

  takes : (m : PartnerMessage) (reading : ℕ) → reading ≤ now + s.skew → IsIn theirs m → Same (effect b reading (Take m))
  takes m reading near fed =
      by_test Same (m.term == b.term) (taken_body b reading m.body) (if b.waiting
      && nat_lt b.term m.term then learned b m.term m.body else b)
      (λ _. takes_body m reading m.body refl near fed)
      (λ _. by_test Same (b.waiting && nat_lt b.term m.term) (learned b m.term m.body) b
      (λ _. learns m m.body refl fed) (λ _. k))

  seizes : (l : Line) (q : Prefix) (down : Option ℕ) → b.down ≡ down → IsSeizable b l.reading (b.units q) down
      → l.reading ≤ now + s.skew
      → With log (if same_prefix place q then seized b.role (b.units q) else b.units place)
  seizes l q None is may near = absurd may
  seizes l q (Some d) is may near =
      at_unit (same_prefix place q) q (λ z. seized b.role (b.units z)) refl
      (λ same.
      let told = subst (λ z. takeover (b.units z).told d b.mclt b.skew b.transit ≤ l.reading) same may.2 in
      let told' : takeover (b.units place).told d s.mclt s.skew s.transit ≤ l.reading =
      rw (sym agrees.mclt_is) (rw (sym agrees.skew_is) (rw (sym agrees.transit_is) told)) in
      let outside : is_own side (b.units place).status ≡ false =
      subst (λ z. is_own z (b.units place).status ≡ false) agrees.side_is
      (subst (λ z. is_own b.role (b.units z).status ≡ false) same may.0) in
      subst (λ z. With log (seized z (b.units place))) (sym agrees.side_is)
      (moves.seizes now log here k l.reading d near is outside
      (subst (λ z. (b.units z).own_end ≤ l.reading) same may.1) told'))

  pub step : (l : Line) (e : Event) → l.event ≡ e → IsStep b l → is_head e ≡ false → l.reading ≤ now + s.skew
      → now ≤ l.reading + s.skew → MayWrite stopped e → IsDownFor other_stopped e → IsFed e theirs
      → K now (entry_of place side now e log)
      (server_of place (effect b l.reading e) (sent_with e sent) (stopped_after stopped e))
  step l (Open x y z) is rules body near near' runs down fed = absurd (cc)
  step l (PoolLine x y) is rules body near near' runs down fed = absurd (cc)
  step l (TransitLine x) is rules body near near' runs down fed = absurd (cc)
  step l (Base x) is rules body near near' runs down fed = absurd (cc)
  step l (Carry x) is rules body near near' runs down fed = absurd (cc)
  step l (UnitLine x) is rules body near near' runs down fed = absurd (cc)
  step l (Grant g) is rules body near near' runs down fed = grants l g rules is runs near near'
  step l (Release client iaid q) is rules body near near' runs down fed =
      let r8 = rw is at (rules ReleaseRule) in
      at_prefix (same_prefix place q) q (λ z. changed (Released (holder_of client iaid)) ReleasedDue (b.units z))
      (GivesBack (holder_of client iaid) now ∷ log) refl
      (λ same. moves.releases now log here k (holder_of client iaid)
      (subst (λ z. IsActiveFor (b.units z) client iaid) same r8))
  step l (Expire q) is rules body near near' runs down fed =
      let r9 = rw is at (rules Expiry) in
      at_unit (same_prefix place q) q (λ z. changed (expired (b.units z).status) ExpiredDue (b.units z)) refl
      (λ same. moves.expires now log here k l.reading near
      (subst (λ z. status_of (b.units z).status ≡ ActiveDue) same r9.0)
      (subst (λ z. (b.units z).own_end ≤ l.reading) same r9.1))
  step l (Backup q) is rules body near near' runs down fed =
      let r10 = rw is at (rules BackupRule) in
      at_unit (same_prefix place q) q (λ z. changed FreeBackup BackupDue (b.units z)) refl
      (λ same. moves.moves now log here k (sym agrees.side_is ∙ r10.0)
      (subst (λ z. (b.units z).status ≡ Free) same r10.1))
  step l (Reclaim q) is rules body near near' runs down fed =
      let r11 = rw is at (rules ReclaimRule) in
      at_unit (same_prefix place q) q (λ z. changed (b.units z).status FreeDue (b.units z)) refl
      (λ same. moves.reclaims now log here k (sym agrees.side_is ∙ r11.0)
      (subst (λ z. (b.units z).status ≡ FreeBackup) same r11.1))
  step l (Seize q) is rules body near near' runs down fed = let r20 = rw is at (rules SeizeRule) in
      seizes l q b.down refl r20.1 near
  step l (Send m) is rules body near near' runs down fed = sends l m m.body refl rules is
  step l (Take m) is rules body near near' runs down fed = takes m l.reading near fed
  step l (State Normal) is rules body near near' runs down fed = moves.goes_up now log here k
  step l (State Interrupted) is rules body near near' runs down fed = moves.goes_up now log here k
  step l (State Down) is rules body near near' runs down fed =
      let r16 = rw is at (rules DownRule) in
      moves.goes_down now log here k l.reading near' r16.0 runs down
  step l (Restart n) is rules body near near' runs down fed =
      let r17 = rw is at (rules RestartRule) in
      subst (λ z. K now log (record (server_of place b sent stopped) { waiting = true; restart = z; stopped = false }))
      (sym r17) (moves.restarts now log here k)
  step l Close is rules body near near' runs down fed = k
