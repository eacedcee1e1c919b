-- A lease begins only by the event that brings it.
use Rattle.std.proofs.Common.{◌≡◌, ℕ, ◌⊎◌, ◌&&◌, ◌==◌, Bool, true, false, List, ap, sym, ◌∙◌, refl, inl, inr, Option}
use Rattle.std.proofs.Common.{Some, None}
use Rattle.std.specs.Prelude.{if◌then◌else◌, nat_le, nat_lt}
use Rattle.prefix_range.specs.Prefix.{Prefix}
use Rattle.binding_rules.specs.declared.role.Role.{Role}
use Rattle.binding_rules.specs.declared.role.Role.TheVariants.{Primary, Secondary}
use Rattle.binding_rules.specs.declared.unit.UnitStatus.{UnitStatus}
use Rattle.binding_rules.specs.declared.unit.UnitStatus.TheVariants.{Free, FreeBackup, Active, Expired, Released}
use Rattle.binding_rules.specs.declared.unit.Binding.{Binding}
use Rattle.binding_rules.specs.declared.unit.Unit.{Unit as UnitValue}
use Rattle.binding_rules.specs.declared.update.Status.{Status}
use Rattle.binding_rules.specs.declared.update.Status.TheVariants.{Active as ActiveDue, Expired as ExpiredDue}
use Rattle.binding_rules.specs.declared.update.Status.TheVariants.{Released as ReleasedDue, Backup as BackupDue}
use Rattle.binding_rules.specs.declared.update.Status.TheVariants.{Free as FreeDue, Seized as SeizedDue}
use Rattle.binding_rules.specs.declared.update.Update.{Update as UpdateValue}
use Rattle.binding_rules.specs.declared.update.BindReply.{BindReply}
use Rattle.binding_rules.specs.declared.update.Acknowledgement.TheVariants.{Reject as RejectReply}
use Rattle.binding_rules.specs.declared.message.Body.{Body}
use Rattle.binding_rules.specs.declared.message.Body.TheVariants.{Update, Reply, Contact}
use Rattle.binding_rules.specs.declared.message.PartnerMessage.{PartnerMessage}
use Rattle.binding_rules.specs.declared.message.ServerState.TheVariants.{Normal, Interrupted, Down}
use Rattle.binding_rules.specs.Table.{after_update, accepted, answered, is_accepted, taken_by, becomes_said, becomes}
use Rattle.binding_rules.specs.Table.{said_by, of_client, of_nobody, partners_pool}
use Rattle.binding_rules.specs.Reply.{after_reply, after_reply_to, settled, counts, unmarked}
use Rattle.journal_lines.specs.declared.event.Event.{Event}
use Rattle.journal_lines.specs.declared.event.Event.TheVariants.{Open, Pool as PoolLine, Transit as TransitLine, Base}
use Rattle.journal_lines.specs.declared.event.Event.TheVariants.{Carry, Unit as UnitLine, Grant, Release, Expire}
use Rattle.journal_lines.specs.declared.event.Event.TheVariants.{Backup, Reclaim, Seize, Send, Take, State, Restart}
use Rattle.journal_lines.specs.declared.event.Event.TheVariants.{Close}
use Rattle.book_state.specs.Book.{BookState, is_unit}
use Rattle.book_state.specs.Effects.{effect, same_prefix, with_unit, sent, taken, taken_body, learned, or_as_was}
use Rattle.book_state.specs.Effects.{own_pool, expired}
use Rattle.book_state.proofs.TableLaws.{same_means}
use Rattle.unit_index.specs.declared.leasing.LeaseKey.{LeaseKey}
use Rattle.unit_index.specs.Leases.{leased, leased_under, coming_by, coming_in, coming_of}

-- a unit that is active was so before, or has come to be
abbrev Came : UnitStatus → Option LeaseKey → Prefix → Binding → Type 0
Came before coming p k = (before ≡ Active k) ⊎ (coming ≡ Some (leased k.client k.iaid p))

same_active : (k j : Binding) → Active k ≡ Active j → k ≡ j
same_active k j e = cc

-- ---- updates

of_client_active : (s : Status) (client : List ℕ) (iaid : ℕ) (p : Prefix) (k : Binding)
    → of_client s client iaid ≡ Some (Active k) → coming_by s (Some client) iaid p ≡ Some (leased k.client k.iaid p)
of_client_active ActiveDue client iaid p k e =
    ap (λ (j : Binding). Some (leased j.client j.iaid p)) (let same : record { client = client; iaid = iaid } ≡ k =
    cc in same)
of_client_active ExpiredDue client iaid p k e = absurd (cc)
of_client_active ReleasedDue client iaid p k e = absurd (cc)
of_client_active BackupDue client iaid p k e = absurd (cc)
of_client_active FreeDue client iaid p k e = absurd (cc)
of_client_active SeizedDue client iaid p k e = absurd (cc)

of_nobody_active : (s : Status) (k : Binding) → of_nobody s ≡ Some (Active k) → ⊥
of_nobody_active BackupDue k e = absurd (cc)
of_nobody_active FreeDue k e = absurd (cc)
of_nobody_active ActiveDue k e = absurd (cc)
of_nobody_active ExpiredDue k e = absurd (cc)
of_nobody_active ReleasedDue k e = absurd (cc)
of_nobody_active SeizedDue k e = absurd (cc)

said_active : (m : UpdateValue) (c : Option (List ℕ)) (k : Binding) → said_by m c ≡ Some (Active k)
    → coming_by m.status c m.iaid m.prefix ≡ Some (leased k.client k.iaid m.prefix)
said_active m (Some client) k e = of_client_active m.status client m.iaid m.prefix k e
said_active m None k e = absurd (of_nobody_active m.status k e)

becomes_active : (u : UnitValue) (m : UpdateValue) (s : UnitStatus) (k : Binding) → (becomes u m s).status ≡ Active k
    → s ≡ Active k
becomes_active u m (Active j) k e = e
becomes_active u m (Expired j) k e = absurd (cc)
becomes_active u m (Released j) k e = absurd (cc)
becomes_active u m FreeBackup k e = absurd (cc)
becomes_active u m Free k e = absurd (cc)

abbrev Says : UnitValue → UpdateValue → Binding → Type 0
Says u m k = Came u.status (coming_by m.status m.client m.iaid m.prefix) m.prefix k

said_comes : (u : UnitValue) (m : UpdateValue) (o : Option UnitStatus) (k : Binding) → said_by m m.client ≡ o
    → (becomes_said u m o).status ≡ Active k → Says u m k
said_comes u m None k is e = inl e
said_comes u m (Some s) k is e = inr (said_active m m.client k (is ∙ ap Some (becomes_active u m s k e)))

partners_none : (role : Role) (k : Binding) → partners_pool role ≡ Active k → ⊥
partners_none Primary k e = absurd (cc)
partners_none Secondary k e = absurd (cc)

taken_comes : (s : Status) (role : Role) (u : UnitValue) (m : UpdateValue) (k : Binding)
    → (taken_by s role u m).status ≡ Active k → Says u m k
taken_comes SeizedDue role u m k e = absurd (partners_none role k e)
taken_comes ActiveDue role u m k e = said_comes u m (said_by m m.client) k refl e
taken_comes ExpiredDue role u m k e = said_comes u m (said_by m m.client) k refl e
taken_comes ReleasedDue role u m k e = said_comes u m (said_by m m.client) k refl e
taken_comes BackupDue role u m k e = said_comes u m (said_by m m.client) k refl e
taken_comes FreeDue role u m k e = said_comes u m (said_by m m.client) k refl e

update_comes : (role : Role) (u : UnitValue) (now : ℕ) (waiting : Bool) (m : UpdateValue) (k : Binding)
    → (after_update role u now waiting m).status ≡ Active k → Says u m k
update_comes role u now waiting m k = by_tests (nat_le m.mine u.seen) (is_accepted role u now waiting m) where
  by_tests : (s t : Bool) → (if s then u else (if t then accepted role u m else answered u m RejectReply)).status
      ≡ Active k → Says u m k
  by_tests true t e = inl e
  by_tests false true e = taken_comes m.status role u m k e
  by_tests false false e = inl e

-- ---- replies

settled_active : (u : UnitValue) (due : Status) (k : Binding) → (settled u due).status ≡ Active k → u.status ≡ Active k
settled_active u ActiveDue k e = e
settled_active u ExpiredDue k e = absurd (cc)
settled_active u ReleasedDue k e = absurd (cc)
settled_active u FreeDue k e = absurd (cc)
settled_active u BackupDue k e = e
settled_active u SeizedDue k e = e

reply_due : (u : UnitValue) (r : BindReply) (due : Option Status) (k : Binding)
    → (or_as_was u (after_reply_to u r due)).status ≡ Active k → u.status ≡ Active k
reply_due u r None k e = e
reply_due u r (Some due) k e = by_test (counts u r) e where
  by_test : (t : Bool) → (or_as_was u (if t then Some (record (settled u due) { seen = r.mine }) else None)).status
      ≡ Active k → u.status ≡ Active k
  by_test true e = settled_active u due k e
  by_test false e = e

reply_active : (u : UnitValue) (r : BindReply) (k : Binding) → (or_as_was u (after_reply u r)).status ≡ Active k
    → u.status ≡ Active k
reply_active u r k = by_tests u.marked (counts u r) where
  by_tests : (s t : Bool)
      → (or_as_was u (if s then (if t then Some (unmarked u r) else None) else after_reply_to u r u.due)).status
      ≡ Active k → u.status ≡ Active k
  by_tests true true e = e
  by_tests true false e = e
  by_tests false t e = reply_due u r u.due k e

-- ---- events

module _ (b : BookState) (p : Prefix) (k : Binding) where
  abbrev Comes : Option LeaseKey → Type 0
  Comes coming = Came (b.units p).status coming p k

  one_unit : (q : Prefix) (u : UnitValue) (coming : Option LeaseKey) → (p ≡ q → u.status ≡ Active k → Comes coming)
      → ((with_unit b q u).units p).status ≡ Active k → Comes coming
  one_unit q u coming here = by_test (same_prefix p q) refl where
    by_test : (t : Bool) → same_prefix p q ≡ t → (if t then u else b.units p).status ≡ Active k → Comes coming
    by_test true e is = here (same_means p q e) is
    by_test false e is = inl is

  -- the unit was so before
  as_before : (q : Prefix) (coming : Option LeaseKey) → p ≡ q → (b.units q).status ≡ Active k → Comes coming
  as_before q coming e is = inl (ap (λ (x : Prefix). (b.units x).status) e ∙ is)

  comes_at : (q : Prefix) (j : Binding) → p ≡ q → Active j ≡ Active k → Comes (Some (leased j.client j.iaid q))
  comes_at q j e is =
      let same : j ≡ k = same_active j k is in
      inr (ap (λ (x : Binding). Some (leased x.client x.iaid q)) same
      ∙ ap (λ (x : Prefix). Some (leased k.client k.iaid x)) (sym e))

  sent_comes : (m : Body) (coming : Option LeaseKey) → ((sent b m).units p).status ≡ Active k → Comes coming
  sent_comes (Update m) coming is = inl is
  sent_comes (Reply r) coming is = one_unit r.prefix (record (b.units r.prefix) { pending = None }) coming
      (as_before r.prefix coming) is
  sent_comes (Contact ask answer) coming is = inl is

  body_comes : (now : ℕ) (m : Body) → ((taken_body b now m).units p).status ≡ Active k → Comes (coming_in m)
  body_comes now (Update m) is = by_test (is_unit b.pools m.prefix) is where
    moved : p ≡ m.prefix → Says (b.units m.prefix) m k → Comes (coming_by m.status m.client m.iaid m.prefix)
    moved e (inl is) = as_before m.prefix (coming_by m.status m.client m.iaid m.prefix) e is
    moved e (inr is) = inr (is ∙ ap (λ (x : Prefix). Some (leased k.client k.iaid x)) (sym e))

    by_test : (t : Bool)
        → ((if t then with_unit b m.prefix (after_update b.role (b.units m.prefix) now b.waiting m) else b).units
        p).status ≡ Active k → Comes (coming_in (Update m))
    by_test true is = one_unit m.prefix (after_update b.role (b.units m.prefix) now b.waiting m) (coming_in (Update m))
        (λ e u. moved e (update_comes b.role (b.units m.prefix) now b.waiting m k u)) is
    by_test false is = inl is
  body_comes now (Reply r) is = by_test (is_unit b.pools r.prefix) is where
    by_test : (t : Bool)
        → ((if t then with_unit b r.prefix (or_as_was (b.units r.prefix) (after_reply (b.units r.prefix) r)) else
        b).units p).status ≡ Active k → Comes None
    by_test true is = one_unit r.prefix (or_as_was (b.units r.prefix) (after_reply (b.units r.prefix) r)) None
        (λ e u. as_before r.prefix None e (reply_active (b.units r.prefix) r k u)) is
    by_test false is = inl is
  body_comes now (Contact ask answer) is = inl is

  learned_comes : (term : ℕ) (m : Body) (coming : Option LeaseKey) → ((learned b term m).units p).status ≡ Active k
      → Comes coming
  learned_comes term (Update m) coming is = inl is
  learned_comes term (Reply r) coming is = inl is
  learned_comes term (Contact ask answer) coming is = inl is

  taken_event : (now : ℕ) (m : PartnerMessage) → ((taken b now m).units p).status ≡ Active k → Comes (coming_in m.body)
  taken_event now m = by_tests (m.term == b.term) (b.waiting && nat_lt b.term m.term) where
    by_tests : (s t : Bool)
        → ((if s then taken_body b now m.body else (if t then learned b m.term m.body else b)).units p).status
        ≡ Active k → Comes (coming_in m.body)
    by_tests true t is = body_comes now m.body is
    by_tests false true is = learned_comes m.term m.body (coming_in m.body) is
    by_tests false false is = inl is

  kept_unit : (q : Prefix) (s : UnitStatus) → p ≡ q → s ≡ Active k → Comes (leased_under q s)
  kept_unit q (Active j) e is = comes_at q j e is
  kept_unit q Free e is = absurd (cc)
  kept_unit q FreeBackup e is = absurd (cc)
  kept_unit q (Expired j) e is = absurd (cc)
  kept_unit q (Released j) e is = absurd (cc)

  expired_none : (s : UnitStatus) → expired s ≡ Active k → ⊥
  expired_none (Active j) is = absurd (cc)
  expired_none Free is = absurd (cc)
  expired_none FreeBackup is = absurd (cc)
  expired_none (Expired j) is = absurd (cc)
  expired_none (Released j) is = absurd (cc)

  own_none : (role : Role) → own_pool role ≡ Active k → ⊥
  own_none Primary is = absurd (cc)
  own_none Secondary is = absurd (cc)

  pub comes : (now : ℕ) (e : Event) → ((effect b now e).units p).status ≡ Active k → Comes (coming_of e)
  comes now (Open skew mclt life) is = inl is
  comes now (PoolLine prefix unit) is = inl is
  comes now (TransitLine d) is = inl is
  comes now (Base n) is = inl is
  comes now (Carry c) is = inl is
  comes now (UnitLine u) is = one_unit u.prefix _ (leased_under u.prefix u.status) (kept_unit u.prefix u.status) is
  comes now (Grant g) is = one_unit g.prefix _ (Some (leased g.client g.iaid g.prefix))
      (comes_at g.prefix (record { client = g.client; iaid = g.iaid })) is
  comes now (Release client iaid prefix) is = one_unit prefix _ None (λ e u. absurd (cc)) is
  comes now (Expire prefix) is = one_unit prefix _ None (λ e u. absurd (expired_none (b.units prefix).status u)) is
  comes now (Backup prefix) is = one_unit prefix _ None (λ e u. absurd (cc)) is
  comes now (Reclaim prefix) is = one_unit prefix _ None (as_before prefix None) is
  comes now (Seize prefix) is = one_unit prefix _ None (λ e u. absurd (own_none b.role u)) is
  comes now (Send m) is = sent_comes m.body None is
  comes now (Take m) is = taken_event now m is
  comes now (State Normal) is = inl is
  comes now (State Interrupted) is = inl is
  comes now (State Down) is = inl is
  comes now (Restart n) is = inl is
  comes now Close is = inl is
