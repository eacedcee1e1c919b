-- A line of a book is, at each prefix, an event of the world of one unit: what the events do, and what the messages
-- say.
use Rattle.std.specs.Prelude.{◌≡◌, ◌+◌, ◌≤◌, ◌==◌, ◌∷◌, [], if◌then◌else◌, Bool, List, None, Some, false, true, ℕ}
use Rattle.std.proofs.Common.{◌∙◌, ap, inl, inr, refl}
use Rattle.std.proofs.lemmas.Bool.{and_from, and_parts, eq-eqb, eqb-true}
use Rattle.pair_world.specs.Kept.{IsActiveOf}
use Rattle.pair_world.specs.UnitInRun.{contacts_of, contacts_with, replies_of, replies_with, updates_of, updates_with}
use Rattle.prefix_range.specs.Prefix.{Prefix}
use Rattle.binding_rules.specs.declared.update.Status.TheVariants.{Active as ActiveDue, Backup as BackupDue}
use Rattle.binding_rules.specs.declared.update.Status.TheVariants.{Expired as ExpiredDue, Free as FreeDue}
use Rattle.binding_rules.specs.declared.update.Status.TheVariants.{Released as ReleasedDue}
use Rattle.binding_rules.specs.declared.update.BindReply.{BindReply}
use Rattle.binding_rules.specs.declared.unit.Binding.{Binding}
use Rattle.binding_rules.specs.declared.message.Body.{Body}
use Rattle.binding_rules.specs.declared.message.Body.TheVariants.{Contact as ContactBody, Reply as ReplyBody}
use Rattle.binding_rules.specs.declared.message.Body.TheVariants.{Update as UpdateBody}
use Rattle.binding_rules.specs.declared.unit.UnitStatus.TheVariants.{Free, FreeBackup, Released}
use Rattle.binding_rules.specs.declared.message.PartnerMessage.{PartnerMessage}
use Rattle.binding_rules.specs.declared.role.Role.TheVariants.{Primary}
use Rattle.binding_rules.specs.declared.role.Role.{Role}
use Rattle.binding_rules.specs.declared.update.Update.{Update}
use Rattle.binding_rules.specs.Reply.{after_reply}
use Rattle.binding_rules.specs.Table.{after_update}
use Rattle.binding_rules.specs.Giving.{is_own}
use Rattle.binding_rules.specs.Unit.{status_of}
use Rattle.book_rules.specs.MessageRules.{TellsUnit}
use Rattle.book_state.specs.Effects.{changed, expired, or_as_was, same_prefix, seized}
use Rattle.book_rules.specs.UnitRules.{takeover}
use Rattle.pair_world.specs.UnitWorld.{Contact, Entry, Gives, GivesBack, IsGrantable, IsIn, IsWithinLead, MaySay}
use Rattle.pair_world.specs.UnitWorld.{Server, UnitSetting, asked_by, contacted, granted}

-- what a side's events do to what is known of it, K; cons is what the other ever said by contacts
pub record Moves (s : UnitSetting) (side : Role) (K : ℕ → List Entry → Server
    → Type 0) (ups : List Update) (reps : List BindReply) (cons : List Contact) (other_stopped : Bool) : Type 0 where
  pub grants : (now : ℕ) (log : List Entry) (x : Server) → K now log x → (reading valid out_end : ℕ) (holder : Binding)
      → reading ≤ now + s.skew → now ≤ reading + s.skew
      → IsGrantable side x.unit holder → IsWithinLead s x.unit.acked reading valid → x.waiting ≡ false
      → x.stopped ≡ false
      → K now (Gives side holder now valid ∷ log) (record x { unit = granted s reading valid out_end holder x.unit })
  pub releases : (now : ℕ) (log : List Entry) (x : Server) → K now log x → (holder : Binding)
      → IsActiveOf x.unit.status holder
      → K now (GivesBack holder now ∷ log) (record x { unit = changed (Released holder) ReleasedDue x.unit })
  pub expires : (now : ℕ) (log : List Entry) (x : Server) → K now log x → (reading : ℕ) → reading ≤ now + s.skew
      → status_of x.unit.status ≡ ActiveDue → x.unit.own_end ≤ reading
      → K now log (record x { unit = changed (expired x.unit.status) ExpiredDue x.unit })
  pub moves : (now : ℕ) (log : List Entry) (x : Server) → K now log x → side ≡ Primary → x.unit.status ≡ Free
      → K now log (record x { unit = changed FreeBackup BackupDue x.unit })
  pub reclaims : (now : ℕ) (log : List Entry) (x : Server) → K now log x → side ≡ Primary → x.unit.status ≡ FreeBackup
      → K now log (record x { unit = changed x.unit.status FreeDue x.unit })
  pub sends_update : (now : ℕ) (log : List Entry) (x : Server) → K now log x → (u : Update) → TellsUnit x.unit u
      → K now log (record x { updates = u ∷ x.updates })
  pub sends_reply : (now : ℕ) (log : List Entry) (x : Server) → K now log x → (r : BindReply) → x.unit.pending ≡ Some r
      → K now log (record x { unit = record x.unit { pending = None }; replies = r ∷ x.replies })
  pub says : (now : ℕ) (log : List Entry) (x : Server) → K now log x → (c : Contact) → MaySay x c
      → K now log (record x { contacts = c ∷ x.contacts })
  pub takes : (now : ℕ) (log : List Entry) (x : Server) → K now log x → (reading : ℕ) (v : Update)
      → reading ≤ now + s.skew → IsIn ups v
      → K now log (record x { unit = after_update side x.unit reading x.waiting v })
  pub takes_reply : (now : ℕ) (log : List Entry) (x : Server) → K now log x → (r : BindReply) → IsIn reps r
      → K now log (record x { unit = or_as_was x.unit (after_reply x.unit r) })
  pub takes_contact : (now : ℕ) (log : List Entry) (x : Server) → K now log x → (c : Contact) → IsIn cons c
      → K now log (contacted c x)
  pub learns : (now : ℕ) (log : List Entry) (x : Server) → K now log x → (c : Contact) → IsIn cons c
      → K now log (record x { asked = asked_by c x.asked })
  pub goes_down : (now : ℕ) (log : List Entry) (x : Server) → K now log x → (reading : ℕ) → now ≤ reading + s.skew
      → x.waiting ≡ false → x.stopped ≡ false → other_stopped ≡ true
      → K now log (record x { down = Some reading })
  pub goes_up : (now : ℕ) (log : List Entry) (x : Server) → K now log x → K now log (record x { down = None })
  pub seizes : (now : ℕ) (log : List Entry) (x : Server) → K now log x → (reading d : ℕ) → reading ≤ now + s.skew
      → x.down ≡ Some d → is_own side x.unit.status ≡ false → x.unit.own_end ≤ reading
      → takeover x.unit.told d s.mclt s.skew s.transit ≤ reading → K now log (record x { unit = seized side x.unit })
  pub stops : (now : ℕ) (log : List Entry) (x : Server) → K now log x → K now log (record x { stopped = true })
  pub restarts : (now : ℕ) (log : List Entry) (x : Server) → K now log x
      → K now log (record x { waiting = true; restart = x.restart + 1; stopped = false })

pub same_prefix_is : (p q : Prefix) → same_prefix p q ≡ true → p ≡ q
same_prefix_is p q h =
    let x = and_parts (p.address == q.address) (p.length == q.length) h in
    let a : p.address ≡ q.address = eqb-true p.address q.address x.0 in
    let l : p.length ≡ q.length = eqb-true p.length q.length x.1 in
    let make : ℕ → ℕ → Prefix = λ a n. record { address = a; length = n } in
    ap (λ z. make z p.length) a ∙ ap (λ z. make q.address z) l

pub same_prefix_self : (p : Prefix) → same_prefix p p ≡ true
same_prefix_self p = and_from (p.address == p.address) (p.length == p.length) (eq-eqb p.address p.address refl)
    (eq-eqb p.length p.length refl)

in_if : {T : Type 0} (t : Bool) (x y : T) (xs : List T) → IsIn xs x → IsIn (if t then y ∷ xs else xs) x
in_if true x y xs h = inr h
in_if false x y xs h = h

in_with : (p : Prefix) (body : Body) (us : List Update) (u : Update) → IsIn us u → IsIn (updates_with p body us) u
in_with p (UpdateBody v) us u h = in_if (same_prefix p v.prefix) u v us h
in_with p (ReplyBody r) us u h = h
in_with p (ContactBody x y) us u h = h

in_with_reply : (p : Prefix) (body : Body) (rs : List BindReply) (r : BindReply) → IsIn rs r
    → IsIn (replies_with p body rs) r
in_with_reply p (ReplyBody v) rs r h = in_if (same_prefix p v.prefix) r v rs h
in_with_reply p (UpdateBody v) rs r h = h
in_with_reply p (ContactBody x y) rs r h = h

first_update : (p : Prefix) (u : Update) (body : Body) (us : List Update) → body ≡ UpdateBody u
    → same_prefix p u.prefix ≡ true → IsIn (updates_with p body us) u
first_update p u body us is same = rw is (rw same (inl refl))

first_reply : (p : Prefix) (r : BindReply) (body : Body) (rs : List BindReply) → body ≡ ReplyBody r
    → same_prefix p r.prefix ≡ true → IsIn (replies_with p body rs) r
first_reply p r body rs is same = rw is (rw same (inl refl))

pub sent_update : (p : Prefix) (ms : List PartnerMessage) (m : PartnerMessage) (u : Update) → IsIn ms m
    → m.body ≡ UpdateBody u → same_prefix p u.prefix ≡ true → IsIn (updates_of p ms) u
sent_update p [] m u h is same = absurd h
sent_update p (y ∷ ys) m u (inl e) is same =
    first_update p u y.body (updates_of p ys) (ap (λ (z : PartnerMessage). z.body) e ∙ is) same
sent_update p (y ∷ ys) m u (inr h) is same = in_with p y.body (updates_of p ys) u (sent_update p ys m u h is same)

pub sent_reply : (p : Prefix) (ms : List PartnerMessage) (m : PartnerMessage) (r : BindReply) → IsIn ms m
    → m.body ≡ ReplyBody r → same_prefix p r.prefix ≡ true → IsIn (replies_of p ms) r
sent_reply p [] m r h is same = absurd h
sent_reply p (y ∷ ys) m r (inl e) is same =
    first_reply p r y.body (replies_of p ys) (ap (λ (z : PartnerMessage). z.body) e ∙ is) same
sent_reply p (y ∷ ys) m r (inr h) is same = in_with_reply p y.body (replies_of p ys) r (sent_reply p ys m r h is same)

in_contacts : (body : Body) (cs : List Contact) (c : Contact) → IsIn cs c → IsIn (contacts_with body cs) c
in_contacts (ContactBody x y) cs c h = inr h
in_contacts (UpdateBody u) cs c h = h
in_contacts (ReplyBody r) cs c h = h

first_contact : (ask answer : ℕ) (body : Body) (cs : List Contact) → body ≡ ContactBody ask answer
    → IsIn (contacts_with body cs) (record { ask = ask; answer = answer })
first_contact ask answer body cs is = rw is (inl refl)

pub sent_contact : (ms : List PartnerMessage) (m : PartnerMessage) (ask answer : ℕ) → IsIn ms m
    → m.body ≡ ContactBody ask answer → IsIn (contacts_of ms) (record { ask = ask; answer = answer })
sent_contact [] m ask answer h is = absurd h
sent_contact (y ∷ ys) m ask answer (inl e) is =
    first_contact ask answer y.body (contacts_of ys) (ap (λ (z : PartnerMessage). z.body) e ∙ is)
sent_contact (y ∷ ys) m ask answer (inr h) is =
    in_contacts y.body (contacts_of ys) _ (sent_contact ys m ask answer h is)
