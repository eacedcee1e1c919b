-- The invariant seen from one of the two servers, x of this side; y is its partner. What differs by the side while no
-- mark
-- stands is told apart here, and nowhere above.
use Rattle.std.specs.Prelude.{◌≡◌, ℕ, ◌<◌, ◌≤◌, ◌⊎◌, Bool, true, false, List, ◌∷◌, Option, Some, None}
use Rattle.std.proofs.Common.{arith, inl, inr, refl}
use Rattle.binding_rules.specs.declared.role.Role.{Role}
use Rattle.binding_rules.specs.declared.role.Role.TheVariants.{Primary, Secondary}
use Rattle.binding_rules.specs.declared.unit.Binding.{Binding}
use Rattle.binding_rules.specs.declared.unit.UnitStatus.{UnitStatus}
use Rattle.binding_rules.specs.declared.unit.UnitStatus.TheVariants.{Active, Expired, Free, FreeBackup, Released}
use Rattle.binding_rules.specs.declared.update.BindReply.{BindReply}
use Rattle.binding_rules.specs.declared.update.Status.{Status}
use Rattle.binding_rules.specs.declared.update.Status.TheVariants.{Active as ActiveDue, Backup as BackupDue}
use Rattle.binding_rules.specs.declared.update.Status.TheVariants.{Expired as ExpiredDue, Free as FreeDue}
use Rattle.binding_rules.specs.declared.update.Status.TheVariants.{Released as ReleasedDue}
use Rattle.binding_rules.specs.declared.update.Acknowledgement.TheVariants.{Reject as RejectReply}
use Rattle.binding_rules.specs.declared.update.Update.{Update}
use Rattle.binding_rules.specs.Giving.{is_own}
use Rattle.binding_rules.specs.Reply.{is_accept, unmarked}
use Rattle.binding_rules.specs.Role.{partner_of}
use Rattle.binding_rules.specs.Table.{answered}
use Rattle.binding_rules.specs.Unit.{same_binding, status_of}
use Rattle.book_state.specs.Effects.{changed, expired, seized}
use Rattle.book_rules.specs.MessageRules.{TellsUnit}
use Rattle.pair_world.specs.Kept.{RunningGrantsEnd, IsActiveOf, IsPast, PairKept, Servers}
use Rattle.pair_world.specs.Said.{DueOf, InCalm, InMark, Says, SaysMark, binding_of, code, due_code}
use Rattle.pair_world.specs.UnitWorld.{Contact, Entry, IsGrantable, IsIn, Server, UnitSetting, granted}
use Rattle.pair_world.proofs.Effects.{accepted_as, accepts_as, replied}
use Rattle.pair_world.proofs.MarkSteps.{accepts_y}
use Rattle.pair_world.proofs.MarkTurns.{seizes_a, seizes_b, unmarks_a, unmarks_b}
use Rattle.pair_world.proofs.Servers.{turned}
use Rattle.pair_world.proofs.StepsA.{grants_a, releases_a, expires_a, moves_a, reclaims_a, accepts_a, rejects_a}
use Rattle.pair_world.proofs.StepsA.{settles_a, sends_update_a, sends_reply_a}
use Rattle.pair_world.proofs.StepsB.{grants_b, releases_b, expires_b, accepts_b, rejects_b, settles_b, sends_update_b}
use Rattle.pair_world.proofs.StepsB.{sends_reply_b}
use Rattle.pair_world.proofs.Words.{code_low}

-- while the unit is marked at neither
abbrev pub CalmOf : Role → Binding → Server → Server → Type 0
CalmOf Primary k x y = InCalm k x y
CalmOf Secondary k x y = InCalm k y x

pub record KeptBy (side : Role) (s : UnitSetting) (now : ℕ) (log : List Entry) (x y : Server) : Type 0 where
  pub calm : x.unit.marked ≡ false → y.unit.marked ≡ false → (k : Binding) → CalmOf side k x y
  pub marked_x : x.unit.marked ≡ true → (k : Binding) → InMark side k x y
  pub marked_y : y.unit.marked ≡ true → (k : Binding) → InMark (partner_of side) k y x
  pub ends_x : RunningGrantsEnd s now log side x.unit (Says y) y.down y.unit.marked
  pub ends_y : RunningGrantsEnd s now log (partner_of side) y.unit (Says x) x.down x.unit.marked
  pub servers : Servers x y
  pub past : IsPast now log

abbrev pub KeptFrom : Role → UnitSetting → ℕ → List Entry → Server → Server → Type 0
KeptFrom Primary s now log x y = PairKept s now log x y
KeptFrom Secondary s now log x y = PairKept s now log y x

pub seen_from : (side : Role) (s : UnitSetting) (now : ℕ) (log : List Entry) (x y : Server)
    → KeptFrom side s now log x y → KeptBy side s now log x y
seen_from Primary s now log x y kept = record {
  calm = kept.calm;
  marked_x = kept.marked_a;
  marked_y = kept.marked_b;
  ends_x = kept.ends_a;
  ends_y = kept.ends_b;
  servers = kept.servers;
  past = kept.past;
}
seen_from Secondary s now log x y kept = record {
  calm = λ p q. kept.calm q p;
  marked_x = kept.marked_b;
  marked_y = kept.marked_a;
  ends_x = kept.ends_b;
  ends_y = kept.ends_a;
  servers = turned y x kept.servers;
  past = kept.past;
}

pub as_kept : (side : Role) (s : UnitSetting) (now : ℕ) (log : List Entry) (x y : Server) → KeptBy side s now log x y
    → KeptFrom side s now log x y
as_kept Primary s now log x y kept = record {
  calm = kept.calm;
  marked_a = kept.marked_x;
  marked_b = kept.marked_y;
  ends_a = kept.ends_x;
  ends_b = kept.ends_y;
  servers = kept.servers;
  past = kept.past;
}
as_kept Secondary s now log x y kept = record {
  calm = λ p q. kept.calm q p;
  marked_a = kept.marked_y;
  marked_b = kept.marked_x;
  ends_a = kept.ends_y;
  ends_b = kept.ends_x;
  servers = turned x y kept.servers;
  past = kept.past;
}

-- ---- what is known while calm

outside_a : (k : Binding) (status : UnitStatus) → is_own Primary status ≡ false → 1 ≤ code k status
outside_a k Free ne = absurd (cc)
outside_a k FreeBackup ne = omega arith
outside_a k (Active j) ne = let l = code_low (same_binding j k) in omega arith
outside_a k (Expired j) ne = omega arith
outside_a k (Released j) ne = omega arith

outside_b : (k : Binding) (status : UnitStatus) → is_own Secondary status ≡ false
    → (code k status ≡ 0) ⊎ (2 ≤ code k status)
outside_b k Free ne = inl refl
outside_b k FreeBackup ne = absurd (cc)
outside_b k (Active j) ne = let l = code_low (same_binding j k) in inr (omega arith)
outside_b k (Expired j) ne = inr (omega arith)
outside_b k (Released j) ne = inr (omega arith)

pub twice : (side : Role) → partner_of (partner_of side) ≡ side
twice Primary = refl
twice Secondary = refl

pub calm_due : (side : Role) (k : Binding) (x y : Server) → CalmOf side k x y
    → DueOf side (code k x.unit.status) (due_code x.unit.due)
calm_due Primary k x y c = c.phases.a.due
calm_due Secondary k x y c = c.phases.b.due

pub calm_seen : (side : Role) (x y : Server) (v : Update) → CalmOf side (binding_of v) x y → Says y v
    → v.seen ≤ x.unit.mine
calm_seen Primary x y v c said = let sent = c.phases.b.sent_u _ _ _ (v, said, refl, refl, refl) in
    let count = c.phases.count_b in omega arith
calm_seen Secondary x y v c said = let sent = c.phases.a.sent_u _ _ _ (v, said, refl, refl, refl) in
    let count = c.phases.count_a in omega arith

pub calm_mark : (side : Role) (k : Binding) (x y : Server) → CalmOf side k x y → (m : ℕ) → SaysMark y m
    → m ≤ x.unit.seen
calm_mark Primary k x y c m said = c.stale.stale_b m said
calm_mark Secondary k x y c m said = c.stale.stale_a m said

pub calm_told : (side : Role) (k : Binding) (x y : Server) → CalmOf side k x y → 2 ≤ code k y.unit.status
    → code k y.unit.status ≤ 3
    → is_own side x.unit.status ≡ false → y.unit.acked ≤ x.unit.told
calm_told Primary k x y c lo hi outside = c.acks.told_a lo hi (outside_a k x.unit.status outside)
calm_told Secondary k x y c lo hi outside = c.acks.told_b lo hi (outside_b k x.unit.status outside)

-- ---- x's steps while calm

module _ (s : UnitSetting) (k : Binding) where
  pub grants_calm : (side : Role) (x y : Server) → x.unit.marked ≡ false → CalmOf side k x y
      → (reading valid out_end : ℕ) (holder : Binding)
      → IsGrantable side x.unit holder → CalmOf side k (record x {
        unit =
            granted s reading valid out_end holder x.unit;
      }) y
  grants_calm Primary x y open' c = grants_a s k x y open' c
  grants_calm Secondary x y open' c = grants_b s k y x open' c

  pub releases_calm : (side : Role) (x y : Server) → x.unit.marked ≡ false → CalmOf side k x y → (holder : Binding)
      → IsActiveOf x.unit.status holder
      → CalmOf side k (record x { unit = changed (Released holder) ReleasedDue x.unit }) y
  releases_calm Primary x y open' c = releases_a s k x y open' c
  releases_calm Secondary x y open' c = releases_b s k y x open' c

  pub expires_calm : (side : Role) (x y : Server) → x.unit.marked ≡ false → CalmOf side k x y
      → status_of x.unit.status ≡ ActiveDue
      → CalmOf side k (record x { unit = changed (expired x.unit.status) ExpiredDue x.unit }) y
  expires_calm Primary x y open' c = expires_a s k x y open' c
  expires_calm Secondary x y open' c = expires_b s k y x open' c

  pub moves_calm : (side : Role) (x y : Server) → side ≡ Primary → x.unit.marked ≡ false → CalmOf side k x y
      → x.unit.status ≡ Free
      → CalmOf side k (record x { unit = changed FreeBackup BackupDue x.unit }) y
  moves_calm Primary x y first open' c = moves_a s k x y open' c
  moves_calm Secondary x y first open' c = absurd (cc)

  pub reclaims_calm : (side : Role) (x y : Server) → side ≡ Primary → x.unit.marked ≡ false → CalmOf side k x y
      → x.unit.status ≡ FreeBackup
      → CalmOf side k (record x { unit = changed x.unit.status FreeDue x.unit }) y
  reclaims_calm Primary x y first open' c = reclaims_a s k x y open' c
  reclaims_calm Secondary x y first open' c = absurd (cc)

  pub accepts_calm : (side : Role) (x y : Server) → x.unit.marked ≡ false → CalmOf side k x y
      → (waiting : Bool) (reading : ℕ) (v : Update)
      → IsIn y.updates v → x.unit.seen < v.mine → (status : Status) → v.status ≡ status
      → accepts_as status side waiting x.unit reading v ≡ true
      → CalmOf side k (record x { unit = accepted_as status side x.unit v }) y
  accepts_calm Primary x y open' c = accepts_a s k x y open' c
  accepts_calm Secondary x y open' c = accepts_b s k y x open' c

  pub rejects_calm : (side : Role) (x y : Server) → x.unit.marked ≡ false → CalmOf side k x y → (v : Update)
      → CalmOf side k (record x { unit = answered x.unit v RejectReply }) y
  rejects_calm Primary x y open' c = rejects_a s k x y open' c
  rejects_calm Secondary x y open' c = rejects_b s k y x open' c

  pub settles_calm : (side : Role) (x y : Server) → x.unit.marked ≡ false → CalmOf side k x y → (r : BindReply)
      → IsIn y.replies r
      → is_accept r.acknowledgement ≡ true → r.of ≡ x.unit.mine → x.unit.seen < r.mine → (d : Status)
      → x.unit.due ≡ Some d
      → CalmOf side k (record x { unit = replied d x.unit r }) y
  settles_calm Primary x y open' c = settles_a s k x y open' c
  settles_calm Secondary x y open' c = settles_b s k y x open' c

  pub sends_update_calm : (side : Role) (x y : Server) → x.unit.marked ≡ false → CalmOf side k x y → (u : Update)
      → TellsUnit x.unit u
      → CalmOf side k (record x { updates = u ∷ x.updates }) y
  sends_update_calm Primary x y open' c = sends_update_a s k x y open' c
  sends_update_calm Secondary x y open' c = sends_update_b s k y x open' c

  pub sends_reply_calm : (side : Role) (x y : Server) → x.unit.marked ≡ false → CalmOf side k x y → (r : BindReply)
      → x.unit.pending ≡ Some r
      → CalmOf side k (record x { unit = record x.unit { pending = None }; replies = r ∷ x.replies }) y
  sends_reply_calm Primary x y open' c = sends_reply_a s k x y open' c
  sends_reply_calm Secondary x y open' c = sends_reply_b s k y x open' c

  -- a mark is set, and goes
  pub seizes_calm : (side : Role) (x y : Server) → CalmOf side k x y
      → InMark side k (record x { unit = seized side x.unit }) y
  seizes_calm Primary x y c = seizes_a s k x y c
  seizes_calm Secondary x y c = seizes_b s k y x c

  pub unmarks_calm : (side : Role) (x y : Server) → InMark side k x y → (r : BindReply) → IsIn y.replies r
      → is_accept r.acknowledgement ≡ true
      → r.of ≡ x.unit.mine → x.unit.seen < r.mine → CalmOf side k (record x { unit = unmarked x.unit r }) y
  unmarks_calm Primary x y m = unmarks_a s k x y m
  unmarks_calm Secondary x y m = unmarks_b s k y x m

  -- x takes what its partner says while it has the unit marked
  pub accepts_marked : (side : Role) (x y : Server) → InMark (partner_of side) k y x → x.unit.marked ≡ false
      → (waiting : Bool) (reading : ℕ) (v : Update)
      → IsIn y.updates v → x.unit.seen < v.mine → (status : Status) → v.status ≡ status
      → accepts_as status side waiting x.unit reading v ≡ true
      → InMark (partner_of side) k y (record x { unit = accepted_as status side x.unit v })
  accepts_marked Primary x y m open' = accepts_y Secondary s k y x m open'
  accepts_marked Secondary x y m open' = accepts_y Primary s k y x m open'

-- what doesn't touch the unit nor what was said of it
pub calm_apart : (side : Role) (k : Binding) (x y : Server) (contacts : List Contact) (down : Option ℕ)
    (waiting : Bool) (restart asked : ℕ) (stopped : Bool)
    → CalmOf side k x y → CalmOf side k (record x {
      contacts = contacts;
      down = down;
      waiting = waiting;
      restart =
          restart;
      asked = asked;
      stopped = stopped;
    }) y
calm_apart Primary k x y contacts down waiting restart asked stopped c =
    record { phases = c.phases; acks = c.acks; stale = c.stale }
calm_apart Secondary k x y contacts down waiting restart asked stopped c =
    record { phases = c.phases; acks = c.acks; stale = c.stale }
