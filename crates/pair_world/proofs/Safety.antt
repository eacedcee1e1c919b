-- The start has the invariant, each event keeps it, and so no two bindings ever hold the unit.
use Rattle.std.specs.Prelude.{◌≡◌, ℕ, ◌+◌, ◌<◌, ◌≤◌, List, [], ◌∷◌}
use Rattle.std.proofs.Common.{arith, inl, inr, refl, sym, ap}
use Rattle.std.proofs.lemmas.Bool.{cases_lt}
use Rattle.pair_world.specs.Acks.{OwnEnds}
use Rattle.pair_world.specs.Phases.{Due, DueAtB, Own}
use Rattle.pair_world.specs.Kept.{RunningGrantsEnd, IsActiveOf, PairKept, Waits}
use Rattle.pair_world.specs.Said.{Answer, InCalm, Says, SaysEnd, SaysMark, Word, active_code, code}
use Rattle.binding_rules.specs.declared.unit.Binding.{Binding}
use Rattle.pair_world.specs.UnitSafe.{EndsInTime, HasUnit, IsAckTold, OneHolder, PartnerDownLaws, PartnerWaits, Runs}
use Rattle.pair_world.specs.UnitWorld.{Entry, Expires, Gives, GivesBack, GoesDown, GoesUp, Grants, IsAllowed, IsAlone}
use Rattle.pair_world.specs.UnitWorld.{LearnsTerm, MayHappen, MovesToBackup, Passes, Reclaims, Releases, Restarts}
use Rattle.pair_world.specs.UnitWorld.{Seizes, SendsContact, SendsReply, SendsUpdate, Server, UnitSetting, Stops}
use Rattle.pair_world.specs.UnitWorld.{TakesContact, TakesReply, TakesUpdate, UnitEvent, UnitWorld, first, next, server}
use Rattle.pair_world.specs.UnitWorld.{start, world_after}
use Rattle.binding_rules.specs.declared.role.Role.TheVariants.{Primary, Secondary}
use Rattle.binding_rules.specs.declared.role.Role.{Role}
use Rattle.binding_rules.specs.declared.unit.UnitStatus.{UnitStatus}
use Rattle.binding_rules.specs.Role.{partner_of}
use Rattle.binding_rules.specs.Unit.{same_binding}
use Rattle.pair_world.proofs.Phases.{by_word}
use Rattle.pair_world.proofs.Words.{code_low, code_high, code_is, code_active}
use Rattle.pair_world.proofs.Ends.{past_on, held_runs, active_once}
use Rattle.pair_world.proofs.EndsSteps.{later}
use Rattle.pair_world.proofs.Kept.{by_modes}
use Rattle.pair_world.proofs.Books.{Moves}
use Rattle.pair_world.proofs.KeptSteps.{kept_grants, kept_releases, kept_expires, kept_moves, kept_reclaims, kept_takes}
use Rattle.pair_world.proofs.KeptSteps.{kept_takes_reply, kept_seizes, kept_sends_update, kept_sends_reply, kept_says}
use Rattle.pair_world.proofs.KeptSteps.{kept_takes_contact, kept_takes_higher, kept_goes_down, kept_goes_up, kept_stops}
use Rattle.pair_world.proofs.KeptSteps.{kept_restarts, ack_told, in_time}
use Rattle.pair_world.proofs.Sides.{KeptFrom}

-- One holder, from the invariant.
active_code_of : (status : UnitStatus) (j k : Binding) → IsActiveOf status j
    → code k status ≡ active_code (same_binding j k)
active_code_of status j k x = ap (code k) x

-- while the unit is marked at one server, no grant of the other's runs
across : (s : UnitSetting) (now : ℕ) (log : List Entry) (a b : Server) → PairKept s now log a b
    → (j k : Binding) (end end' : ℕ)
    → Runs s.transit log Primary j end → now < end → Runs s.transit log Secondary k end' → now < end' → j ≡ k
across s now log a b inv j k end end' r lt r' lt' =
    let x = (inv.ends_a.own_end j end r lt).0 in
    let y = (inv.ends_b.own_end k end' r' lt').0 in
    let two = code_active k b.unit.status y in
    let one = active_code_of a.unit.status j k x in
    let low = code_low (same_binding j k) in
    let high = code_high (same_binding j k) in
    by_modes a b
    (λ p q. let shape = (inv.calm p q k).phases.b_active (omega arith) (omega arith) in
    code_is j k (same_binding j k) refl (omega arith))
    (λ p. let z = inv.ends_b.none_marked p k end' r' in absurd (omega arith))
    (λ q. let z = inv.ends_a.none_marked q j end r in absurd (omega arith))

one_of_two : (s : UnitSetting) (now : ℕ) (log : List Entry) (a b : Server) → PairKept s now log a b
    → (x y : Role) (j k : Binding) (end end' : ℕ)
    → Runs s.transit log x j end → now < end → Runs s.transit log y k end' → now < end' → j ≡ k
one_of_two s now log a b inv Primary Primary j k end end' r lt r' lt' =
    active_once a.unit.status j k (inv.ends_a.own_end j end r lt).0 (inv.ends_a.own_end k end' r' lt').0
one_of_two s now log a b inv Secondary Secondary j k end end' r lt r' lt' =
    active_once b.unit.status j k (inv.ends_b.own_end j end r lt).0 (inv.ends_b.own_end k end' r' lt').0
one_of_two s now log a b inv Primary Secondary j k end end' r lt r' lt' =
    across s now log a b inv j k end end' r lt r' lt'
one_of_two s now log a b inv Secondary Primary j k end end' r lt r' lt' =
    sym (across s now log a b inv k j end' end r' lt' r lt)

one_from_now : (s : UnitSetting) (now : ℕ) (log : List Entry) (a b : Server) → PairKept s now log a b → (m : ℕ)
    → now ≤ m → (j k : Binding)
    → HasUnit s.transit log j m → HasUnit s.transit log k m → j ≡ k
one_from_now s now log a b inv m le j k h h' =
    let r = held_runs s.transit now m log j inv.past le h in
    let r' = held_runs s.transit now m log k inv.past le h' in
    let lt = r.3 in
    let lt' = r'.3 in
    one_of_two s now log a b inv r.0 r'.0 j k r.1 r'.1 r.2 (omega arith) r'.2 (omega arith)

-- no two bindings hold the unit at any moment
abbrev pub Alone : ℕ → List Entry → Type 0
Alone transit log = (m : ℕ) (j k : Binding) → HasUnit transit log j m → HasUnit transit log k m → j ≡ k

pub record Invariant (s : UnitSetting) (now : ℕ) (log : List Entry) (a b : Server) : Type 0 where
  pub kept : PairKept s now log a b
  pub alone : Alone s.transit log

no_word_yet : (s : UnitSetting) (k : Binding) (c m n : ℕ) → Word k first c m n → ⊥
no_word_yet s k c m n (u, inl sent, ec, em, en) = sent.0
no_word_yet s k c m n (u, inr due, ec, em, en) = let z = due.1 in absurd (cc)

no_end_yet : (s : UnitSetting) (m e : ℕ) → SaysEnd first m e → ⊥
no_end_yet s m e (u, inl sent, is, em, ee) = sent.0
no_end_yet s m e (u, inr due, is, em, ee) = let z = due.1 in absurd (cc)

no_mark_yet : (m : ℕ) → SaysMark first m → ⊥
no_mark_yet m (inl sent) = sent.1
no_mark_yet m (inr marked) = let z = marked.0 in absurd (cc)

no_answer_yet : (p o : ℕ) → Answer first p o → ⊥
no_answer_yet p o (r, (good, inl sent), ep, eo) = sent
no_answer_yet p o (r, (good, inr due), ep, eo) = absurd (cc)

own_at_start : (s : UnitSetting) (k : Binding) (D : ℕ → ℕ → Type 0) → D 0 9
    → Own D 0 0 0 9 (Word k first) (Answer first)
own_at_start s k D due = record {
  due = due;
  sent_u = λ c m n w. absurd (no_word_yet s k c m n w);
  sent_r = λ p o w. absurd (no_answer_yet p o w);
  replies_before = λ e p o w. absurd (no_answer_yet p o w);
  last_word = λ e c m n w. absurd (no_word_yet s k c m n w);
  reply_then_update = λ c m n p o w. absurd (no_word_yet s k c m n w);
}

own_ends_at_start : (s : UnitSetting) (k : Binding) → OwnEnds 0 0 9 0 0 0 (Word k first) (SaysEnd first)
own_ends_at_start s k = record {
  no_ends = λ le. (refl, refl);
  last_active = λ c m n w. absurd (no_word_yet s k c m n w);
  last_end = λ m e w. absurd (no_end_yet s m e w);
  sent_e = λ m e w. absurd (no_end_yet s m e w);
}

calm_at_start : (s : UnitSetting) (k : Binding) → InCalm k first first
calm_at_start s k = record {
  phases = record {
    a = own_at_start s k (λ s d. Due s d) (inl (refl, refl));
    b = own_at_start s k (λ s d. DueAtB s d) (inl (refl, refl));
    count_a = omega arith;
    count_b = omega arith;
    heard = λ e is. refl;
    b_backup = λ is. absurd (omega arith);
    b_active = λ l h. absurd (omega arith);
    b_says_active = λ c m n w. absurd (no_word_yet s k c m n w);
    b_says_over = λ c m n w. absurd (no_word_yet s k c m n w);
    b_silent = λ c m n w. absurd (no_word_yet s k c m n w);
    b_reply_last = λ p o w. absurd (no_answer_yet p o w);
    a_says_active = λ c m n w. absurd (no_word_yet s k c m n w);
    a_says_over = λ c m n w. absurd (no_word_yet s k c m n w);
    a_after_over = λ c m n w. absurd (no_word_yet s k c m n w);
    a_says_backup = λ c m n w. absurd (no_word_yet s k c m n w);
  };
  acks = record {
    a = own_ends_at_start s k;
    b = own_ends_at_start s k;
    told_a = λ l h l'. absurd (omega arith);
    told_b = λ l h out. absurd (omega arith);
    acknowledged_a = λ p o w. absurd (no_answer_yet p o w);
    acknowledged_b = λ p o w. absurd (no_answer_yet p o w);
    new_active = λ l is l' h. refl;
  };
  stale = record { stale_a = λ m w. absurd (no_mark_yet m w); stale_b = λ m w. absurd (no_mark_yet m w) };
}

none_off : IsAlone first → ⊥
none_off (inl d) = let z = d.1 in absurd (cc)
none_off (inr m) = absurd (cc)

waits_at_start : Waits first first
waits_at_start = record {
  law = λ off. absurd (none_off off);
  asked_low = omega arith;
  said_low =
      λ c sent. absurd sent;
  numbered = λ w. absurd (cc);
}

ends_at_start : (s : UnitSetting) (side : Role) → RunningGrantsEnd s 0 [] side first.unit (Says first) first.down first.unit.marked
ends_at_start s side = record {
  own_end = λ k end runs lt. absurd runs;
  released = λ v told is seen end runs. absurd runs;
  lead = λ k end runs lt. absurd runs;
  lead_down = λ d is k end runs lt. absurd runs;
  none_marked = λ is k end runs. absurd runs;
}

pub at_start : (s : UnitSetting) → Invariant s 0 [] first first
at_start s = record {
  kept = record {
    calm = λ x y k. calm_at_start s k;
    marked_a = λ x. absurd (cc);
    marked_b = λ y. absurd (cc);
    ends_a = ends_at_start s Primary;
    ends_b = ends_at_start s Secondary;
    servers = record { there = waits_at_start; back = waits_at_start; one = λ p q. none_off p };
    past = omega arith;
  };
  alone = λ m j k h h'. absurd h;
}

-- before now a new entry doesn't count
before_gives : (transit now m : ℕ) (log : List Entry) (side : Role) (holder : Binding) (valid : ℕ) (k : Binding)
    → m < now
    → HasUnit transit (Gives side holder now valid ∷ log) k m → HasUnit transit log k m
before_gives transit now m log side holder valid k lt (inl h) = let le = h.1 in absurd (omega arith)
before_gives transit now m log side holder valid k lt (inr h) = h

pub alone_gives : (s : UnitSetting) (now : ℕ) (log : List Entry) (side : Role) (holder : Binding) (valid : ℕ)
    (a b : Server) → Alone s.transit log
    → PairKept s now (Gives side holder now valid ∷ log) a b → Alone s.transit (Gives side holder now valid ∷ log)
alone_gives s now log side holder valid a b alone kept m j k h h' = by_word (cases_lt m now)
    (λ lt. alone m j k (before_gives s.transit now m log side holder valid j lt h)
    (before_gives s.transit now m log side holder valid k lt h'))
    (λ le. one_from_now s now (Gives side holder now valid ∷ log) a b kept m le j k h h')

pub alone_gives_back : (s : UnitSetting) (now : ℕ) (log : List Entry) (holder : Binding) → Alone s.transit log
    → Alone s.transit (GivesBack holder now ∷ log)
alone_gives_back s now log holder alone m j k h h' = alone m j k h.1 h'.1

pub passes : (s : UnitSetting) (now : ℕ) (log : List Entry) (a b : Server) (n : ℕ) → PairKept s now log a b
    → PairKept s (now + n) log a b
passes s now log a b n kept = record {
  calm = kept.calm;
  marked_a = kept.marked_a;
  marked_b = kept.marked_b;
  ends_a = later s now log Primary a.unit _ b.down b.unit.marked kept.ends_a n;
  ends_b = later s now log Secondary b.unit _ a.down a.unit.marked kept.ends_b n;
  servers = kept.servers;
  past = past_on log now n kept.past;
}

-- the same seen from one of the two servers
abbrev pub KnownFrom : Role → UnitSetting → ℕ → List Entry → Server → Server → Type 0
KnownFrom Primary s now log x y = Invariant s now log x y
KnownFrom Secondary s now log x y = Invariant s now log y x

known_from : (side : Role) (s : UnitSetting) (now : ℕ) (log : List Entry) (x y : Server) → KeptFrom side s now log x y
    → Alone s.transit log → KnownFrom side s now log x y
known_from Primary s now log x y kept alone = record { kept = kept; alone = alone }
known_from Secondary s now log x y kept alone = record { kept = kept; alone = alone }

kept_from : (side : Role) (s : UnitSetting) (now : ℕ) (log : List Entry) (x y : Server) → KnownFrom side s now log x y
    → KeptFrom side s now log x y
kept_from Primary s now log x y k = k.kept
kept_from Secondary s now log x y k = k.kept

alone_from : (side : Role) (s : UnitSetting) (now : ℕ) (log : List Entry) (x y : Server) → KnownFrom side s now log x y
    → Alone s.transit log
alone_from Primary s now log x y k = k.alone
alone_from Secondary s now log x y k = k.alone

alone_gives_from : (of : Role) (s : UnitSetting) (now : ℕ) (log : List Entry) (side : Role) (holder : Binding)
    (valid : ℕ) (x y : Server) → Alone s.transit log
    → KeptFrom of s now (Gives side holder now valid ∷ log) x y → Alone s.transit (Gives side holder now valid ∷ log)
alone_gives_from Primary s now log side holder valid x y = alone_gives s now log side holder valid x y
alone_gives_from Secondary s now log side holder valid x y = alone_gives s now log side holder valid y x

-- what a server does, its partner being y, keeps what is known
module _ (side : Role) (s : UnitSetting) (y : Server) where
  -- what is kept as before of an entry that doesn't come
  same : (now : ℕ) (log : List Entry) (x x' : Server) → KnownFrom side s now log x y → KeptFrom side s now log x' y
      → KnownFrom side s now log x' y
  same now log x x' k kept = known_from side s now log x' y kept (alone_from side s now log x y k)

  was : (now : ℕ) (log : List Entry) (x : Server) → KnownFrom side s now log x y → KeptFrom side s now log x y
  was now log x k = kept_from side s now log x y k

  pub moves : Moves s side (λ now log x. KnownFrom side s now log x y) y.updates y.replies y.contacts y.stopped
  moves = record {
    grants = λ now log x k reading valid out_end holder near near' guard within waits runs.
        let kept = kept_grants side s now log x y (was now log x k) reading valid out_end holder near near' guard
        within waits runs in
        known_from side s now _ _ y kept (alone_gives_from side s now log side holder valid _ y
        (alone_from side s now log x y k) kept);
    releases = λ now log x k holder guard.
        known_from side s now _ _ y (kept_releases side s now log x y (was now log x k) holder guard)
        (alone_gives_back s now log holder (alone_from side s now log x y k));
    expires = λ now log x k reading near guard over. same now log x _ k
        (kept_expires side s now log x y (was now log x k) reading near guard over);
    moves = λ now log x k first guard. same now log x _ k (kept_moves side s now log x y (was now log x k) first guard);
    reclaims = λ now log x k first guard. same now log x _ k
        (kept_reclaims side s now log x y (was now log x k) first guard);
    sends_update = λ now log x k u telling.
        same now log x _ k (kept_sends_update side s now log x y (was now log x k) u telling);
    sends_reply = λ now log x k r is. same now log x _ k (kept_sends_reply side s now log x y (was now log x k) r is);
    says = λ now log x k c may. same now log x _ k (kept_says side s now log x y (was now log x k) c may);
    takes = λ now log x k reading v near sent. same now log x _ k
        (kept_takes side s now log x y (was now log x k) reading v near sent);
    takes_reply = λ now log x k r sent. same now log x _ k
        (kept_takes_reply side s now log x y (was now log x k) r sent);
    takes_contact = λ now log x k c sent. same now log x _ k
        (kept_takes_contact side s now log x y (was now log x k) c sent);
    learns = λ now log x k c sent. same now log x _ k (kept_takes_higher side s now log x y (was now log x k) c sent);
    goes_down = λ now log x k reading near waits runs stopped. same now log x _ k
        (kept_goes_down side s now log x y (was now log x k) reading near waits runs stopped);
    goes_up = λ now log x k. same now log x _ k (kept_goes_up side s now log x y (was now log x k));
    seizes = λ now log x k reading d near is outside over take.
        same now log x _ k (kept_seizes side s now log x y (was now log x k) reading d near is outside over take);
    stops = λ now log x k. same now log x _ k (kept_stops side s now log x y (was now log x k));
    restarts = λ now log x k. same now log x _ k (kept_restarts side s now log x y (was now log x k));
  }

abbrev Inv : UnitSetting → UnitWorld → Type 0
Inv s w = Invariant s w.now w.log w.a w.b

each_keeps : (s : UnitSetting) (w : UnitWorld) (e : UnitEvent) → Inv s w → IsAllowed s w e → Inv s (next s w e)
each_keeps s w (Grants Primary reading valid out_end holder) k ok =
    (moves Primary s w.b).grants w.now w.log w.a k reading valid out_end holder ok.0.0 ok.0.1 ok.1 ok.2 ok.3 ok.4
each_keeps s w (Grants Secondary reading valid out_end holder) k ok =
    (moves Secondary s w.a).grants w.now w.log w.b k reading valid out_end holder ok.0.0 ok.0.1 ok.1 ok.2 ok.3 ok.4
each_keeps s w (Releases Primary holder) k ok = (moves Primary s w.b).releases w.now w.log w.a k holder ok
each_keeps s w (Releases Secondary holder) k ok = (moves Secondary s w.a).releases w.now w.log w.b k holder ok
each_keeps s w (Expires Primary reading) k ok = (moves Primary s w.b).expires w.now w.log w.a k reading ok.0.0 ok.1 ok.2
each_keeps s w (Expires Secondary reading) k ok =
    (moves Secondary s w.a).expires w.now w.log w.b k reading ok.0.0 ok.1 ok.2
each_keeps s w MovesToBackup k ok = (moves Primary s w.b).moves w.now w.log w.a k refl ok
each_keeps s w Reclaims k ok = (moves Primary s w.b).reclaims w.now w.log w.a k refl ok
each_keeps s w (SendsUpdate Primary u) k ok = (moves Primary s w.b).sends_update w.now w.log w.a k u ok
each_keeps s w (SendsUpdate Secondary u) k ok = (moves Secondary s w.a).sends_update w.now w.log w.b k u ok
each_keeps s w (SendsReply Primary r) k ok = (moves Primary s w.b).sends_reply w.now w.log w.a k r ok
each_keeps s w (SendsReply Secondary r) k ok = (moves Secondary s w.a).sends_reply w.now w.log w.b k r ok
each_keeps s w (SendsContact Primary c) k ok = (moves Primary s w.b).says w.now w.log w.a k c ok
each_keeps s w (SendsContact Secondary c) k ok = (moves Secondary s w.a).says w.now w.log w.b k c ok
each_keeps s w (TakesUpdate Primary reading u) k ok =
    (moves Primary s w.b).takes w.now w.log w.a k reading u ok.0.0 ok.1
each_keeps s w (TakesUpdate Secondary reading u) k ok =
    (moves Secondary s w.a).takes w.now w.log w.b k reading u ok.0.0 ok.1
each_keeps s w (TakesReply Primary r) k ok = (moves Primary s w.b).takes_reply w.now w.log w.a k r ok
each_keeps s w (TakesReply Secondary r) k ok = (moves Secondary s w.a).takes_reply w.now w.log w.b k r ok
each_keeps s w (TakesContact Primary c) k ok = (moves Primary s w.b).takes_contact w.now w.log w.a k c ok
each_keeps s w (TakesContact Secondary c) k ok = (moves Secondary s w.a).takes_contact w.now w.log w.b k c ok
each_keeps s w (LearnsTerm Primary c) k ok = (moves Primary s w.b).learns w.now w.log w.a k c ok
each_keeps s w (LearnsTerm Secondary c) k ok = (moves Secondary s w.a).learns w.now w.log w.b k c ok
each_keeps s w (GoesDown Primary reading) k ok =
    (moves Primary s w.b).goes_down w.now w.log w.a k reading ok.0.1 ok.1 ok.2 ok.3
each_keeps s w (GoesDown Secondary reading) k ok =
    (moves Secondary s w.a).goes_down w.now w.log w.b k reading ok.0.1 ok.1 ok.2 ok.3
each_keeps s w (GoesUp Primary) k ok = (moves Primary s w.b).goes_up w.now w.log w.a k
each_keeps s w (GoesUp Secondary) k ok = (moves Secondary s w.a).goes_up w.now w.log w.b k
each_keeps s w (Seizes Primary reading) k ok =
    (moves Primary s w.b).seizes w.now w.log w.a k reading ok.0 ok.1.0 ok.2.0 ok.2.1 ok.2.2 ok.2.3
each_keeps s w (Seizes Secondary reading) k ok =
    (moves Secondary s w.a).seizes w.now w.log w.b k reading ok.0 ok.1.0 ok.2.0 ok.2.1 ok.2.2 ok.2.3
each_keeps s w (Stops Primary) k ok = (moves Primary s w.b).stops w.now w.log w.a k
each_keeps s w (Stops Secondary) k ok = (moves Secondary s w.a).stops w.now w.log w.b k
each_keeps s w (Restarts Primary) k ok = (moves Primary s w.b).restarts w.now w.log w.a k
each_keeps s w (Restarts Secondary) k ok = (moves Secondary s w.a).restarts w.now w.log w.b k
each_keeps s w (Passes n) k ok = record { kept = passes s w.now w.log w.a w.b n k.kept; alone = k.alone }

all_keep : (s : UnitSetting) (es : List UnitEvent) (w : UnitWorld) → Inv s w → MayHappen s w es
    → Inv s (world_after s w es)
all_keep s [] w inv run = inv
all_keep s (e ∷ es) w inv run = all_keep s es (next s w e) (each_keeps s w e inv run.0) run.1

pub one_holder : OneHolder
one_holder s es run m j k h h' = (all_keep s es start (at_start s) run).alone m j k h h'

laws : (s : UnitSetting) (w : UnitWorld) (side : Role) → PairKept s w.now w.log w.a w.b
    → PartnerWaits (server side w) (server (partner_of side) w)
    × IsAckTold side (server side w) (server (partner_of side) w) × EndsInTime s side w
laws s w Primary kept = (
  kept.servers.there.law,
  ack_told Primary s w.now w.log w.a w.b kept,
  in_time Primary s w.now w.log w.a w.b kept,
)
laws s w Secondary kept = (
  kept.servers.back.law,
  ack_told Secondary s w.now w.log w.b w.a kept,
  in_time Secondary s w.now w.log w.b w.a kept,
)

pub partner_down_laws : PartnerDownLaws
partner_down_laws s es run side = laws s (world_after s start es) side (all_keep s es start (at_start s) run).kept
