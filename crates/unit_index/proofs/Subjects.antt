-- An event changes the unit that it is about, and no other.
use Rattle.std.proofs.Common.{◌≡◌, ℕ, ◌&&◌, ◌==◌, Bool, true, false, ap, sym, subst, refl, Option, Some, None}
use Rattle.std.specs.Prelude.{if◌then◌else◌, nat_lt}
use Rattle.prefix_range.specs.Prefix.{Prefix}
use Rattle.binding_rules.specs.declared.unit.Unit.{Unit as UnitValue}
use Rattle.binding_rules.specs.declared.message.Body.{Body}
use Rattle.binding_rules.specs.declared.message.Body.TheVariants.{Update, Reply, Contact}
use Rattle.binding_rules.specs.declared.message.PartnerMessage.{PartnerMessage}
use Rattle.binding_rules.specs.declared.message.ServerState.TheVariants.{Normal, Interrupted, Down}
use Rattle.binding_rules.specs.Table.{after_update}
use Rattle.binding_rules.specs.Reply.{after_reply}
use Rattle.journal_lines.specs.declared.event.Event.{Event}
use Rattle.journal_lines.specs.declared.event.Event.TheVariants.{Open, Pool as PoolLine, Transit as TransitLine, Base}
use Rattle.journal_lines.specs.declared.event.Event.TheVariants.{Carry, Unit as UnitLine, Grant, Release, Expire}
use Rattle.journal_lines.specs.declared.event.Event.TheVariants.{Backup, Reclaim, Seize, Send, Take, State, Restart}
use Rattle.journal_lines.specs.declared.event.Event.TheVariants.{Close}
use Rattle.journal_lines.specs.declared.line.Line.{Line}
use Rattle.book_state.specs.Book.{BookState, is_unit}
use Rattle.book_state.specs.Effects.{effect, after, same_prefix, with_unit, sent, taken, taken_body, learned, or_as_was}
use Rattle.book_state.proofs.TableLaws.{same_means}
use Rattle.unit_index.specs.Subjects.{subject_of, subject_sent, subject_taken, IsAway, KeepsPools}
use Rattle.unit_index.specs.PoolTrees.{with_unit_at}

-- whose book it is, its pools, and a unit of it are as they were
pub record IsAsWas (b c : BookState) (q : Prefix) : Type 0 where
  pub role : c.role ≡ b.role
  pub pools : c.pools ≡ b.pools
  pub unit : c.units q ≡ b.units q

as_was : (b : BookState) (q : Prefix) → IsAsWas b b q
as_was b q = record { role = refl; pools = refl; unit = refl }

other : (t : Bool) (u v : UnitValue) → t ≡ false → (if t then u else v) ≡ v
other true u v e = absurd (cc)
other false u v e = refl

away : (b : BookState) (p q : Prefix) (u : UnitValue) → same_prefix q p ≡ false → IsAsWas b (with_unit b p u) q
away b p q u e = record { role = refl; pools = refl; unit = other (same_prefix q p) u (b.units q) e }

sent_away : (b : BookState) (m : Body) (q : Prefix) → IsAway (subject_sent m) q → IsAsWas b (sent b m) q
sent_away b (Update m) q e = as_was b q
sent_away b (Reply r) q e = away b r.prefix q (record (b.units r.prefix) { pending = None }) e
sent_away b (Contact ask answer) q e = as_was b q

body_away : (b : BookState) (now : ℕ) (m : Body) (q : Prefix) → IsAway (subject_taken m) q
    → IsAsWas b (taken_body b now m) q
body_away b now (Update m) q e = by_test (is_unit b.pools m.prefix) where
  by_test : (t : Bool)
      → IsAsWas b (if t then with_unit b m.prefix (after_update b.role (b.units m.prefix) now b.waiting m) else b) q
  by_test true = away b m.prefix q (after_update b.role (b.units m.prefix) now b.waiting m) e
  by_test false = as_was b q
body_away b now (Reply r) q e = by_test (is_unit b.pools r.prefix) where
  by_test : (t : Bool)
      → IsAsWas b (if t then with_unit b r.prefix (or_as_was (b.units r.prefix) (after_reply (b.units r.prefix) r))
      else b) q
  by_test true = away b r.prefix q (or_as_was (b.units r.prefix) (after_reply (b.units r.prefix) r)) e
  by_test false = as_was b q
body_away b now (Contact ask answer) q e = record { role = refl; pools = refl; unit = refl }

learned_away : (b : BookState) (term : ℕ) (m : Body) (q : Prefix) → IsAsWas b (learned b term m) q
learned_away b term (Update m) q = as_was b q
learned_away b term (Reply r) q = as_was b q
learned_away b term (Contact ask answer) q = record { role = refl; pools = refl; unit = refl }

taken_away : (b : BookState) (now : ℕ) (m : PartnerMessage) (q : Prefix) → IsAway (subject_taken m.body) q
    → IsAsWas b (taken b now m) q
taken_away b now m q e = by_tests (m.term == b.term) (b.waiting && nat_lt b.term m.term) where
  by_tests : (s t : Bool)
      → IsAsWas b (if s then taken_body b now m.body else (if t then learned b m.term m.body else b)) q
  by_tests true t = body_away b now m.body q e
  by_tests false true = learned_away b m.term m.body q
  by_tests false false = as_was b q

effect_away : (b : BookState) (now : ℕ) (e : Event) (q : Prefix) → KeepsPools e → IsAway (subject_of e) q
    → IsAsWas b (effect b now e) q
effect_away b now (Open skew mclt life) q keeps far = record { role = refl; pools = refl; unit = refl }
effect_away b now (PoolLine prefix unit) q keeps far = absurd keeps
effect_away b now (TransitLine d) q keeps far = record { role = refl; pools = refl; unit = refl }
effect_away b now (Base n) q keeps far = record { role = refl; pools = refl; unit = refl }
effect_away b now (Carry c) q keeps far = as_was b q
effect_away b now (UnitLine k) q keeps far = away b k.prefix q _ far
effect_away b now (Grant g) q keeps far = away b g.prefix q _ far
effect_away b now (Release client iaid prefix) q keeps far = away b prefix q _ far
effect_away b now (Expire prefix) q keeps far = away b prefix q _ far
effect_away b now (Backup prefix) q keeps far = away b prefix q _ far
effect_away b now (Reclaim prefix) q keeps far = away b prefix q _ far
effect_away b now (Seize prefix) q keeps far = away b prefix q _ far
effect_away b now (Send m) q keeps far = let s = sent_away b m.body q far in
    record { role = s.role; pools = s.pools; unit = s.unit }
effect_away b now (Take m) q keeps far = taken_away b now m q far
effect_away b now (State Normal) q keeps far = record { role = refl; pools = refl; unit = refl }
effect_away b now (State Interrupted) q keeps far = record { role = refl; pools = refl; unit = refl }
effect_away b now (State Down) q keeps far = record { role = refl; pools = refl; unit = refl }
effect_away b now (Restart n) q keeps far = record { role = refl; pools = refl; unit = refl }
effect_away b now Close q keeps far = as_was b q

pub after_away : (b c : BookState) (l : Line) (q : Prefix) → c ≡ after b l → KeepsPools l.event
    → IsAway (subject_of l.event) q → IsAsWas b c q
after_away b c l q is keeps far =
    let e = effect_away b l.reading l.event q keeps far in
    subst (λ (x : BookState). IsAsWas b x q) (sym is) (record { role = e.role; pools = e.pools; unit = e.unit })

-- the units behind a line are those before it, but for one
pub one_changes : (b c : BookState) (l : Line) (p : Prefix) → c ≡ after b l → KeepsPools l.event
    → subject_of l.event ≡ Some p → (q : Prefix)
    → c.units q ≡ with_unit_at b.units p (c.units p) q
one_changes b c l p is keeps about q = by_test (same_prefix q p) refl where
  by_test : (t : Bool) → same_prefix q p ≡ t → c.units q ≡ (if t then c.units p else b.units q)
  by_test true e = ap c.units (same_means q p e)
  by_test false e = let w = after_away b c l q is keeps (subst (λ (o : Option Prefix). IsAway o q) (sym about) e) in
      w.unit

pub none_changes : (b c : BookState) (l : Line) → c ≡ after b l → KeepsPools l.event → subject_of l.event ≡ None
    → (q : Prefix) → c.units q ≡ b.units q
none_changes b c l is keeps about q = let w =
    after_away b c l q is keeps (subst (λ (o : Option Prefix). IsAway o q) (sym about) tt) in w.unit
