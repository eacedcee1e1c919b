-- The first lines of a legal volume say its settings, and no later one changes them.
use Rattle.std.proofs.Common.{◌≡◌, ℕ, ◌+◌, ◌<◌, ◌≤◌, List, [], ◌∷◌, drop, get_or, length, ap, sym, ◌∙◌, subst}
use Rattle.std.proofs.Common.{refl, arith, add-one, drop-cons}
use Rattle.std.specs.Prelude.{suc, ⊤, Bool, true, false, ◌==◌, ◌&&◌, nat_lt, if◌then◌else◌}
use Rattle.std.proofs.lemmas.List.{drop_all}
use Rattle.binding_rules.specs.declared.role.Role.{Role}
use Rattle.binding_rules.specs.declared.message.Body.{Body}
use Rattle.binding_rules.specs.declared.message.Body.TheVariants.{Update, Reply, Contact}
use Rattle.binding_rules.specs.declared.message.PartnerMessage.{PartnerMessage}
use Rattle.binding_rules.specs.declared.message.ServerState.TheVariants.{Normal, Interrupted, Down}
use Rattle.journal_lines.specs.declared.event.Event.{Event}
use Rattle.journal_lines.specs.declared.event.Event.TheVariants.{Open, Pool as PoolLine, Transit as TransitLine}
use Rattle.journal_lines.specs.declared.event.Event.TheVariants.{Send, Take, State}
use Rattle.journal_lines.specs.declared.line.Line.{Line}
use Rattle.journal_lines.specs.declared.line.Journal.{Journal}
use Rattle.journal_lines.specs.Head.{volume_number}
use Rattle.book_state.specs.declared.place.Place.{Place}
use Rattle.book_state.specs.declared.place.Place.TheVariants.{AtPools}
use Rattle.book_state.specs.Book.{BookState, blank, is_unit}
use Rattle.book_state.specs.Effects.{effect, after, place_of, taken_body, learned}
use Rattle.book_rules.specs.declared.rule.Rule.TheVariants.{Sequence, Opening, Pools}
use Rattle.book_rules.specs.declared.rule.Rule.TheVariants.{Transit as TransitRule}
use Rattle.book_rules.specs.VolumeRules.{KeepsOpening, KeepsPools, KeepsTransit}
use Rattle.book_rules.specs.Volumes.{AreSteps, book_after}
use Rattle.order_book.specs.Replayed.{IsLegal}
use Rattle.server_start.specs.Opening.{Opened, said_by, opened}
use Rattle.server_start.specs.FirstLines.{is_setting, with_event, with_lines}

module _ (role : Role) where
  chosen : (t : Bool) (x y b : BookState) → said_by role x ≡ said_by role b → said_by role y ≡ said_by role b
      → said_by role (if t then x else y) ≡ said_by role b
  chosen true x y b h g = h
  chosen false x y b h g = g

  body_says : (b : BookState) (now : ℕ) (body : Body) → said_by role (taken_body b now body) ≡ said_by role b
  body_says b now (Update u) = chosen (is_unit b.pools u.prefix) _ b b refl refl
  body_says b now (Reply r) = chosen (is_unit b.pools r.prefix) _ b b refl refl
  body_says b now (Contact ask answer) = refl

  learned_says : (b : BookState) (term : ℕ) (body : Body) → said_by role (learned b term body) ≡ said_by role b
  learned_says b term (Update u) = refl
  learned_says b term (Reply r) = refl
  learned_says b term (Contact ask answer) = refl

  sent_says : (b : BookState) (now : ℕ) (m : PartnerMessage) (body : Body) → m.body ≡ body
      → said_by role (effect b now (Send m)) ≡ said_by role b
  sent_says b now m (Update u) e = rw e refl
  sent_says b now m (Reply r) e = rw e refl
  sent_says b now m (Contact ask answer) e = rw e refl

  -- what an event makes of the settings is what it says of them
  effect_says : (b : BookState) (now : ℕ) (e : Event) → said_by role (effect b now e) ≡ with_event (said_by role b) e
  effect_says b now (Send m) = sent_says b now m m.body refl
  effect_says b now (Take m) =
      chosen (m.term == b.term) (taken_body b now m.body) _ b (body_says b now m.body)
      (chosen (b.waiting && nat_lt b.term m.term) (learned b m.term m.body) b b (learned_says b m.term m.body) refl)
  effect_says b now (State Normal) = refl
  effect_says b now (State Interrupted) = refl
  effect_says b now (State Down) = refl
  effect_says b now _ = refl

  says_nothing : (o : Opened) (e : Event) → is_setting e ≡ false → with_event o e ≡ o
  says_nothing o (Open x y z) f = absurd (cc)
  says_nothing o (PoolLine p u) f = absurd (cc)
  says_nothing o (TransitLine d) f = absurd (cc)
  says_nothing o _ f = refl

  -- past the pools and the transit line
  AreLeft : Place → Type 0
  AreLeft AtPools = ⊥
  AreLeft _ = ⊤

  left_by : (e : Event) → is_setting e ≡ false → AreLeft (place_of e)
  unfolding AreLeft
  left_by (Open x y z) f = absurd (cc)
  left_by (PoolLine p u) f = absurd (cc)
  left_by (TransitLine d) f = absurd (cc)
  left_by _ f = tt

  none_later : (b : BookState) (e : Event) → AreLeft b.place → 0 < b.count → KeepsOpening b e → KeepsPools b e
      → KeepsTransit b e → is_setting e ≡ false
  unfolding AreLeft
  none_later b (Open x y z) left some two three nineteen = let c = two.0 in absurd (omega arith)
  none_later b (PoolLine p u) left some two three nineteen = absurd (subst AreLeft three.0 left)
  none_later b (TransitLine d) left some two three nineteen = absurd (subst AreLeft nineteen left)
  none_later b _ left some two three nineteen = refl

  stays : (ls : List Line) (b : BookState) → AreSteps b ls → AreLeft b.place → 0 < b.count
      → said_by role (book_after b ls) ≡ said_by role b
  stays [] b steps left some = refl
  stays (y ∷ ys) b steps left some =
      let none = none_later b y.event left some (steps.0 Opening) (steps.0 Pools) (steps.0 TransitRule) in
      let n = (steps.0 Sequence).number in
      stays ys (after b y) steps.1 (left_by y.event none) (omega arith)
      ∙ (effect_says b y.reading y.event ∙ says_nothing (said_by role b) y.event none)

  pub first_lines_say : (ls : List Line) (b : BookState) → AreSteps b ls
      → with_lines (said_by role b) ls ≡ said_by role (book_after b ls)
  first_lines_say [] b steps = refl
  first_lines_say (y ∷ ys) b steps = by (is_setting y.event) refl (first_lines_say ys (after b y) steps.1) where
    by : (t : Bool) → is_setting y.event ≡ t
        → with_lines (said_by role (after b y)) ys ≡ said_by role (book_after (after b y) ys)
        → with_lines (said_by role b) (y ∷ ys) ≡ said_by role (book_after (after b y) ys)
    by true e more = rw e (ap (λ (o : Opened). with_lines o ys) (sym (effect_says b y.reading y.event)) ∙ more)
    by false e more =
        let n = (steps.0 Sequence).number in
        rw e (sym (stays ys (after b y) steps.1 (left_by y.event e) (omega arith)
        ∙ (effect_says b y.reading y.event ∙ says_nothing (said_by role b) y.event e)))

-- ---- a walk over the lines

module _ (o : Opened) (ls : List Line) (i : ℕ) (l : Line) (lt : i < length ls) (is : l ≡ get_or ls i l) where
  next : drop i ls ≡ l ∷ drop (i + 1) ls
  next = drop-cons ls i l lt ∙ (ap (λ (k : Line). k ∷ drop (suc i) ls) (sym is)
      ∙ ap (λ (n : ℕ). l ∷ drop n ls) (sym (add-one i)))

  pub says_no_more : is_setting l.event ≡ false → with_lines o (drop i ls) ≡ o
  says_no_more e = rw (next, e) refl

pub all_said : (o : Opened) (ls : List Line) (i : ℕ) → length ls ≤ i → with_lines o (drop i ls) ≡ o
all_said o ls i le = ap (with_lines o) (drop_all i ls le)

-- what a walk from nothing comes to is what the book was opened with
pub opened_by : (j : Journal) → IsLegal j → with_lines (said_by j.role (blank j.role 1)) j.lines ≡ opened j
opened_by j legal = first_lines_say j.role j.lines (blank j.role (volume_number j.head)) legal

-- a walk that stops where nothing more is said has come to it
pub stops_at : (j : Journal) (ls : List Line) (i : ℕ) (role : Role) (o none : Opened) → ls ≡ j.lines → IsLegal j
    → role ≡ j.role → none ≡ said_by role (blank role 1) → with_lines o (drop i ls) ≡ with_lines none ls
    → with_lines o (drop i ls) ≡ o → o ≡ opened j
stops_at j ls i role o none are legal its is walked stop =
    sym stop ∙ (walked ∙ (ap (λ (x : Opened). with_lines x ls) (is ∙ ap (λ (r : Role). said_by r (blank r 1)) its)
    ∙ (ap (with_lines (said_by j.role (blank j.role 1))) are ∙ opened_by j legal)))
