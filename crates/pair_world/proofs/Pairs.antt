-- What is known at each prefix of what a run leads to, and that each line of either side keeps it.
use Rattle.std.specs.Prelude.{◌∷◌, ◌++◌, [], ◌≡◌, ◌+◌, ◌≤◌, ◌&&◌, ◌==◌, if◌then◌else◌, Bool, List, false, nat_lt, true}
use Rattle.std.specs.Prelude.{ℕ}
use Rattle.std.proofs.Common.{ap, ◌∙◌, refl, subst, sym}
use Rattle.pair_world.specs.UnitInRun.{entry_of, log_of, messages, sent_with, server_of}
use Rattle.prefix_range.specs.Prefix.{Prefix}
use Rattle.binding_rules.specs.declared.message.Body.{Body}
use Rattle.binding_rules.specs.declared.message.Body.TheVariants.{Contact as ContactBody, Reply as ReplyBody}
use Rattle.binding_rules.specs.declared.message.Body.TheVariants.{Update as UpdateBody}
use Rattle.binding_rules.specs.declared.message.ServerState.TheVariants.{Down, Interrupted, Normal}
use Rattle.binding_rules.specs.declared.message.PartnerMessage.{PartnerMessage}
use Rattle.binding_rules.specs.declared.role.Role.TheVariants.{Primary, Secondary}
use Rattle.binding_rules.specs.declared.role.Role.{Role}
use Rattle.journal_lines.specs.declared.event.Event.TheVariants.{Backup, Base, Carry, Close, Expire, Grant, Open}
use Rattle.journal_lines.specs.declared.event.Event.TheVariants.{Pool as PoolLine, Reclaim, Release, Restart, Seize}
use Rattle.journal_lines.specs.declared.event.Event.TheVariants.{Send, State, Take, Transit as TransitLine}
use Rattle.journal_lines.specs.declared.event.Event.TheVariants.{Unit as UnitLine}
use Rattle.journal_lines.specs.declared.event.Event.{Event}
use Rattle.journal_lines.specs.declared.line.Line.{Line}
use Rattle.book_state.specs.Book.{BookState, is_unit}
use Rattle.book_rules.specs.Rules.{IsStep}
use Rattle.book_state.specs.declared.pool.Pool.{Pool}
use Rattle.book_state.specs.Effects.{after, effect, learned, taken_body}
use Rattle.book_rules.specs.NextHead.{is_head}
use Rattle.pair_world.specs.UnitWorld.{Entry, Server, UnitSetting}
use Rattle.pair_world.proofs.BookSteps.{Agrees, IsDownFor, IsFed, MayWrite, step, stopped_after}
use Rattle.pair_world.proofs.Safety.{Invariant, KnownFrom, moves, passes}
use Rattle.pair_world.proofs.Sides.{KeptFrom}
use Rattle.pair_world.proofs.Traces.{book_in, book_on}
use Rattle.pair_world.proofs.Lists.{lines_same, lines_other, log_append, messages_append, own_side}
use Rattle.attribution.specs.Run.{Step, lines_of}
use Rattle.binding_rules.specs.Role.{is_side, partner_of}
use Rattle.pair_world.proofs.Effects.{by_test}

-- a line that is no head line changes none of the settings
pub record Settled (s : UnitSetting) (side : Role) (pools : List Pool) (b : BookState) : Type 0 where
  pub agrees : Agrees s side b
  pub pools_are : b.pools ≡ pools
  pub short : b.life ≤ 31536000

abbrev Alike : BookState → BookState → Type 0
Alike b x = (x.role ≡ b.role) × (x.skew ≡ b.skew) × (x.mclt ≡ b.mclt) × (x.transit ≡ b.transit) × (x.pools ≡ b.pools)
    × (x.life ≡ b.life)

like : (b : BookState) → Alike b b
like b = (refl, refl, refl, refl, refl, refl)

taken_like : (b : BookState) (reading : ℕ) (body : Body) → Alike b (taken_body b reading body)
taken_like b reading (UpdateBody u) = by_test (Alike b) (is_unit b.pools u.prefix) _ b
    (λ _. (refl, refl, refl, refl, refl, refl)) (λ _. like b)
taken_like b reading (ReplyBody r) = by_test (Alike b) (is_unit b.pools r.prefix) _ b
    (λ _. (refl, refl, refl, refl, refl, refl)) (λ _. like b)
taken_like b reading (ContactBody x y) = (refl, refl, refl, refl, refl, refl)

learned_like : (b : BookState) (term : ℕ) (body : Body) → Alike b (learned b term body)
learned_like b term (ContactBody x y) = (refl, refl, refl, refl, refl, refl)
learned_like b term (UpdateBody u) = like b
learned_like b term (ReplyBody r) = like b

sent_like : (b : BookState) (reading : ℕ) (m : PartnerMessage) (body : Body) → m.body ≡ body
    → Alike b (effect b reading (Send m))
sent_like b reading m (UpdateBody u) e = rw e (like b)
sent_like b reading m (ReplyBody r) e = rw e (like b)
sent_like b reading m (ContactBody x y) e = rw e (like b)

effect_like : (b : BookState) (reading : ℕ) (e : Event) → is_head e ≡ false → Alike b (effect b reading e)
effect_like b reading (Open x y z) body = absurd (cc)
effect_like b reading (PoolLine x y) body = absurd (cc)
effect_like b reading (TransitLine x) body = absurd (cc)
effect_like b reading (Base x) body = absurd (cc)
effect_like b reading (Carry x) body = absurd (cc)
effect_like b reading (UnitLine x) body = absurd (cc)
effect_like b reading (Grant g) body = like b
effect_like b reading (Release x y z) body = like b
effect_like b reading (Expire x) body = like b
effect_like b reading (Backup x) body = like b
effect_like b reading (Reclaim x) body = like b
effect_like b reading (Send m) body = sent_like b reading m m.body refl
effect_like b reading (Take m) body =
    by_test (Alike b) (m.term == b.term) (taken_body b reading m.body) (if b.waiting
    && nat_lt b.term m.term then learned b m.term m.body else b)
    (λ _. taken_like b reading m.body) (λ _. by_test (Alike b) (b.waiting && nat_lt b.term m.term)
    (learned b m.term m.body) b (λ _. learned_like b m.term m.body) (λ _. like b))
effect_like b reading (State Normal) body = like b
effect_like b reading (State Interrupted) body = like b
effect_like b reading (State Down) body = like b
effect_like b reading (Seize x) body = like b
effect_like b reading (Restart x) body = like b
effect_like b reading Close body = like b

pub settled_after : (s : UnitSetting) (side : Role) (pools : List Pool) (b : BookState) (l : Line)
    → Settled s side pools b → is_head l.event ≡ false → Settled s side pools (after b l)
settled_after s side pools b l ok body =
    let x = effect_like b l.reading l.event body in
    let a = ok.agrees in
    record {
      agrees = record {
        side_is = x.0 ∙ a.side_is;
        skew_is = x.1 ∙ a.skew_is;
        mclt_is = x.2 ∙ a.mclt_is;
        transit_is =
            x.3 ∙ a.transit_is;
      };
      pools_are = x.4 ∙ ok.pools_are;
      short = let e = x.5 in let le = ok.short in subst (λ z. z ≤ 31536000) (sym e) le;
    }

-- what a run leads to at a unit of a server
abbrev pub server_in : Prefix → List Step → Role → (stopped : Bool) → Server
server_in p run side stopped = server_of p (book_in side run) (messages side run []) stopped

-- what is known at a unit
abbrev pub Known : UnitSetting → Prefix → (now : ℕ) → List Step → (stopped : Role → Bool) → Type 0
Known s p now run stopped = Invariant s now (log_of p run []) (server_in p run Primary (stopped Primary))
    (server_in p run Secondary (stopped Secondary))

-- the same seen from one side
turned_to : (side : Role) (s : UnitSetting) (now : ℕ) (log : List Entry) (servers : Role → Server)
    → Invariant s now log (servers Primary) (servers Secondary)
    → KnownFrom side s now log (servers side) (servers (partner_of side))
turned_to Primary s now log servers k = k
turned_to Secondary s now log servers k = k

turned_back : (side : Role) (s : UnitSetting) (now : ℕ) (log : List Entry) (servers : Role → Server)
    → KnownFrom side s now log (servers side) (servers (partner_of side))
    → Invariant s now log (servers Primary) (servers Secondary)
turned_back Primary s now log servers k = k
turned_back Secondary s now log servers k = k

pub known_of : (side : Role) (s : UnitSetting) (p : Prefix) (now : ℕ) (run : List Step) (stopped : Role → Bool)
    → Known s p now run stopped
    → KeptFrom side s now (log_of p run []) (server_in p run side (stopped side))
    (server_in p run (partner_of side) (stopped (partner_of side)))
known_of Primary s p now run stopped k = k.kept
known_of Secondary s p now run stopped k = k.kept

other_side : (side : Role) → is_side (partner_of side) side ≡ false
other_side Primary = refl
other_side Secondary = refl

-- a further line changes its side's book and messages, and not its partner's
module _ (run : List Step) (t : Step) where
  pub book_own : book_in t.side (run ++ t ∷ []) ≡ after (book_in t.side run) t.line
  book_own = book_on run t t.side ∙ ap (λ is. if is then after (book_in t.side run) t.line else book_in t.side run)
      (own_side t.side)

  pub book_other : book_in (partner_of t.side) (run ++ t ∷ []) ≡ book_in (partner_of t.side) run
  book_other = book_on run t (partner_of t.side)
      ∙ ap (λ is. if is then after (book_in (partner_of t.side) run) t.line else book_in (partner_of t.side) run)
      (other_side t.side)

  sent_own : messages t.side (run ++ t ∷ []) [] ≡ sent_with t.line.event (messages t.side run [])
  sent_own = messages_append t.side run t []
      ∙ ap (λ is. if is then sent_with t.line.event (messages t.side run []) else messages t.side run [])
      (own_side t.side)

  sent_other : messages (partner_of t.side) (run ++ t ∷ []) [] ≡ messages (partner_of t.side) run []
  sent_other = messages_append (partner_of t.side) run t []
      ∙ ap (λ is. if is then sent_with t.line.event (messages (partner_of t.side) run []) else messages
      (partner_of t.side) run []) (other_side t.side)

  pub own_lines : lines_of t.side (run ++ t ∷ []) ≡ lines_of t.side run ++ t.line ∷ []
  own_lines = lines_same t.side run t (own_side t.side)

  pub other_lines : lines_of (partner_of t.side) (run ++ t ∷ []) ≡ lines_of (partner_of t.side) run
  other_lines = lines_other (partner_of t.side) run t (other_side t.side)

  pub server_own : (p : Prefix) (stopped : Bool) → server_in p (run ++ t ∷ []) t.side stopped
      ≡ server_of p (after (book_in t.side run) t.line) (sent_with t.line.event (messages t.side run [])) stopped
  server_own p stopped = ap (λ b. server_of p b (messages t.side (run ++ t ∷ []) []) stopped) book_own
      ∙ ap (λ ms. server_of p (after (book_in t.side run) t.line) ms stopped) sent_own

  pub server_other : (p : Prefix) (stopped : Bool) → server_in p (run ++ t ∷ []) (partner_of t.side) stopped
      ≡ server_in p run (partner_of t.side) stopped
  server_other p stopped = ap (λ b. server_of p b (messages (partner_of t.side) (run ++ t ∷ []) []) stopped) book_other
      ∙ ap (λ ms. server_of p (book_in (partner_of t.side) run) ms stopped) sent_other

module _ (s : UnitSetting) (pools : List Pool) (p : Prefix) (unit : is_unit pools p ≡ true) (now : ℕ) (run : List Step)
    (stopped : Role → Bool) (known : Known s p now run stopped) (side : Role)
    (stopped' : Role → Bool) (others : stopped' (partner_of side) ≡ stopped (partner_of side)) where
  abbrev partner : Server
  partner = server_in p run (partner_of side) (stopped (partner_of side))

  here : KnownFrom side s now (log_of p run []) (server_in p run side (stopped side)) partner
  here = turned_to side s now (log_of p run []) (λ x. server_in p run x (stopped x)) known

  pub line : Settled s side pools (book_in side run) → (l : Line) → IsStep (book_in side run) l
      → is_head l.event ≡ false → l.reading ≤ now + s.skew → now ≤ l.reading + s.skew
      → MayWrite (stopped side) l.event → stopped' side ≡ stopped_after (stopped side) l.event
      → IsDownFor (stopped (partner_of side)) l.event → IsFed l.event (messages (partner_of side) run [])
      → Known s p now (run ++ record { side = side; moment = now; line = l } ∷ []) stopped'
  line ok l rules body near near' writes stop down fed =
      let t : Step = record { side = side; moment = now; line = l } in
      let k = step s p side (λ now log x. KnownFrom side s now log x partner) (messages (partner_of side) run [])
      (stopped (partner_of side)) (moves side s partner)
      (book_in side run) (messages side run []) (stopped side) ok.agrees
      (subst (λ z. is_unit z p ≡ true) (sym ok.pools_are) unit) (log_of p run []) now here l l.event refl rules
      body near near' writes down fed in
      let after_own = server_own run t p (stopped' side)
      ∙ ap (server_of p (after (book_in side run) l) (sent_with l.event (messages side run []))) stop in
      let after_other = server_other run t p (stopped' (partner_of side))
      ∙ ap (server_in p run (partner_of side)) others in
      turned_back side s now (log_of p (run ++ t ∷ []) []) (λ x. server_in p (run ++ t ∷ []) x (stopped' x))
      (subst (λ es. KnownFrom side s now es (server_in p (run ++ t ∷ []) side (stopped' side))
      (server_in p (run ++ t ∷ []) (partner_of side) (stopped' (partner_of side)))) (sym (log_append p run t []))
      (subst (λ z. KnownFrom side s now (entry_of p side now l.event (log_of p run [])) z
      (server_in p (run ++ t ∷ []) (partner_of side) (stopped' (partner_of side)))) (sym after_own)
      (subst (λ z. KnownFrom side s now (entry_of p side now l.event (log_of p run []))
      (server_of p (after (book_in side run) l) (sent_with l.event (messages side run []))
      (stopped_after (stopped side) l.event)) z) (sym after_other) k)))

  pub stop : stopped' side ≡ true → Known s p now run stopped'
  stop is =
      turned_back side s now (log_of p run []) (λ x. server_in p run x (stopped' x))
      (subst (λ z. KnownFrom side s now (log_of p run []) (server_in p run side z)
      (server_in p run (partner_of side) (stopped' (partner_of side)))) (sym is)
      (subst (λ z. KnownFrom side s now (log_of p run []) (server_in p run side true)
      (server_in p run (partner_of side) z)) (sym others)
      ((moves side s partner).stops now (log_of p run []) (server_in p run side (stopped side)) here)))

pub pass : (s : UnitSetting) (p : Prefix) (now : ℕ) (run : List Step) (stopped : Role → Bool)
    → Known s p now run stopped → (n : ℕ) → Known s p (now + n) run stopped
pass s p now run stopped known n = record {
  kept = passes s now (log_of p run []) _ _ n known.kept;
  alone =
      known.alone;
}
