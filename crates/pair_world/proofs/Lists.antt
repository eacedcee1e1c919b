-- Lists that grow at their end: steps by their place, lines of a side, messages and logs.
use Rattle.std.specs.Prelude.{◌≡◌, ◌-◌, ◌<◌, ◌⊎◌, ◌∷◌, ◌++◌, [], if◌then◌else◌, Bool, List, Some, false, filter, length}
use Rattle.std.specs.Prelude.{map, slice_get, true, ℕ}
use Rattle.std.proofs.Common.{◌∙◌, ap, arith, inl, inr, refl, subst, suc, zero}
use Rattle.pair_world.specs.UnitInRun.{entry_of, log_of, messages, sent_with}
use Rattle.prefix_range.specs.Prefix.{Prefix}
use Rattle.binding_rules.specs.declared.message.PartnerMessage.{PartnerMessage}
use Rattle.binding_rules.specs.declared.role.Role.TheVariants.{Primary, Secondary}
use Rattle.binding_rules.specs.declared.role.Role.{Role}
use Rattle.binding_rules.specs.Role.{is_side}
use Rattle.journal_lines.specs.declared.event.Event.TheVariants.{Backup, Base, Carry, Close, Expire, Grant, Open}
use Rattle.journal_lines.specs.declared.event.Event.TheVariants.{Pool as PoolLine, Reclaim, Release, Restart, Seize}
use Rattle.journal_lines.specs.declared.event.Event.TheVariants.{Send, State, Take, Transit as TransitLine}
use Rattle.journal_lines.specs.declared.event.Event.TheVariants.{Unit as UnitLine}
use Rattle.journal_lines.specs.declared.event.Event.{Event}
use Rattle.journal_lines.specs.declared.line.Line.{Line}
use Rattle.book_rules.specs.Volumes.{AreSteps, book_after}
use Rattle.book_state.specs.Book.{BookState}
use Rattle.book_rules.specs.Rules.{IsStep}
use Rattle.book_state.specs.Effects.{after}
use Rattle.attribution.specs.Run.{At, Step, lines_of}
use Rattle.pair_world.specs.UnitWorld.{Entry, IsIn}
use Rattle.pair_world.specs.PairWorld.{IsNumbered, message_in, messages_of, with_sent}
use Rattle.pair_world.proofs.Phases.{by_word}
use Rattle.pair_world.proofs.BookSteps.{step}

pub at_split : (xs : List Step) (t : Step) (i : ℕ) (s : Step) → At (xs ++ t ∷ []) i s
    → At xs i s ⊎ ((i ≡ length xs) × (t ≡ s))
at_split [] t zero s at = inr (refl, cc)
at_split [] t (suc i) s at = absurd (cc)
at_split (x ∷ xs) t zero s at = inl at
at_split (x ∷ xs) t (suc i) s at = by_word (at_split xs t i s at) (λ old. inl old) (λ e. inr (ap suc e.0, e.1))

pub at_append : (xs : List Step) (t : Step) (i : ℕ) (s : Step) → At xs i s → At (xs ++ t ∷ []) i s
at_append [] t i s at = absurd (cc)
at_append (x ∷ xs) t zero s at = at
at_append (x ∷ xs) t (suc i) s at = at_append xs t i s at

pub at_below : (xs : List Step) (i : ℕ) (s : Step) → At xs i s → i < length xs
at_below [] i s at = absurd (cc)
at_below (x ∷ xs) zero s at = omega arith
at_below (x ∷ xs) (suc i) s at = let h = at_below xs i s at in omega arith

pub in_get : {T : Type 0} (xs : List T) (i : ℕ) (x : T) → slice_get xs i ≡ Some x → IsIn xs x
in_get [] i x at = absurd (cc)
in_get (y ∷ ys) zero x at = inl (cc)
in_get (y ∷ ys) (suc i) x at = inr (in_get ys i x at)

-- the lines of a side
pub lines_same : (side : Role) (xs : List Step) (t : Step) → is_side side t.side ≡ true
    → lines_of side (xs ++ t ∷ []) ≡ lines_of side xs ++ t.line ∷ []
lines_same side [] t is = rw is refl
lines_same side (x ∷ xs) t is = by_side (is_side side x.side) (lines_same side xs t is) where
  by_side : (b : Bool) → lines_of side (xs ++ t ∷ []) ≡ lines_of side xs ++ t.line ∷ []
      → map (λ (s : Step). s.line) (if b then x ∷ filter (λ (s : Step). is_side side s.side) (xs ++ t ∷ []) else filter
      (λ (s : Step). is_side side s.side) (xs ++ t ∷ []))
      ≡ map (λ (s : Step). s.line) (if b then x ∷ filter (λ (s : Step). is_side side s.side) xs else filter
      (λ (s : Step). is_side side s.side) xs) ++ t.line ∷ []
  by_side true h = ap (λ ls. x.line ∷ ls) h
  by_side false h = h

pub lines_other : (side : Role) (xs : List Step) (t : Step) → is_side side t.side ≡ false
    → lines_of side (xs ++ t ∷ []) ≡ lines_of side xs
lines_other side [] t is = rw is refl
lines_other side (x ∷ xs) t is = by_side (is_side side x.side) (lines_other side xs t is) where
  by_side : (b : Bool) → lines_of side (xs ++ t ∷ []) ≡ lines_of side xs
      → map (λ (s : Step). s.line) (if b then x ∷ filter (λ (s : Step). is_side side s.side) (xs ++ t ∷ []) else filter
      (λ (s : Step). is_side side s.side) (xs ++ t ∷ []))
      ≡ map (λ (s : Step). s.line) (if b then x ∷ filter (λ (s : Step). is_side side s.side) xs else filter
      (λ (s : Step). is_side side s.side) xs)
  by_side true h = ap (λ ls. x.line ∷ ls) h
  by_side false h = h

pub steps_append : (b : BookState) (ls : List Line) (l : Line) → AreSteps b ls → IsStep (book_after b ls) l
    → AreSteps b (ls ++ l ∷ [])
steps_append b [] l h step = (step, omega arith)
steps_append b (x ∷ xs) l h step = (h.0, steps_append (after b x) xs l h.1 step)

pub book_append : (b : BookState) (ls : List Line) (l : Line) → book_after b (ls ++ l ∷ []) ≡ after (book_after b ls) l
book_append b [] l = refl
book_append b (x ∷ xs) l = book_append (after b x) xs l

pub log_append : (p : Prefix) (xs : List Step) (t : Step) (log : List Entry)
    → log_of p (xs ++ t ∷ []) log ≡ entry_of p t.side t.moment t.line.event (log_of p xs log)
log_append p [] t log = refl
log_append p (x ∷ xs) t log = log_append p xs t (entry_of p x.side x.moment x.line.event log)

pub messages_append : (side : Role) (xs : List Step) (t : Step) (ms : List PartnerMessage)
    → messages side (xs ++ t ∷ []) ms ≡ (if is_side side t.side then sent_with t.line.event
    (messages side xs ms) else messages side xs ms)
messages_append side [] t ms = refl
messages_append side (x ∷ xs) t ms = messages_append side xs t
    (if is_side side x.side then sent_with x.line.event ms else ms)

in_sent : (e : Event) (ms : List PartnerMessage) (m : PartnerMessage) → IsIn ms m → IsIn (sent_with e ms) m
in_sent (Send x) ms m h = inr h
in_sent (Open x y z) ms m h = h
in_sent (Take x) ms m h = h
in_sent (PoolLine x y) ms m h = h
in_sent (TransitLine x) ms m h = h
in_sent (Base x) ms m h = h
in_sent (Carry x) ms m h = h
in_sent (UnitLine x) ms m h = h
in_sent (Grant g) ms m h = h
in_sent (Release x y z) ms m h = h
in_sent (Expire x) ms m h = h
in_sent (Backup x) ms m h = h
in_sent (Reclaim x) ms m h = h
in_sent (State x) ms m h = h
in_sent (Seize x) ms m h = h
in_sent (Restart x) ms m h = h
in_sent Close ms m h = h

in_letters : (side : Role) (xs : List Step) (ms : List PartnerMessage) (m : PartnerMessage) → IsIn ms m
    → IsIn (messages side xs ms) m
in_letters side [] ms m h = h
in_letters side (x ∷ xs) ms m h = in_letters side xs (if is_side side x.side then sent_with x.line.event ms else ms) m
    (by_side (is_side side x.side)) where
      by_side : (b : Bool) → IsIn (if b then sent_with x.line.event ms else ms) m
      by_side true = in_sent x.line.event ms m h
      by_side false = h

-- the first message of a step, or a later one
abbrev IsOrIn : Event → List PartnerMessage → PartnerMessage → Type 0
IsOrIn e ms m = (e ≡ Send m) ⊎ IsIn ms m

first_or : (e : Event) (ms : List PartnerMessage) (m : PartnerMessage) → IsIn (with_sent (message_in e) ms) m
    → IsOrIn e ms m
first_or (Send x) ms m (inl e) = inl (ap Send e)
first_or (Send x) ms m (inr h) = inr h
first_or (Open x y z) ms m h = inr h
first_or (Take x) ms m h = inr h
first_or (PoolLine x y) ms m h = inr h
first_or (TransitLine x) ms m h = inr h
first_or (Base x) ms m h = inr h
first_or (Carry x) ms m h = inr h
first_or (UnitLine x) ms m h = inr h
first_or (Grant g) ms m h = inr h
first_or (Release x y z) ms m h = inr h
first_or (Expire x) ms m h = inr h
first_or (Backup x) ms m h = inr h
first_or (Reclaim x) ms m h = inr h
first_or (State x) ms m h = inr h
first_or (Seize x) ms m h = inr h
first_or (Restart x) ms m h = inr h
first_or Close ms m h = inr h

now_sent : (e : Event) (ms : List PartnerMessage) (m : PartnerMessage) → e ≡ Send m → IsIn (sent_with e ms) m
now_sent e ms m is = rw is (inl refl)

-- the messages among a side's lines are those of its steps
abbrev sent_by : Role → List Step → List PartnerMessage
sent_by side [] = []
sent_by side (s ∷ ss) = if is_side side s.side then with_sent (message_in s.line.event)
    (sent_by side ss) else sent_by side ss

messages_are : (side : Role) (xs : List Step) → messages_of (lines_of side xs) ≡ sent_by side xs
messages_are side [] = refl
messages_are side (x ∷ xs) = by_side (is_side side x.side) (messages_are side xs) where
  by_side : (b : Bool) → messages_of (lines_of side xs) ≡ sent_by side xs
      → messages_of (map (λ (s : Step). s.line)
      (if b then x ∷ filter (λ (s : Step). is_side side s.side) xs else filter
      (λ (s : Step). is_side side s.side) xs))
      ≡ (if b then with_sent (message_in x.line.event) (sent_by side xs) else sent_by side xs)
  by_side true h = ap (with_sent (message_in x.line.event)) h
  by_side false h = h

sent_in : (side : Role) (xs : List Step) (ms : List PartnerMessage) (m : PartnerMessage) → IsIn (sent_by side xs) m
    → IsIn (messages side xs ms) m
sent_in side [] ms m h = absurd h
sent_in side (x ∷ xs) ms m h = by_side (is_side side x.side) (λ ms'. sent_in side xs ms' m) h where
  by_side : (b : Bool) → ((ms' : List PartnerMessage) → IsIn (sent_by side xs) m → IsIn (messages side xs ms') m)
      → IsIn (if b then with_sent (message_in x.line.event) (sent_by side xs) else sent_by side xs) m
      → IsIn (messages side xs (if b then sent_with x.line.event ms else ms)) m
  by_side false rest h = rest ms h
  by_side true rest h = by_word (first_or x.line.event (sent_by side xs) m h)
      (λ is. in_letters side xs (sent_with x.line.event ms) m (now_sent x.line.event ms m is))
      (λ later. rest (sent_with x.line.event ms) later)

pub side_same : (x y : Role) → is_side x y ≡ true → y ≡ x
side_same Primary Primary h = refl
side_same Secondary Secondary h = refl
side_same Primary Secondary h = absurd (cc)
side_same Secondary Primary h = absurd (cc)

-- what was sent was sent by a step
abbrev pub IsSentAt : Role → List Step → PartnerMessage → Type 0
IsSentAt side xs m = (j : ℕ) × (t : Step) × At xs j t × (t.side ≡ side) × (t.line.event ≡ Send m)

sent_at : (side : Role) (xs : List Step) (m : PartnerMessage) → IsIn (sent_by side xs) m → IsSentAt side xs m
sent_at side [] m h = absurd h
sent_at side (x ∷ xs) m h = by_side (is_side side x.side) refl (λ h'. sent_at side xs m h') h where
  later : IsSentAt side xs m → IsSentAt side (x ∷ xs) m
  later r = (suc r.0, r.1, r.2, r.3, r.4)

  by_side : (b : Bool) → is_side side x.side ≡ b → (IsIn (sent_by side xs) m → IsSentAt side xs m)
      → IsIn (if b then with_sent (message_in x.line.event) (sent_by side xs) else sent_by side xs) m
      → IsSentAt side (x ∷ xs) m
  by_side false e rest h = later (rest h)
  by_side true e rest h = by_word (first_or x.line.event (sent_by side xs) m h)
      (λ is. (zero, x, refl, side_same side x.side e, is)) (λ h'. later (rest h'))

-- a message of a side, by its number
pub numbered_in : (side : Role) (xs : List Step) (ls : List Line) (n : ℕ) (m : PartnerMessage) → ls ≡ lines_of side xs
    → IsNumbered ls n m → IsIn (messages side xs []) m
numbered_in side xs ls n m is h = sent_in side xs [] m
    (subst (λ z. IsIn z m) (ap messages_of is ∙ messages_are side xs) (in_get (messages_of ls) (n - 1) m h.1))

pub numbered_at : (side : Role) (xs : List Step) (ls : List Line) (n : ℕ) (m : PartnerMessage) → ls ≡ lines_of side xs
    → IsNumbered ls n m → IsSentAt side xs m
numbered_at side xs ls n m is h = sent_at side xs m
    (subst (λ z. IsIn z m) (ap messages_of is ∙ messages_are side xs) (in_get (messages_of ls) (n - 1) m h.1))

pub own_side : (side : Role) → is_side side side ≡ true
own_side Primary = refl
own_side Secondary = refl

-- the lines of a side in two runs, one behind the other
pub lines_append : (side : Role) (xs ys : List Step) → lines_of side (xs ++ ys) ≡ lines_of side xs ++ lines_of side ys
lines_append side [] ys = refl
lines_append side (x ∷ xs) ys = by_side (is_side side x.side) (lines_append side xs ys) where
  by_side : (b : Bool) → lines_of side (xs ++ ys) ≡ lines_of side xs ++ lines_of side ys
      → map (λ (s : Step). s.line) (if b then x ∷ filter (λ (s : Step). is_side side s.side) (xs ++ ys) else filter
      (λ (s : Step). is_side side s.side) (xs ++ ys))
      ≡ map (λ (s : Step). s.line) (if b then x ∷ filter (λ (s : Step). is_side side s.side) xs else filter
      (λ (s : Step). is_side side s.side) xs) ++ lines_of side ys
  by_side true h = ap (λ ls. x.line ∷ ls) h
  by_side false h = h
