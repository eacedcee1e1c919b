-- Why an event is refused, where what comes before the book doesn't refuse it.
use Rattle.std.specs.Prelude.{◌≡◌, ◌<◌, ℕ, Bool, true, false, Result, Ok, Err, IfErr}
use Rattle.std.proofs.Common.{refl, arith}
use Rattle.binding_rules.specs.declared.role.Role.{Role}
use Rattle.binding_rules.specs.Role.{partner_of}
use Rattle.journal_lines.specs.declared.line.Line.{Line}
use Rattle.binding_rules.specs.declared.message.PartnerMessage.{PartnerMessage}
use Rattle.order_book.specs.declared.error.BookError.{BookError}
use Rattle.order_book.specs.declared.order.Order.{Order}
use Rattle.order_book.specs.declared.order.Order.TheVariants.{Take, Restart as RestartOrder}
use Rattle.order_book.specs.declared.reply.Reply.{Reply}
use Rattle.order_book.specs.Answer.{IsServed, IsAnswer, reply_to}
use Rattle.pair_world.specs.declared.error.WorldError.{WorldError}
use Rattle.pair_world.specs.declared.error.WorldError.TheVariants.{ClockOff, Stopped, Running, NoMessage, PartnerRuns}
use Rattle.pair_world.specs.declared.error.WorldError.TheVariants.{Book as OfBook, Memory}
use Rattle.pair_world.specs.declared.event.Event.{Event}
use Rattle.pair_world.specs.declared.event.Event.TheVariants.{Serve, Deliver, Restart}
use Rattle.pair_world.specs.PairWorld.{PairWorld, journal, book, is_stopped, with_stop, written, IsNear, IsNumbered}
use Rattle.pair_world.specs.PairWorld.{IsFedBy, IsDownAllowed, Fails, IsBookRefusal, rank, IsFirstFailure, IsRefused}
use Rattle.pair_world.specs.PairWorld.{ServerAnswers}

-- the book's refusal is the first where none of the others applies
first_of_book : (w : PairWorld) (e : Event) (b : BookError) → Fails w e (OfBook b) → (Fails w e ClockOff → ⊥)
    → (Fails w e Stopped → ⊥) → (Fails w e Running → ⊥) → (Fails w e NoMessage → ⊥) → (Fails w e PartnerRuns → ⊥)
    → IsFirstFailure w e (OfBook b)
first_of_book w e b fails near runs stops fed allowed = record { fails = fails; first = before } where
  before : (x : WorldError) → rank x < 6 → Fails w e x → ⊥
  before ClockOff lt h = near h
  before Stopped lt h = runs h
  before Running lt h = stops h
  before NoMessage lt h = fed h
  before PartnerRuns lt h = allowed h
  before (OfBook y) lt h = absurd (omega arith)
  before Memory lt h = absurd (omega arith)

-- what the order would be answered
answered : (w : PairWorld) (side : Role) (clock : ℕ) (order : Order) (l : Line) → IsNear w clock
    → IsServed (book side w) clock order l
    → ServerAnswers w side clock order l (reply_to (book side w) l.reading l.event)
answered w side clock order l near served = (near, record { line = served; told = refl })

both : (t : Bool) → t ≡ true → t ≡ false → ⊥
both t is isnt = absurd (cc)

pub serve_refused : (w v : PairWorld) (side : Role) (clock : ℕ) (order : Order) (r : Result Reply WorldError)
    → IsNear w clock → is_stopped side w ≡ false → IsFedBy (journal (partner_of side) w).lines order
    → IsDownAllowed (is_stopped (partner_of side) w) order
    → IfErr r (λ e. IsBookRefusal (book side w) clock order e × (v ≡ w))
    → IfErr r (λ e. IsRefused w (Serve side clock order) e × (v ≡ w))
serve_refused w v side clock order (Ok reply) near runs fed allowed h = tt
serve_refused w v side clock order (Err (OfBook b)) near runs fed allowed h = (
  first_of_book w (Serve side clock order) b h.0 (λ no. no near) (λ stopped. both _ stopped runs) (λ no. no)
      (λ no. no fed) (λ no. no allowed),
  h.1,
)
serve_refused w v side clock order (Err Memory) near runs fed allowed h =
    let l = h.0.0 in (
      (
        reply_to (book side w) l.reading l.event,
        written side w l,
        (runs, fed, allowed, (l, answered w side clock order l near h.0.1, refl)),
      ),
      h.1,
    )
serve_refused w v side clock order (Err ClockOff) near runs fed allowed h = absurd (h.0)
serve_refused w v side clock order (Err Stopped) near runs fed allowed h = absurd (h.0)
serve_refused w v side clock order (Err Running) near runs fed allowed h = absurd (h.0)
serve_refused w v side clock order (Err NoMessage) near runs fed allowed h = absurd (h.0)
serve_refused w v side clock order (Err PartnerRuns) near runs fed allowed h = absurd (h.0)

pub deliver_refused : (w v : PairWorld) (side : Role) (sent clock : ℕ) (m : PartnerMessage)
    (r : Result Reply WorldError) → IsNear w clock → is_stopped side w ≡ false
    → IsNumbered (journal (partner_of side) w).lines sent m
    → IfErr r (λ e. IsBookRefusal (book side w) clock (Take m) e × (v ≡ w))
    → IfErr r (λ e. IsRefused w (Deliver side sent clock) e × (v ≡ w))
deliver_refused w v side sent clock m (Ok reply) near runs numbered h = tt
deliver_refused w v side sent clock m (Err (OfBook b)) near runs numbered h = (
  first_of_book w (Deliver side sent clock) b (m, numbered, h.0) (λ no. no near) (λ stopped. both _ stopped runs)
      (λ no. no) (λ no. no m numbered) (λ no. no),
  h.1,
)
deliver_refused w v side sent clock m (Err Memory) near runs numbered h =
    let l = h.0.0 in (
      (
        reply_to (book side w) l.reading l.event,
        written side w l,
        (runs, (m, l, numbered, answered w side clock (Take m) l near h.0.1, refl)),
      ),
      h.1,
    )
deliver_refused w v side sent clock m (Err ClockOff) near runs numbered h = absurd (h.0)
deliver_refused w v side sent clock m (Err Stopped) near runs numbered h = absurd (h.0)
deliver_refused w v side sent clock m (Err Running) near runs numbered h = absurd (h.0)
deliver_refused w v side sent clock m (Err NoMessage) near runs numbered h = absurd (h.0)
deliver_refused w v side sent clock m (Err PartnerRuns) near runs numbered h = absurd (h.0)

pub restart_refused : (w v : PairWorld) (side : Role) (clock : ℕ) (e : WorldError) → IsNear w clock
    → is_stopped side w ≡ true → IsBookRefusal (book side w) clock RestartOrder e × (v ≡ w)
    → IsRefused w (Restart side clock) e × (v ≡ w)
restart_refused w v side clock (OfBook b) near stopped h = (
  first_of_book w (Restart side clock) b h.0 (λ no. no near) (λ no. no) (λ runs. both _ stopped runs) (λ no. no)
      (λ no. no),
  h.1,
)
restart_refused w v side clock Memory near stopped h =
    let l = h.0.0 in (
      (
        reply_to (book side w) l.reading l.event,
        with_stop side false (written side w l),
        (stopped, (l, answered w side clock RestartOrder l near h.0.1, refl)),
      ),
      h.1,
    )
restart_refused w v side clock ClockOff near stopped h = absurd (h.0)
restart_refused w v side clock Stopped near stopped h = absurd (h.0)
restart_refused w v side clock Running near stopped h = absurd (h.0)
restart_refused w v side clock NoMessage near stopped h = absurd (h.0)
restart_refused w v side clock PartnerRuns near stopped h = absurd (h.0)
