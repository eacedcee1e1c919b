-- The two servers apart from the unit: who is stopped, waits, or was asked and answered what.
use Rattle.std.specs.Prelude.{◌≡◌, ◌≢◌, ℕ, ◌+◌, ◌≤◌, ◌&&◌, ◌==◌, nat_le, true, false, List, ◌∷◌, Some, None}
use Rattle.std.proofs.Common.{arith, inl, inr, refl, ap, subst}
use Rattle.std.proofs.lemmas.Bool.{and_parts, eqb-true}
use Rattle.pair_world.specs.Kept.{Servers}
use Rattle.binding_rules.specs.declared.update.BindReply.{BindReply}
use Rattle.pair_world.specs.UnitWorld.{Contact, IsAlone, IsIn, MaySay, Server, asked_by, contacted}
use Rattle.binding_rules.specs.declared.unit.Unit.{Unit as UnitValue}
use Rattle.binding_rules.specs.declared.update.Update.{Update}
use Rattle.pair_world.proofs.Phases.{by_word}
use Rattle.pair_world.proofs.Effects.{by_test}

pub turned : (x y : Server) → Servers x y → Servers y x
turned x y h = record { there = h.back; back = h.there; one = λ p q. h.one q p }

module _ (x y : Server) (h : Servers x y) where
  -- a change of the unit that sets no mark
  pub off_less : (u : UnitValue) (us : List Update) (rs : List BindReply)
      → (IsAlone (record x { unit = u }) → IsAlone x) → Servers (record x { unit = u; updates = us; replies = rs }) y
  off_less u us rs less = record {
    there = record {
      law = λ off. h.there.law (less off);
      asked_low = h.there.asked_low;
      said_low = h.there.said_low;
      numbered = h.there.numbered;
    };
    back = record {
      law = h.back.law;
      asked_low = h.back.asked_low;
      said_low = h.back.said_low;
      numbered =
          h.back.numbered;
    };
    one = λ p q. h.one (less p) q;
  }

  pub goes_up : Servers (record x { down = None }) y
  goes_up = record {
    there = record {
      law = λ off. h.there.law (less off);
      asked_low = h.there.asked_low;
      said_low = h.there.said_low;
      numbered = h.there.numbered;
    };
    back = record {
      law = h.back.law;
      asked_low = h.back.asked_low;
      said_low = h.back.said_low;
      numbered =
          h.back.numbered;
    };
    one = λ p q. h.one (less p) q;
  } where
    less : IsAlone (record x { down = None }) → IsAlone x
    less (inl d) = let e = d.1 in absurd (cc)
    less (inr m) = inr m

  -- a server that runs and doesn't wait: the other isn't off
  pub other_on : x.waiting ≡ false → x.stopped ≡ false → IsAlone y → ⊥
  other_on w st off = by_word (h.back.law off) (λ e. absurd (cc)) (λ e. let z = e.0 in absurd (cc))

  pub goes_down : (reading : ℕ) → x.waiting ≡ false → x.stopped ≡ false → y.stopped ≡ true
      → Servers (record x { down = Some reading }) y
  goes_down reading w st stopped = record {
    there = record {
      law = λ off. inl stopped;
      asked_low = h.there.asked_low;
      said_low = h.there.said_low;
      numbered =
          h.there.numbered;
    };
    back = record {
      law = h.back.law;
      asked_low = h.back.asked_low;
      said_low = h.back.said_low;
      numbered =
          h.back.numbered;
    };
    one = λ p q. other_on w st q;
  }

  pub stops : Servers (record x { stopped = true }) y
  stops = record {
    there = record {
      law = h.there.law;
      asked_low = h.there.asked_low;
      said_low = h.there.said_low;
      numbered =
          h.there.numbered;
    };
    back = record {
      law = λ off. inl refl;
      asked_low = h.back.asked_low;
      said_low = h.back.said_low;
      numbered =
          h.back.numbered;
    };
    one = h.one;
  }

  pub restarts : Servers (record x { waiting = true; restart = x.restart + 1; stopped = false }) y
  restarts = record {
    there = record {
      law = h.there.law;
      asked_low = h.there.asked_low;
      said_low = λ c sent. let z = h.there.said_low c sent in (z.0, omega arith);
      numbered = h.there.numbered;
    };
    back = record {
      law = λ off. inr (refl, λ c sent is. let z = h.back.said_low c sent in absurd (omega arith));
      asked_low = let z = h.back.asked_low in omega arith;
      said_low = λ c sent. let z = h.back.said_low c sent in (omega arith, z.1);
      numbered = λ _. omega arith;
    };
    one = h.one;
  }

  asked_at_most : (c : Contact) → c.ask ≤ y.restart → asked_by c x.asked ≤ y.restart
  asked_at_most c le = by_test (λ z. z ≤ y.restart) (c.ask == 0) x.asked c.ask (λ _. h.there.asked_low) (λ _. le)

  pub takes_higher : (c : Contact) → IsIn y.contacts c → Servers (record x { asked = asked_by c x.asked }) y
  takes_higher c sent = record {
    there = record {
      law = h.there.law;
      asked_low = asked_at_most c (h.back.said_low c sent).1;
      said_low =
          h.there.said_low;
      numbered = h.there.numbered;
    };
    back = record {
      law = h.back.law;
      asked_low = h.back.asked_low;
      said_low = h.back.said_low;
      numbered =
          h.back.numbered;
    };
    one = h.one;
  }

  still_waits : (c : Contact) → x.waiting ≡ true → c.answer ≢ x.restart → (contacted c x).waiting ≡ true
  still_waits c w ne = by_test (λ z. z ≡ true) (nat_le 1 c.answer && (c.answer == x.restart)) false x.waiting
      (λ t. absurd (ne (eqb-true c.answer x.restart (and_parts (nat_le 1 c.answer) (c.answer == x.restart) t).1)))
      (λ _. w)

  waited : (c : Contact) → (contacted c x).waiting ≡ true → x.waiting ≡ true
  waited c = by_test (λ z. z ≡ true → x.waiting ≡ true) (nat_le 1 c.answer && (c.answer == x.restart)) false x.waiting
      (λ _ e. absurd (cc)) (λ _ e. e)

  pub takes_contact : (c : Contact) → IsIn y.contacts c → Servers (contacted c x) y
  takes_contact c sent = record {
    there = record {
      law = h.there.law;
      asked_low = asked_at_most c (h.back.said_low c sent).1;
      said_low =
          h.there.said_low;
      numbered = h.there.numbered;
    };
    back = record {
      law = λ off. by_word (h.back.law off) (λ st. inl st) (λ w. inr (still_waits c w.0 (w.1 c sent), w.1));
      asked_low = h.back.asked_low;
      said_low = h.back.said_low;
      numbered = λ w. h.back.numbered (waited c w);
    };
    one = h.one;
  }

  pub says : (c : Contact) → MaySay x c → Servers (record x { contacts = c ∷ x.contacts }) y
  says c may = record {
    there = record {
      law = λ off. by_word (h.there.law off) (λ st. inl st) (λ w. inr (w.0, unanswered off w.0 w.1));
      asked_low = h.there.asked_low;
      said_low = low;
      numbered = h.there.numbered;
    };
    back = record {
      law = h.back.law;
      asked_low = h.back.asked_low;
      said_low = h.back.said_low;
      numbered =
          h.back.numbered;
    };
    one = h.one;
  } where
    unanswered : IsAlone x → y.waiting ≡ true → ((d : Contact) → IsIn x.contacts d → d.answer ≢ y.restart)
        → (d : Contact) → IsIn (c ∷ x.contacts) d → d.answer ≢ y.restart
    unanswered off w none d (inr sent) = none d sent
    unanswered off w none d (inl same) = λ is. let one' = h.there.numbered w in
        by_word may.1 (λ zero'. let e : c.answer ≡ d.answer = ap (λ (z : Contact). z.answer) same in
        absurd (omega arith)) (λ on. on.0 off)

    low : (d : Contact) → IsIn (c ∷ x.contacts) d → (d.answer ≤ y.restart) × (d.ask ≤ x.restart)
    low d (inr sent) = h.there.said_low d sent
    low d (inl same) = subst (λ (z : Contact). (z.answer ≤ y.restart) × (z.ask ≤ x.restart)) same
        (by_word may.1 (λ zero'. omega arith) (λ on. let a = h.there.asked_low in let e = on.1 in omega arith), may.0)
