-- Messages found line by line: what the lines that are left have yet to tell.
use Rattle.std.specs.Prelude.{◌≡◌, ◌≢◌, ℕ, ◌+◌, ◌-◌, ◌<◌, ◌≤◌, List, ◌∷◌, length, Some, None, slice_get, drop, get_or}
use Rattle.std.proofs.Common.{zero, suc, arith, refl, ap, subst, sym, ◌∙◌, drop-cons, add-one}
use Rattle.binding_rules.specs.declared.message.PartnerMessage.{PartnerMessage}
use Rattle.journal_lines.specs.declared.line.Line.{Line}
use Rattle.pair_world.specs.PairWorld.{message_in, with_sent, messages_of, IsNumbered, WasSent}

-- the message of number n in the lines is that of number left in the rest
pub record IsRest (ls : List Line) (n : ℕ) (rest : List Line) (left : ℕ) : Type 0 where
  pub into : (m : PartnerMessage) → IsNumbered ls n m → IsNumbered rest left m
  pub back : (m : PartnerMessage) → IsNumbered rest left m → IsNumbered ls n m

pub all_rest : (ls : List Line) (n : ℕ) → IsRest ls n ls n
all_rest ls n = record { into = λ m h. h; back = λ m h. h }

-- a message that was sent is sent by the rest
pub record IsSentLater (ls : List Line) (m : PartnerMessage) (rest : List Line) : Type 0 where
  pub into : WasSent ls m → WasSent rest m
  pub back : WasSent rest m → WasSent ls m

pub all_later : (ls : List Line) (m : PartnerMessage) → IsSentLater ls m ls
all_later ls m = record { into = λ h. h; back = λ h. h }

-- what the rest sends, past its first line
sends : (l : Line) (rest : List Line) (m : PartnerMessage) → message_in l.event ≡ Some m
    → messages_of (l ∷ rest) ≡ m ∷ messages_of rest
sends l rest m e = ap (λ o. with_sent o (messages_of rest)) e

silent : (l : Line) (rest : List Line) → message_in l.event ≡ None → messages_of (l ∷ rest) ≡ messages_of rest
silent l rest e = ap (λ o. with_sent o (messages_of rest)) e

head_numbered : (ms : List PartnerMessage) (m : PartnerMessage) → (1 ≤ 1) × (slice_get (m ∷ ms) (1 - 1) ≡ Some m)
head_numbered ms m = (omega arith, refl)

tail_get : (ms : List PartnerMessage) (x m : PartnerMessage) (n : ℕ) → 2 ≤ n
    → slice_get (x ∷ ms) (n - 1) ≡ slice_get ms (n - 1 - 1)
tail_get ms x m zero le = absurd (omega arith)
tail_get ms x m (suc zero) le = absurd (omega arith)
tail_get ms x m (suc (suc n)) le =
    let one : suc (suc n) - 1 ≡ suc n = omega arith in
    let two : suc (suc n) - 1 - 1 ≡ n = omega arith in
    ap (slice_get (x ∷ ms)) one ∙ ap (slice_get ms) (sym two)

-- the line at a place, before those behind it
pub line_there : (ls : List Line) (k : ℕ) (l : Line) → k < length ls → l ≡ get_or ls k l
    → drop k ls ≡ l ∷ drop (k + 1) ls
line_there ls k l lt is = rw add-one (drop-cons ls k l lt ∙ ap (λ z. z ∷ drop (suc k) ls) (sym is))

module _ (ls : List Line) (n k : ℕ) (l : Line) where
  abbrev rest : List Line
  rest = drop (k + 1) ls

  pub here_at : (m : PartnerMessage) (left : ℕ) → drop k ls ≡ l ∷ rest → message_in l.event ≡ Some m → left ≡ 1
      → IsRest ls n (drop k ls) left → IsNumbered ls n m
  here_at m left item is one h =
      h.back m (subst (λ z. IsNumbered z left m) (sym item)
      (subst (λ z. IsNumbered (l ∷ rest) z m) (sym one)
      (subst (λ ms. (1 ≤ 1) × (slice_get ms (1 - 1) ≡ Some m)) (sym (sends l rest m is))
      (head_numbered (messages_of rest) m))))

  -- a message of another number
  other_into : (x m : PartnerMessage) (left : ℕ) → message_in l.event ≡ Some x → left ≢ 1
      → IsNumbered (l ∷ rest) left m → IsNumbered rest (left - 1) m
  other_into x m left is ne h = (
    omega arith,
    sym (tail_get (messages_of rest) x m left (omega arith))
        ∙ (ap (λ ms. slice_get ms (left - 1)) (sym (sends l rest x is)) ∙ h.1),
  )

  other_back : (x m : PartnerMessage) (left : ℕ) → message_in l.event ≡ Some x → left ≢ 1
      → IsNumbered rest (left - 1) m → IsNumbered (l ∷ rest) left m
  other_back x m left is ne h = (
    omega arith,
    ap (λ ms. slice_get ms (left - 1)) (sends l rest x is)
        ∙ (tail_get (messages_of rest) x m left (omega arith) ∙ h.1),
  )

  pub past_other : (x : PartnerMessage) (left left' : ℕ) → drop k ls ≡ l ∷ rest → message_in l.event ≡ Some x
      → (left ≢ 1) × (left' ≡ left - 1) → IsRest ls n (drop k ls) left → IsRest ls n rest left'
  past_other x left left' item is was h = record {
    into = λ m found. subst (λ z. IsNumbered rest z m) (sym was.1)
        (other_into x m left is was.0 (subst (λ z. IsNumbered z left m) item (h.into m found)));
    back = λ m found. h.back m (subst (λ z. IsNumbered z left m) (sym item)
        (other_back x m left is was.0 (subst (λ z. IsNumbered rest z m) was.1 found)));
  }

  pub past_none : (left left' : ℕ) → drop k ls ≡ l ∷ rest → message_in l.event ≡ None → left' ≡ left
      → IsRest ls n (drop k ls) left → IsRest ls n rest left'
  past_none left left' item is same h = record {
    into = λ m found. subst (λ z. IsNumbered rest z m) (sym same)
        (subst (λ ms. (1 ≤ left) × (slice_get ms (left - 1) ≡ Some m)) (silent l rest is)
        (subst (λ z. IsNumbered z left m) item (h.into m found)));
    back = λ m found. h.back m (subst (λ z. IsNumbered z left m) (sym item)
        (subst (λ ms. (1 ≤ left) × (slice_get ms (left - 1) ≡ Some m)) (sym (silent l rest is))
        (subst (λ z. IsNumbered rest z m) same found)));
  }

module _ (ls : List Line) (m : PartnerMessage) (k : ℕ) (l : Line) where
  abbrev later : List Line
  later = drop (k + 1) ls

  pub sent_here : drop k ls ≡ l ∷ later → message_in l.event ≡ Some m → IsSentLater ls m (drop k ls) → WasSent ls m
  sent_here item is h =
      h.back (
        1,
        subst (λ z. IsNumbered z 1 m) (sym item)
            (subst (λ ms. (1 ≤ 1) × (slice_get ms (1 - 1) ≡ Some m)) (sym (sends l later m is))
            (head_numbered (messages_of later) m)),
      )

  -- what the line sends is another message
  another : (x : PartnerMessage) (n : ℕ) → message_in l.event ≡ Some x → (x ≡ m → ⊥) → IsNumbered (l ∷ later) n m
      → n ≢ 1
  another x n is ne h one =
      let here : slice_get (x ∷ messages_of later) (1 - 1) ≡ Some m =
      subst (λ z. slice_get (x ∷ messages_of later) (z - 1) ≡ Some m) one
      (ap (λ ms. slice_get ms (n - 1)) (sym (sends l later x is)) ∙ h.1) in
      let same : Some x ≡ Some m = here in
      ne (cc)

  pub past_another : (x : PartnerMessage) → drop k ls ≡ l ∷ later → message_in l.event ≡ Some x → (x ≡ m → ⊥)
      → IsSentLater ls m (drop k ls) → IsSentLater ls m later
  past_another x item is ne h = record {
    into = λ sent.
        let found = h.into sent in
        let at = subst (λ z. IsNumbered z found.0 m) item found.1 in
        (found.0 - 1, other_into ls 0 k l x m found.0 is (another x found.0 is ne at) at);
    back = λ found.
        let ne' : found.0 + 1 ≢ 1 = λ e. let one = found.1.0 in absurd (omega arith) in
        let less : found.0 + 1 - 1 ≡ found.0 = omega arith in
        h.back (
          found.0 + 1,
          subst (λ z. IsNumbered z (found.0 + 1) m) (sym item)
              (other_back ls 0 k l x m (found.0 + 1) is ne' (subst (λ z. IsNumbered later z m) (sym less) found.1)),
        );
  }

  pub past_silent : drop k ls ≡ l ∷ later → message_in l.event ≡ None → IsSentLater ls m (drop k ls)
      → IsSentLater ls m later
  past_silent item is h = record {
    into = λ sent. let found = h.into sent in (
      found.0,
      subst (λ ms. (1 ≤ found.0) × (slice_get ms (found.0 - 1) ≡ Some m)) (silent l later is)
          (subst (λ z. IsNumbered z found.0 m) item found.1),
    );
    back = λ found. h.back (
      found.0,
      subst (λ z. IsNumbered z found.0 m) (sym item)
          (subst (λ ms. (1 ≤ found.0) × (slice_get ms (found.0 - 1) ≡ Some m)) (sym (silent l later is)) found.1),
    );
  }
