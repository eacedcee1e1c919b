-- The messages that receipts take.
use Rattle.std.specs.Prelude.{◌≡◌, nat_lt, ℕ, Bool, true, false, None, List, [], ◌∷◌, ◌++◌, refl}
use Rattle.std.specs.Prelude.{cond}
use Rattle.std.specs.List.{cons_option}
use Rattle.std.proofs.Common.{ap, sym, ◌∙◌, subst}
use Rattle.std.proofs.lemmas.List.Elements.{filter_map-append}
use Rattle.binding_rules.specs.declared.message.PartnerMessage.{PartnerMessage}
use Rattle.journal_lines.specs.declared.event.Event.{Event}
use Rattle.journal_lines.specs.declared.event.Event.TheVariants.{Take}
use Rattle.locked_book.specs.declared.receipt.Receipt.{Receipt}
use Rattle.failover_session.specs.Receipts.{taken_by, taken_after, last_taken, IsNext, AreNext, take_in, taken_in, takes_of}
use Rattle.failover_session.specs.Receipts.{newer_from}

-- the serial of the last of the messages, or this one
abbrev last_of : ℕ → List PartnerMessage → ℕ
last_of last [] = last
last_of last (m ∷ ms) = last_of m.serial ms

event_last : (last : ℕ) (e : Event) (ms : List PartnerMessage)
    → last_of last (cons_option (take_in e) ms) ≡ last_of (taken_by last e) ms
event_last last (Take m) ms = refl
event_last last _ ms = refl

taken_last : (last : ℕ) (rs : List Receipt) → taken_after last rs ≡ last_of last (takes_of rs)
taken_last last [] = refl
taken_last last (r ∷ rs) =
    taken_last (taken_by last r.line.event) rs ∙ sym (event_last last r.line.event (takes_of rs))

pub taken_after-append : (last : ℕ) (xs ys : List Receipt) → taken_after last (xs ++ ys)
    ≡ taken_after (taken_after last xs) ys
taken_after-append last [] ys = refl
taken_after-append last (x ∷ xs) ys = taken_after-append (taken_by last x.line.event) xs ys

by_test : (last : ℕ) (m : PartnerMessage) (ms more : List PartnerMessage)
    → newer_from m.serial (ms ++ more)
    ≡ newer_from m.serial ms ++ newer_from (last_of m.serial (newer_from m.serial ms)) more
    → newer_from last (ms ++ more) ≡ newer_from last ms ++ newer_from (last_of last (newer_from last ms)) more
    → (t : Bool) → cond t (m ∷ newer_from m.serial (ms ++ more)) (newer_from last (ms ++ more))
    ≡ cond t (m ∷ newer_from m.serial ms) (newer_from last ms)
    ++ newer_from (last_of last (cond t (m ∷ newer_from m.serial ms) (newer_from last ms))) more
by_test last m ms more its old true = ap (λ xs. m ∷ xs) its
by_test last m ms more its old false = old

newer-append : (last : ℕ) (ms more : List PartnerMessage)
    → newer_from last (ms ++ more) ≡ newer_from last ms ++ newer_from (last_of last (newer_from last ms)) more
newer-append last [] more = refl
newer-append last (m ∷ ms) more =
    by_test last m ms more (newer-append m.serial ms more) (newer-append last ms more) (nat_lt last m.serial)

-- what is taken of more messages, behind receipts that took these
pub takes_more : (old first second : List Receipt) (heard more : List PartnerMessage)
    → takes_of first ≡ newer_from (last_taken old) heard
    → takes_of second ≡ newer_from (last_taken (old ++ first)) more
    → takes_of (first ++ second) ≡ newer_from (last_taken old) (heard ++ more)
takes_more old first second heard more one two =
    let last : last_taken (old ++ first) ≡ last_of (last_taken old) (newer_from (last_taken old) heard) =
    taken_after-append 0 old first
    ∙ (taken_last (last_taken old) first ∙ ap (λ ms. last_of (last_taken old) ms) one) in
    filter_map-append taken_in first second
    ∙ (ap (λ ms. ms ++ takes_of second) one
    ∙ (ap (λ ms. newer_from (last_taken old) heard ++ ms) (two ∙ ap (λ n. newer_from n more) last)
    ∙ sym (newer-append (last_taken old) heard more)))

-- what is taken behind receipts whose messages follow each other, follows them
next_more : (last : ℕ) (xs ys : List Receipt) → AreNext last xs → AreNext (taken_after last xs) ys
    → AreNext last (xs ++ ys)
next_more last [] ys h k = k
next_more last (x ∷ xs) ys h k = (h.0, next_more (taken_by last x.line.event) xs ys h.1 k)

pub next_on : (old all first second : List Receipt) → all ≡ old ++ first → AreNext (last_taken old) first
    → AreNext (last_taken all) second → AreNext (last_taken old) (first ++ second)
next_on old all first second added h k =
    let last : last_taken all ≡ taken_after (last_taken old) first =
    ap (λ rs. taken_after 0 rs) added ∙ taken_after-append 0 old first in
    next_more (last_taken old) first second h (subst (λ n. AreNext n second) last k)

-- a line that takes no message
pub other_next : (last : ℕ) (e : Event) → take_in e ≡ None → IsNext last e
other_next last (Take m) none = absurd cc
other_next last _ none = tt
