-- An answer that is owed stays owed while the book grows.
use Rattle.std.proofs.Common.{◌≡◌, ℕ, List, [], ◌∷◌, ◌++◌, sym, ◌∙◌, ap, subst, append_assoc, append-nil, inl, inr}
use Rattle.std.specs.List.{AllByRecursion}
use Rattle.client_service.specs.declared.permit.Permit.{Permit}
use Rattle.dhcp6_pd.specs.declared.message.ClientMessage.{ClientMessage}
use Rattle.locked_book.specs.declared.receipt.Receipt.{Receipt}
use Rattle.client_service.specs.Answering.{AnswerTo}
use Rattle.client_service.specs.declared.partner_availability.PartnerAvailability.{PartnerAvailability}
use Rattle.server_core.specs.declared.committed_output.HeldAnswer.{HeldAnswer}
use Rattle.server_core.specs.Served.{ServedState, receipts_in}
use Rattle.server_core.specs.VolumeWriters.{WriterState, Grows}
use Rattle.client_service.specs.declared.terms.ReuseTerms.{ReuseTerms}
use Rattle.server_book.specs.declared.reply_policy.ReplyPolicy.{ReplyPolicy}
use Rattle.server_core.specs.Owing.{IsReplyOfReceipts, OwesLease, IsOwed}

pub stays_owed : {P : Type 0} (own : List ℕ) (t : ReuseTerms) (receipts more all : List Receipt) (a : AnswerTo P)
    → all ≡ receipts ++ more → IsOwed own t receipts a → IsOwed own t all a
stays_owed own t receipts more all a grows (inl o) = inl (record {
  partner = o.partner;
  manner = o.manner;
  message = o.message;
  permits = o.permits;
  read = o.read;
  had = o.had;
  has = o.has;
  later = o.later ++ more;
  told = o.told;
  first = grows ∙ ap (λ (rs : List Receipt). rs ++ more) o.first ∙ append_assoc o.has o.later more;
})
stays_owed own t receipts more all a grows (inr informs) = inr informs

-- all that are owed stay so
pub all_owed : {P : Type 0} (own : List ℕ) (t : ReuseTerms) (receipts more all : List Receipt) (held : List (HeldAnswer P))
    → all ≡ receipts ++ more → AllByRecursion (λ (h : HeldAnswer P). IsOwed own t receipts h.answer) held
    → AllByRecursion (λ (h : HeldAnswer P). IsOwed own t all h.answer) held
all_owed own t receipts more all [] grows owed = tt
all_owed own t receipts more all (h ∷ held) grows owed =
    (stays_owed own t receipts more all h.answer grows owed.0, all_owed own t receipts more all held grows owed.1)

-- and one more
pub one_more_owed : {P : Type 0} (own : List ℕ) (t : ReuseTerms) (receipts : List Receipt) (held : List (HeldAnswer P))
    (h : HeldAnswer P) → AllByRecursion (λ (x : HeldAnswer P). IsOwed own t receipts x.answer) held
    → IsOwed own t receipts h.answer
    → AllByRecursion (λ (x : HeldAnswer P). IsOwed own t receipts x.answer) (held ++ h ∷ [])
one_more_owed own t receipts [] h owed one = (one, tt)
one_more_owed own t receipts (x ∷ held) h owed one = (owed.0, one_more_owed own t receipts held h owed.1 one)

-- an answer that tells what was just added is owed
pub just_owed : {P : Type 0} (own : List ℕ) (t : ReuseTerms) (partner : PartnerAvailability) (manner : ReplyPolicy) (m : ClientMessage)
    (permits : List Permit) (read : ℕ) (had has : List Receipt) (a : AnswerTo P)
    → IsReplyOfReceipts partner t own manner m permits read had has a.octets a.line → IsOwed own t has a
just_owed own t partner manner m permits read had has a told = inl (record {
  partner = partner;
  manner = manner;
  message = m;
  permits = permits;
  read = read;
  had = had;
  has = has;
  later = [];
  told = told;
  first = sym (append-nil has);
})

-- where nothing was changed, no receipt was added
pub same_grows : (old new : WriterState) → new ≡ old → (added : List Receipt) × Grows old new added
same_grows old new same = (
  [],
  (
    ap (λ (s : WriterState). receipts_in s.served) same ∙ sym (append-nil (receipts_in old.served)),
    λ i. record (same i) { served = new.served },
  ),
)

pub held_as : {P : Type 0} (own : List ℕ) (t : ReuseTerms) (receipts : List Receipt) (held is : List (HeldAnswer P)) → is ≡ held
    → AllByRecursion (λ (h : HeldAnswer P). IsOwed own t receipts h.answer) held
    → AllByRecursion (λ (h : HeldAnswer P). IsOwed own t receipts h.answer) is
held_as {P} own t receipts held is same owed =
    subst (λ (hs : List (HeldAnswer P)). AllByRecursion (λ (h : HeldAnswer P). IsOwed own t receipts h.answer) hs)
    (sym same) owed

pub held_more : {X : Type 0} (was mid is : List X) (h : X) → is ≡ mid ++ h ∷ [] → mid ≡ was → is ≡ was ++ h ∷ []
held_more was mid is h more same = more ∙ ap (λ xs. xs ++ h ∷ []) same

-- what is added to the book inside is added to the volume
pub grows_by : (inside now : WriterState) → inside ≡ now → (new : ServedState) (added : List Receipt)
    → receipts_in new ≡ receipts_in inside.served ++ added → Grows now (record inside { served = new }) added
grows_by inside now is new added more = (
  more ∙ ap (λ (s : WriterState). receipts_in s.served ++ added) is,
  λ i. record (is i) { served = new },
)
