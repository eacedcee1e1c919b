-- What frames say stays backed by the receipts of a book that grows.
use Rattle.std.proofs.Common.{◌≡◌, ℕ, Bool, true, false, Option, Some, None, List, [], ◌∷◌, ◌++◌, refl, sym, ◌∙◌, ap, subst}
use Rattle.std.proofs.Common.{append_assoc, append-nil}
use Rattle.std.specs.Prelude.{filter, cond, option_map}
use Rattle.std.specs.List.{AllByRecursion, cons_option}
use Rattle.binding_rules.specs.declared.message.PartnerMessage.{PartnerMessage}
use Rattle.binding_rules.specs.declared.role.Role.{Role}
use Rattle.binding_rules.specs.declared.role.Role.TheVariants.{Primary, Secondary}
use Rattle.failover_message.specs.declared.frame.FrameKind.{FrameKind}
use Rattle.locked_book.specs.declared.receipt.Receipt.{Receipt}
use Rattle.failover_session.specs.declared.outbox.OutboundFrame.{OutboundFrame}
use Rattle.failover_session.specs.OutboundFrames.{FrameMeaning, Sends, Greets, meanings_of, sent_in, meaning_of_receipt, sends_of, is_above, sends_above, answer, opening}
use Rattle.failover_session.specs.Sessions.{Met, Unmet, Refused, Named, first_meanings, Handles}
use Rattle.failover_session.specs.Polling.{SessionModel}
use Rattle.server_core.specs.Saying.{IsBacked, AreBacked, IsTalkBacked, handed_of}

-- ---- all of a list

all_cons : {X : Type 0} (P : X → Type 0) (o : Option X) (xs : List X) → ((x : X) → o ≡ Some x → P x)
    → AllByRecursion P xs → AllByRecursion P (cons_option o xs)
all_cons P None xs one all = all
all_cons P (Some x) xs one all = (one x refl, all)

all_append : {X : Type 0} (P : X → Type 0) (xs ys : List X) → AllByRecursion P xs → AllByRecursion P ys
    → AllByRecursion P (xs ++ ys)
all_append P [] ys left right = right
all_append P (x ∷ xs) ys left right = (left.0, all_append P xs ys left.1 right)

all_cond : {X : Type 0} (P : X → Type 0) (b : Bool) (x : X) (xs : List X) → P x → AllByRecursion P xs
    → AllByRecursion P (cond b (x ∷ xs) xs)
all_cond P true x xs one all = (one, all)
all_cond P false x xs one all = all

all_filter : {X : Type 0} (P : X → Type 0) (q : X → Bool) (xs : List X) → AllByRecursion P xs
    → AllByRecursion P (filter q xs)
all_filter P q [] all = tt
all_filter P q (x ∷ xs) all = all_cond P (q x) x (filter q xs) all.0 (all_filter P q xs all.1)

-- ---- what was backed stays so

backed_later : (receipts more all : List Receipt) → all ≡ receipts ++ more → (s : FrameMeaning) → IsBacked receipts s
    → IsBacked all s
backed_later receipts more all grows (Sends number m) b = (
  b.0,
  b.1,
  b.2 ++ more,
  grows ∙ ap (λ (rs : List Receipt). rs ++ more) b.3 ∙ append_assoc b.1 (b.0 ∷ b.2) more,
  b.4,
)
backed_later receipts more all grows (Greets kind) b = (
  b.0,
  b.1,
  b.2 ++ more,
  grows ∙ ap (λ (rs : List Receipt). rs ++ more) b.3 ∙ append_assoc b.1 b.2 more,
  b.4,
)

all_later : (receipts more all : List Receipt) → all ≡ receipts ++ more → (xs : List FrameMeaning)
    → AllByRecursion (IsBacked receipts) xs → AllByRecursion (IsBacked all) xs
all_later receipts more all grows [] backed = tt
all_later receipts more all grows (x ∷ xs) backed =
    (backed_later receipts more all grows x backed.0, all_later receipts more all grows xs backed.1)

pub talk_later : (receipts more all : List Receipt) (talk : Option SessionModel) → all ≡ receipts ++ more
    → IsTalkBacked receipts talk → IsTalkBacked all talk
talk_later receipts more all None grows backed = tt
talk_later receipts more all (Some t) grows backed = all_later receipts more all grows (meanings_of t.handed) backed

-- ---- what receipts say

no_greeting : (number : ℕ) (kind : FrameKind) (o : Option PartnerMessage)
    → option_map (λ m. Sends (Some number) m) o ≡ Some (Greets kind) → ⊥
no_greeting number kind None is = absurd cc
no_greeting number kind (Some m) is = absurd cc

one_backed : (all front back : List Receipt) (r : Receipt) → all ≡ front ++ r ∷ back → (x : FrameMeaning)
    → meaning_of_receipt r ≡ Some x → IsBacked all x
one_backed all front back r among (Sends number m) is = (r, front, back, among, is)
one_backed all front back r among (Greets kind) is = absurd (no_greeting r.number kind (sent_in r.line.event) is)

sends_backed : (all front rs later : List Receipt) → all ≡ front ++ (rs ++ later)
    → AllByRecursion (IsBacked all) (sends_of rs)
sends_backed all front [] later is = tt
sends_backed all front (r ∷ rs) later is =
    all_cons (IsBacked all) (meaning_of_receipt r) (sends_of rs) (one_backed all front (rs ++ later) r is)
    (sends_backed all (front ++ r ∷ []) rs later (is ∙ sym (append_assoc front (r ∷ []) (rs ++ later))))

answer_backed : (role : Role) (had later all : List Receipt) → all ≡ had ++ later
    → AllByRecursion (IsBacked all) (answer role had)
answer_backed Primary had later all is = tt
answer_backed Secondary had later all is = ((Secondary, had, later, is, refl), tt)

pub opening_backed : (role : Role) (had : List Receipt) → AllByRecursion (IsBacked had) (opening role had)
opening_backed Primary had = ((Primary, had, [], sym (append-nil had), refl), tt)
opening_backed Secondary had = tt

first_backed : (role : Role) (before after : Met) (had later all : List Receipt) → all ≡ had ++ later
    → AllByRecursion (IsBacked all) (first_meanings role before after had)
first_backed role Unmet Unmet had later all is = tt
first_backed role Unmet Refused had later all is = answer_backed role had later all is
first_backed role Unmet (Named last) had later all is =
    all_append (IsBacked all) (answer role had) (sends_above last had) (answer_backed role had later all is)
    (all_filter (IsBacked all) (is_above last) (sends_of had) (sends_backed all [] had later is))
first_backed role Refused after had later all is = tt
first_backed role (Named n) after had later all is = tt

-- ---- a turn of the talk

pub heard_backed : (role : Role) (heard : List PartnerMessage) (before after : Met) (had has : List Receipt)
    (was out : List OutboundFrame) → Handles role heard before after had has was out → AreBacked had was → AreBacked has out
heard_backed role heard before after had has was out h backed =
    let whole : has ≡ had ++ (h.added ++ []) = h.all
    ∙ ap (λ (rs : List Receipt). had ++ rs) (sym (append-nil h.added)) in
    subst (λ (xs : List FrameMeaning). AllByRecursion (IsBacked has) xs) (sym h.sends)
    (all_append (IsBacked has) (meanings_of was ++ first_meanings role before after had) (sends_of h.added)
    (all_append (IsBacked has) (meanings_of was) (first_meanings role before after had)
    (all_later had h.added has h.all (meanings_of was) backed) (first_backed role before after had h.added has h.all))
    (sends_backed has had h.added [] whole))

pub said_as : (receipts : List Receipt) (was out : List OutboundFrame) (more : List FrameMeaning)
    → meanings_of out ≡ meanings_of was ++ more → AreBacked receipts was → AllByRecursion (IsBacked receipts) more
    → AreBacked receipts out
said_as receipts was out more says backed others =
    subst (λ (xs : List FrameMeaning). AllByRecursion (IsBacked receipts) xs) (sym says)
    (all_append (IsBacked receipts) (meanings_of was) more backed others)

-- what a backed talk hands out is backed
pub handed_backed : (receipts : List Receipt) (talk : Option SessionModel) (frames : List OutboundFrame)
    → frames ≡ handed_of talk → IsTalkBacked receipts talk → AreBacked receipts frames
handed_backed receipts None frames is backed = subst (AreBacked receipts) (sym is) tt
handed_backed receipts (Some t) frames is backed = subst (AreBacked receipts) (sym is) backed

-- a talk that has handed out all is backed
pub nothing_said : (receipts : List Receipt) (talk : Option SessionModel) → handed_of talk ≡ []
    → IsTalkBacked receipts talk
nothing_said receipts None none = tt
nothing_said receipts (Some t) none = subst (AreBacked receipts) (sym none) tt
