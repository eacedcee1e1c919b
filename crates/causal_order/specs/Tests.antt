-- For bodies only: tests that decide chains and bounds.
use Rattle.std.specs.Prelude.{ℕ, ◌+◌, Bool, true, false, ◌&&◌, ◌||◌, ◌==◌, nat_le, nat_lt, List, [], ◌∷◌, length}
use Rattle.std.specs.Prelude.{Option, Some, None}
use Rattle.std.specs.Str.{bytes_eq}
use Rattle.prefix_range.specs.Prefix.{Prefix}
use Rattle.binding_rules.specs.Role.{partner_of, is_side}
use Rattle.binding_rules.specs.declared.update.Status.{Status}
use Rattle.binding_rules.specs.declared.update.Status.TheVariants.{Active, Expired, Released, Backup, Free, Seized}
use Rattle.binding_rules.specs.declared.update.Update.{Update}
use Rattle.binding_rules.specs.declared.update.Acknowledgement.{Acknowledgement}
use Rattle.binding_rules.specs.declared.update.Acknowledgement.TheVariants.{Accept, Reject}
use Rattle.binding_rules.specs.declared.update.BindReply.{BindReply}
use Rattle.binding_rules.specs.declared.message.Body.{Body}
use Rattle.binding_rules.specs.declared.message.Body.TheVariants.{Update as Updates, Reply, Contact}
use Rattle.journal_lines.specs.declared.event.Event.{Event}
use Rattle.journal_lines.specs.declared.event.Event.TheVariants.{Send, Take}
use Rattle.binding_rules.specs.declared.message.PartnerMessage.{PartnerMessage}
use Rattle.journal_lines.specs.declared.line.Line.{Line}
use Rattle.causal_order.specs.declared.reference.Ref.{Ref}
use Rattle.causal_order.specs.declared.order.Precedes.{Precedes}
use Rattle.causal_order.specs.declared.order.Precedes.TheVariants.{Chain, Clock}
use Rattle.causal_order.specs.Journals.{Journals, line_of}

-- there is a value, and it passes the test
abbrev pub some_and : {X : Type 0} → Option X → (X → Bool) → Bool
some_and None test = false
some_and (Some x) test = test x

abbrev pub same_ref : Ref → Ref → Bool
same_ref r s = is_side r.side s.side && (r.number == s.number)

abbrev pub is_line : Journals → Ref → Bool
is_line js r = some_and (line_of js r) (λ l. true)

abbrev pub is_later : Ref → Ref → Bool
is_later r s = is_side r.side s.side && nat_lt r.number s.number

-- Messages.
abbrev pub same_status : Status → Status → Bool
same_status Active Active = true
same_status Expired Expired = true
same_status Released Released = true
same_status Backup Backup = true
same_status Free Free = true
same_status Seized Seized = true
same_status _ _ = false

abbrev pub same_prefix : Prefix → Prefix → Bool
same_prefix p q = (p.address == q.address) && (p.length == q.length)

abbrev pub same_client : Option (List ℕ) → Option (List ℕ) → Bool
same_client None None = true
same_client (Some c) (Some d) = bytes_eq c d
same_client _ _ = false

abbrev pub same_update : Update → Update → Bool
same_update u v =
    same_status u.status v.status
    && (same_prefix u.prefix v.prefix
    && ((u.mine == v.mine)
    && ((u.seen == v.seen) && ((u.end == v.end) && ((u.iaid == v.iaid) && same_client u.client v.client)))))

abbrev pub same_acknowledgement : Acknowledgement → Acknowledgement → Bool
same_acknowledgement Accept Accept = true
same_acknowledgement Reject Reject = true
same_acknowledgement _ _ = false

abbrev pub same_reply : BindReply → BindReply → Bool
same_reply u v =
    same_acknowledgement u.acknowledgement v.acknowledgement
    && (same_prefix u.prefix v.prefix && ((u.of == v.of) && ((u.mine == v.mine) && (u.seen == v.seen))))

abbrev pub same_body : Body → Body → Bool
same_body (Updates u) (Updates v) = same_update u v
same_body (Reply u) (Reply v) = same_reply u v
same_body (Contact a b) (Contact x y) = (a == x) && (b == y)
same_body _ _ = false

abbrev pub same_message : PartnerMessage → PartnerMessage → Bool
same_message x y = (x.term == y.term) && ((x.serial == y.serial) && same_body x.body y.body)

abbrev pub sent_by : Event → Option PartnerMessage
sent_by (Send m) = Some m
sent_by _ = None

abbrev pub taken_by : Event → Option PartnerMessage
taken_by (Take m) = Some m
taken_by _ = None

-- what the line's event gives, or nothing where there is no line
abbrev pub in_line : {X : Type 0} → (Event → Option X) → Option Line → Option X
in_line given None = None
in_line given (Some l) = given l.event

-- the message that the line sends, and the one that it takes
abbrev pub sent_in : Option Line → Option PartnerMessage
sent_in o = in_line sent_by o

abbrev pub taken_in : Option Line → Option PartnerMessage
taken_in o = in_line taken_by o

abbrev pub same_messages : Option PartnerMessage → Option PartnerMessage → Bool
same_messages a b = some_and a (λ m. some_and b (λ n. same_message m n))

abbrev pub is_take_of : Journals → Ref → Ref → Bool
is_take_of js r s =
    is_side (partner_of r.side) s.side && same_messages (sent_in (line_of js r)) (taken_in (line_of js s))

-- Chains. The one line stands before the other by its journal, or by a message.
abbrev pub follows : Journals → Ref → Ref → Bool
follows js r s = is_later r s || is_take_of js r s

abbrev pub is_chain : Journals → List Ref → Bool
is_chain js [] = false
is_chain js (r ∷ []) = is_line js r
is_chain js (r ∷ s ∷ rs) = is_line js r && (follows js r s && is_chain js (s ∷ rs))

abbrev pub first_of_chain : List Ref → Option Ref
first_of_chain [] = None
first_of_chain (r ∷ rs) = Some r

abbrev pub last_of_chain : List Ref → Option Ref
last_of_chain [] = None
last_of_chain (r ∷ []) = Some r
last_of_chain (r ∷ s ∷ rs) = last_of_chain (s ∷ rs)

abbrev pub is_at : Option Ref → Ref → Bool
is_at o r = some_and o (λ s. same_ref s r)

abbrev pub leads : Journals → List Ref → Ref → Ref → Bool
leads js chain r s = is_chain js chain && (is_at (first_of_chain chain) r && is_at (last_of_chain chain) s)

-- the reading of the line that a reference names passes the test
abbrev pub reading_at : Journals → Option Ref → (ℕ → Bool) → Bool
reading_at js o test = some_and o (λ r. some_and (line_of js r) (λ l. test l.reading))

-- the chain is one from r, and its last line's reading passes the test
abbrev pub written_by : Journals → List Ref → Ref → (ℕ → Bool) → Bool
written_by js chain r test =
    is_chain js chain && (is_at (first_of_chain chain) r && reading_at js (last_of_chain chain) test)

-- the chain is one to r, and its first line's reading passes the test
abbrev pub written_from : Journals → List Ref → Ref → (ℕ → Bool) → Bool
written_from js chain r test =
    is_chain js chain && (is_at (last_of_chain chain) r && reading_at js (first_of_chain chain) test)

abbrev pub precedes : Journals → ℕ → Precedes → Ref → Ref → Bool
precedes js skew (Chain chain) r s = leads js chain r s && nat_le 2 (length chain)
precedes js skew (Clock first second) r s =
    written_by js first r (λ x. written_from js second s (λ y. nat_lt (x + skew + skew) y))
