-- What a server makes of a message that it takes.
use Rattle.std.specs.Prelude.{ℕ, ◌&&◌, ◌==◌, nat_lt, Bool, true, false, Option, Some, None, if◌then◌else◌}
use Rattle.binding_rules.specs.declared.unit.Unit.{Unit as UnitValue}
use Rattle.binding_rules.specs.declared.message.Body.{Body}
use Rattle.binding_rules.specs.declared.message.Body.TheVariants.{Update, Reply, Contact}
use Rattle.binding_rules.specs.declared.message.PartnerMessage.{PartnerMessage}
use Rattle.binding_rules.specs.declared.taking.Outcome.{Outcome}
use Rattle.binding_rules.specs.declared.taking.Outcome.TheVariants.{Accept, Drop}
use Rattle.binding_rules.specs.Table.{outcome_of}
use Rattle.binding_rules.specs.Reply.{after_reply}
use Rattle.book_state.specs.Book.{BookState, is_unit}

-- a reply that changes nothing is dropped
abbrev pub reply_outcome : Option UnitValue → Outcome
reply_outcome None = Drop
reply_outcome (Some u) = Accept

-- in the book's term; a message about what is no unit is dropped
abbrev pub body_outcome : BookState → ℕ → Body → Outcome
body_outcome b now (Update m) =
    if is_unit b.pools m.prefix then outcome_of b.role (b.units m.prefix) now b.waiting m else Drop
body_outcome b now (Reply r) =
    if is_unit b.pools r.prefix then reply_outcome (after_reply (b.units r.prefix) r) else Drop
body_outcome b now (Contact ask answer) = Accept

abbrev pub is_contact : Body → Bool
is_contact (Contact ask answer) = true
is_contact _ = false

-- a server that waits learns a higher term from its partner's contact; else a message of another term is dropped
abbrev pub outcome : BookState → ℕ → PartnerMessage → Outcome
outcome b now m =
    if m.term == b.term
    then body_outcome b now m.body
    else (if b.waiting && (nat_lt b.term m.term && is_contact m.body) then Accept else Drop)
