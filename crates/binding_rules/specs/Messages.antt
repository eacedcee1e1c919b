-- What the partners may tell each other (RFC 8156, section 5: binding updates and replies).
use Rattle.std.specs.Prelude.{◌≡◌, ℕ, ◌^◌, ◌<◌, ◌≤◌, Bool, true, false, List, Option, Some, None}
use Rattle.client_id.specs.Duid.{IsDuid}
use Rattle.prefix_range.specs.Prefix.{IsPrefix}
use Rattle.binding_rules.specs.declared.update.Status.{Status}
use Rattle.binding_rules.specs.declared.update.Status.TheVariants.{Active, Expired, Released, Backup, Free, Seized}
use Rattle.binding_rules.specs.declared.update.Update.{Update}
use Rattle.binding_rules.specs.declared.update.BindReply.{BindReply}
use Rattle.binding_rules.specs.declared.message.Body.{Body}
use Rattle.binding_rules.specs.declared.message.Body.TheVariants.{Update as UpdateBody, Reply, Contact}
use Rattle.binding_rules.specs.declared.message.PartnerMessage.{PartnerMessage}

-- a unit of this status is, or was, a client's
abbrev pub has_client : Status → Bool
has_client Active = true
has_client Expired = true
has_client Released = true
has_client Backup = false
has_client Free = false
has_client Seized = false

-- the latest end that an update tells: none is told unless the unit is active
abbrev pub latest_end : Status → ℕ
latest_end Active = 2 ^ 49
latest_end _ = 0

-- whose a unit is: a client's by its identity association, or nobody's and then the IAID is 0
abbrev pub IsHeld : Bool → ℕ → Option (List ℕ) → Type 0
IsHeld true iaid (Some client) = (iaid < 2 ^ 32) × IsDuid client
IsHeld false iaid None = iaid ≡ 0
IsHeld _ _ _ = ⊥

pub record IsUpdate (u : Update) : Type 0 where
  pub prefix : IsPrefix u.prefix
  pub mine : u.mine ≤ 2 ^ 49
  pub seen : u.seen ≤ 2 ^ 49
  pub end : u.end ≤ latest_end u.status
  pub holder : IsHeld (has_client u.status) u.iaid u.client

pub record IsReply (r : BindReply) : Type 0 where
  pub prefix : IsPrefix r.prefix
  pub of : r.of ≤ 2 ^ 49
  pub mine : r.mine ≤ 2 ^ 49
  pub seen : r.seen ≤ 2 ^ 49

-- what a numbered message may say
abbrev pub IsBody : Body → Type 0
IsBody (UpdateBody u) = IsUpdate u
IsBody (Reply r) = IsReply r
IsBody (Contact ask answer) = (ask ≤ 2 ^ 49) × (answer ≤ 2 ^ 49)

pub record IsPartnerMessage (m : PartnerMessage) : Type 0 where
  pub term : m.term < 2 ^ 32
  pub serial : m.serial ≤ 2 ^ 49
  pub body : IsBody m.body
