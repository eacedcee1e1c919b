-- How many octets a frame has.
use Rattle.std.proofs.Common.{◌≡◌, ℕ, ◌+◌, ◌≤◌, Bool, true, false, List, ◌++◌, length, Option, Some, None, arith}
use Rattle.std.specs.Int.{w32}
use Rattle.failover_message.specs.declared.frame.FrameKind.{FrameKind}
use Rattle.failover_message.specs.declared.frame.FrameKind.TheVariants.{BindingUpdate, BindingReply, PoolRequest}
use Rattle.failover_message.specs.declared.frame.FrameKind.TheVariants.{PoolResponse, UpdateRequest, UpdateRequestAll}
use Rattle.failover_message.specs.declared.frame.FrameKind.TheVariants.{UpdateDone, Connect, ConnectReply, Disconnect}
use Rattle.failover_message.specs.declared.frame.FrameKind.TheVariants.{State, Contact}
use Rattle.failover_message.specs.declared.frame.Frame.{Frame}
use Rattle.failover_message.specs.Frames.{number_octets, count_octets, client_octets, body_octets, content_octets}
use Rattle.failover_message.specs.Frames.{IsBody, IsFrame}
use Rattle.binding_rules.specs.Messages.{has_client, IsHeld}

client_length : (held : Bool) (iaid : ℕ) (client : Option (List ℕ)) → IsHeld held iaid client
    → length (client_octets client) ≤ 131
client_length true iaid (Some client) h = omega (arith, h.1.most)
client_length true iaid None h = absurd h
client_length false iaid (Some client) h = absurd h
client_length false iaid None h = omega arith

body_length : (k : FrameKind) → IsBody k → length (body_octets k) ≤ 177
unfolding number_octets
body_length (BindingUpdate u) h = omega (arith, client_length (has_client u.status) u.iaid u.client h.holder)
body_length (BindingReply r) h = omega arith
body_length PoolRequest h = omega arith
body_length (PoolResponse moved) h = omega arith
body_length UpdateRequest h = omega arith
body_length UpdateRequestAll h = omega arith
body_length UpdateDone h = omega arith
body_length (Connect role last) h = omega arith
body_length (ConnectReply role last) h = omega arith
body_length Disconnect h = omega arith
body_length (State state) h = omega arith
body_length (Contact ask answer) h = omega arith

headed : (term serial : ℕ) (body : List ℕ) → length (number_octets w32 term ++ (count_octets serial ++ body))
    ≡ 12 + length body
unfolding number_octets
headed term serial body = omega arith

pub content_length : (f : Frame) → IsFrame f → (13 ≤ length (content_octets f)) × (length (content_octets f) ≤ 190)
content_length f h =
    let head = headed f.term f.serial (body_octets f.kind) in
    let body = body_length f.kind h.body in
    (omega arith, omega arith)
