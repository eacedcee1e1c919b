-- The frames of the link, octet by octet, in network byte order. The kinds have the names of RFC 8156, section 5;
-- their layout is this project's own.
use Rattle.std.specs.Prelude.{◌≡◌, ℕ, ◌^◌, ◌<◌, ◌≤◌, Bool, true, false, List, [], ◌∷◌, ◌++◌, length, Option, Some, None}
use Rattle.std.specs.Prelude.{◌&&◌, nat_le}
use Rattle.std.specs.Int.{Width, w32, w64, w128, to_be_bytes}
use Rattle.prefix_range.specs.Prefix.{Prefix}
use Rattle.binding_rules.specs.declared.role.Role.{Role}
use Rattle.binding_rules.specs.declared.role.Role.TheVariants.{Primary, Secondary}
use Rattle.binding_rules.specs.declared.update.Status.{Status}
use Rattle.binding_rules.specs.declared.update.Status.TheVariants.{Active, Expired, Released, Backup, Free, Seized}
use Rattle.binding_rules.specs.declared.update.Acknowledgement.{Acknowledgement}
use Rattle.binding_rules.specs.declared.update.Acknowledgement.TheVariants.{Accept, Reject}
use Rattle.binding_rules.specs.declared.update.Update.{Update}
use Rattle.binding_rules.specs.declared.update.BindReply.{BindReply}
use Rattle.binding_rules.specs.Messages.{IsUpdate, IsReply}
use Rattle.binding_rules.specs.declared.message.ServerState.{ServerState}
use Rattle.binding_rules.specs.declared.message.ServerState.TheVariants.{Normal, Interrupted, Down}
use Rattle.failover_message.specs.declared.frame.FrameKind.{FrameKind}
use Rattle.failover_message.specs.declared.frame.FrameKind.TheVariants.{BindingUpdate, BindingReply, PoolRequest}
use Rattle.failover_message.specs.declared.frame.FrameKind.TheVariants.{PoolResponse, UpdateRequest, UpdateRequestAll}
use Rattle.failover_message.specs.declared.frame.FrameKind.TheVariants.{UpdateDone, Connect, ConnectReply, Disconnect}
use Rattle.failover_message.specs.declared.frame.FrameKind.TheVariants.{State, Contact}
use Rattle.failover_message.specs.declared.frame.Frame.{Frame}
use Rattle.failover_message.specs.declared.frame.TheConstants.{MIN_LENGTH, MAX_LENGTH}

-- ---- codes: each takes one octet

abbrev pub status_code : Status → ℕ
status_code Active = 1
status_code Expired = 2
status_code Released = 3
status_code Backup = 4
status_code Free = 5
status_code Seized = 6

abbrev pub acknowledgement_code : Acknowledgement → ℕ
acknowledgement_code Accept = 1
acknowledgement_code Reject = 2

abbrev pub role_code : Role → ℕ
role_code Primary = 1
role_code Secondary = 2

abbrev pub state_code : ServerState → ℕ
state_code Normal = 1
state_code Interrupted = 2
state_code Down = 3

abbrev pub kind_code : FrameKind → ℕ
kind_code (BindingUpdate u) = 1
kind_code (BindingReply r) = 2
kind_code PoolRequest = 3
kind_code (PoolResponse moved) = 4
kind_code UpdateRequest = 5
kind_code UpdateRequestAll = 6
kind_code UpdateDone = 7
kind_code (Connect role last) = 8
kind_code (ConnectReply role last) = 9
kind_code Disconnect = 10
kind_code (State state) = 11
kind_code (Contact ask answer) = 12

-- ---- the octets

-- a number of so many bits, the highest octet first
unfoldable pub number_octets : Width → ℕ → List ℕ
number_octets w n = to_be_bytes w n

-- a counter, or when a lease ends: 8 octets
abbrev pub count_octets : ℕ → List ℕ
count_octets n = number_octets w64 n

-- the length in bits, then the 16 octets of the address
abbrev pub prefix_octets : Prefix → List ℕ
prefix_octets p = p.length ∷ number_octets w128 p.address

-- how many octets the identifier has, then these; 0 where there is no client
abbrev pub client_octets : Option (List ℕ) → List ℕ
client_octets None = 0 ∷ []
client_octets (Some client) = length client ∷ client

abbrev pub update_octets : Update → List ℕ
update_octets u =
    status_code u.status ∷ (prefix_octets u.prefix ++ (count_octets u.mine ++ (count_octets u.seen
    ++ (count_octets u.end ++ (number_octets w32 u.iaid ++ client_octets u.client)))))

abbrev pub reply_octets : BindReply → List ℕ
reply_octets r =
    acknowledgement_code r.acknowledgement ∷ (prefix_octets r.prefix ++ (count_octets r.of
    ++ (count_octets r.mine ++ count_octets r.seen)))

abbrev pub greeting_octets : Role → ℕ → List ℕ
greeting_octets role last = role_code role ∷ count_octets last

abbrev pub body_octets : FrameKind → List ℕ
body_octets (BindingUpdate u) = update_octets u
body_octets (BindingReply r) = reply_octets r
body_octets PoolRequest = []
body_octets (PoolResponse moved) = number_octets w32 moved
body_octets UpdateRequest = []
body_octets UpdateRequestAll = []
body_octets UpdateDone = []
body_octets (Connect role last) = greeting_octets role last
body_octets (ConnectReply role last) = greeting_octets role last
body_octets Disconnect = []
body_octets (State state) = state_code state ∷ []
body_octets (Contact ask answer) = count_octets ask ++ count_octets answer

-- kind, term, serial, body
abbrev pub content_octets : Frame → List ℕ
content_octets f = kind_code f.kind ∷ (number_octets w32 f.term ++ (count_octets f.serial ++ body_octets f.kind))

-- 4 octets say how many follow
abbrev pub frame_octets : Frame → List ℕ
frame_octets f = number_octets w32 (length (content_octets f)) ++ content_octets f

-- ---- the frames that have octets

abbrev pub IsBody : FrameKind → Type 0
IsBody (BindingUpdate u) = IsUpdate u
IsBody (BindingReply r) = IsReply r
IsBody (PoolResponse moved) = moved < 2 ^ 32
IsBody (Connect role last) = last ≤ 2 ^ 49
IsBody (ConnectReply role last) = last ≤ 2 ^ 49
IsBody (Contact ask answer) = (ask ≤ 2 ^ 49) × (answer ≤ 2 ^ 49)
IsBody _ = Unit {0}

-- frames of this kind are counted, as the journal lines that they are
abbrev pub is_numbered : FrameKind → Bool
is_numbered (BindingUpdate u) = true
is_numbered (BindingReply r) = true
is_numbered (Contact ask answer) = true
is_numbered _ = false

-- counted from 1, or 0 where frames of this kind aren't counted
abbrev pub IsSerial : Bool → ℕ → Type 0
IsSerial true serial = (1 ≤ serial) × (serial ≤ 2 ^ 49)
IsSerial false serial = serial ≡ 0

pub record IsFrame (f : Frame) : Type 0 where
  pub term : f.term < 2 ^ 32
  pub serial : IsSerial (is_numbered f.kind) f.serial
  pub body : IsBody f.kind

-- how many octets may follow the length field
abbrev pub is_length : ℕ → Bool
is_length n = nat_le MIN_LENGTH n && nat_le n MAX_LENGTH
