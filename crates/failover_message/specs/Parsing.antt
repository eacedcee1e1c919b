-- For bodies only: the octets of Frames.antt taken apart from the front, as the private functions do it. A field
-- is a value and the octets behind it, or nothing.
use Rattle.std.specs.Prelude.{◌≡◌, ℕ, ◌^◌, ◌==◌, Bool, true, false, ◌&&◌, List, [], ◌∷◌, length, take, drop, Option}
use Rattle.std.specs.Prelude.{Some, None, option_map, find, Result, Ok, Err, nat_lt, nat_le, if◌then◌else◌}
use Rattle.std.specs.Int.{Width, w32, w64, w128, byte_len, from_be_bytes}
use Rattle.text_fields.specs.Parsing.{◌>>=◌, within}
use Rattle.client_id.specs.Duid.{duid_in, found_duid}
use Rattle.prefix_range.specs.Prefix.{Prefix}
use Rattle.prefix_range.specs.Text.{made}
use Rattle.binding_rules.specs.declared.role.Role.{Role}
use Rattle.binding_rules.specs.declared.update.Update.{Update}
use Rattle.binding_rules.specs.declared.update.BindReply.{BindReply}
use Rattle.failover_message.specs.declared.error.LinkError.{LinkError}
use Rattle.failover_message.specs.declared.error.LinkError.TheVariants as errors
use Rattle.failover_message.specs.declared.frame.FrameKind.{FrameKind}
use Rattle.failover_message.specs.declared.frame.FrameKind.TheVariants.{BindingUpdate, BindingReply, PoolRequest}
use Rattle.failover_message.specs.declared.frame.FrameKind.TheVariants.{PoolResponse, UpdateRequest, UpdateRequestAll}
use Rattle.failover_message.specs.declared.frame.FrameKind.TheVariants.{UpdateDone, Connect, ConnectReply, Disconnect}
use Rattle.failover_message.specs.declared.frame.FrameKind.TheVariants.{State, Contact}
use Rattle.failover_message.specs.declared.frame.Frame.{Frame}
use Rattle.failover_message.specs.Frames.{status_code, acknowledgement_code, role_code, state_code, is_numbered}
use Rattle.failover_message.specs.Frames.{is_length}
use Rattle.failover_message.specs.declared.codes.TheConstants.{STATUSES, ACKNOWLEDGEMENTS, ROLES, STATES}
use Rattle.binding_rules.specs.Messages.{has_client, latest_end}

-- ---- numbers

-- the next octet
abbrev pub octet_at : List ℕ → Option (ℕ × List ℕ)
octet_at [] = None
octet_at (octet ∷ rest) = Some (octet, rest)

-- a number of so many bits, the highest octet first
unfoldable pub number_at : Width → List ℕ → Option (ℕ × List ℕ)
number_at w octets =
    if nat_lt (length octets) (byte_len w) then None
    else Some (from_be_bytes w (take (byte_len w) octets), drop (byte_len w) octets)

-- a number of 8 octets that is at most this limit
unfoldable pub limited_at : ℕ → List ℕ → Option (ℕ × List ℕ)
limited_at limit octets = do
  n ← number_at w64 octets
  if nat_le n.0 limit then Some n else None

-- a counter of a server
abbrev pub count_at : List ℕ → Option (ℕ × List ℕ)
count_at octets = limited_at (2 ^ 49) octets

-- ---- codes

-- the first of these values whose code stands in front
unfoldable pub coded_at : {A : Type 0} → (A → ℕ) → List A → List ℕ → Option (A × List ℕ)
coded_at code_of values octets = do
  code ← octet_at octets
  option_map (λ value. (value, code.1)) (find (λ value. code_of value == code.0) values)

-- ---- prefixes and clients

-- a prefix behind its length
unfoldable pub prefix_at : List ℕ → Option (Prefix × List ℕ)
prefix_at octets = do
  bits ← octet_at octets
  address ← number_at w128 bits.1
  option_map (λ p. (p, address.1)) (made address.0 bits.0)

-- so many octets
unfoldable pub octets_at : ℕ → List ℕ → Option (List ℕ × List ℕ)
octets_at n octets = if nat_lt (length octets) n then None else Some (take n octets, drop n octets)

-- an identifier behind its length
unfoldable pub somebody_at : List ℕ → Option (Option (List ℕ) × List ℕ)
somebody_at octets = do
  size ← octet_at octets
  client ← octets_at size.0 size.1
  option_map (λ duid. (Some duid, client.1)) (found_duid (duid_in client.0))

-- nobody's: length 0
unfoldable pub nobody_at : List ℕ → Option (Option (List ℕ) × List ℕ)
nobody_at octets = do
  size ← octet_at octets
  if size.0 == 0 then Some (None, size.1) else None

-- whose a unit is: the IAID, then the identifier; 0 and none where it is nobody's
abbrev pub holder_at : Bool → List ℕ → Option ((ℕ × Option (List ℕ)) × List ℕ)
holder_at true octets = do
  iaid ← number_at w32 octets
  client ← somebody_at iaid.1
  Some ((iaid.0, client.0), client.1)
holder_at false octets = do
  iaid ← number_at w32 octets
  client ← nobody_at iaid.1
  if iaid.0 == 0 then Some ((0, client.0), client.1) else None

-- ---- bodies

-- what a unit became
unfoldable pub update_at : List ℕ → Option (Update × List ℕ)
update_at octets = do
  status ← coded_at status_code STATUSES octets
  prefix ← prefix_at status.1
  mine ← count_at prefix.1
  seen ← count_at mine.1
  end ← limited_at (latest_end status.0) seen.1
  holder ← holder_at (has_client status.0) end.1
  Some (
    record {
      status = status.0;
      prefix = prefix.0;
      mine = mine.0;
      seen = seen.0;
      end = end.0;
      iaid = holder.0.0;
      client = holder.0.1;
    },
    holder.1,
  )

-- whether an update was taken over
unfoldable pub reply_at : List ℕ → Option (BindReply × List ℕ)
reply_at octets = do
  acknowledgement ← coded_at acknowledgement_code ACKNOWLEDGEMENTS octets
  prefix ← prefix_at acknowledgement.1
  of ← count_at prefix.1
  mine ← count_at of.1
  seen ← count_at mine.1
  Some (
    record {
      acknowledgement = acknowledgement.0;
      prefix = prefix.0;
      of = of.0;
      mine = mine.0;
      seen = seen.0;
    },
    seen.1,
  )

-- a role, and the serial of the last frame taken
unfoldable pub greeting_at : List ℕ → Option ((Role × ℕ) × List ℕ)
greeting_at octets = do
  role ← coded_at role_code ROLES octets
  last ← count_at role.1
  Some ((role.0, last.0), last.1)

-- the number that is to be answered, and the answer to the partner's
unfoldable pub contact_at : List ℕ → Option ((ℕ × ℕ) × List ℕ)
contact_at octets = do
  ask ← count_at octets
  answer ← count_at ask.1
  Some ((ask.0, answer.0), answer.1)

-- the body of this kind
unfoldable pub kind_at : ℕ → List ℕ → Option (FrameKind × List ℕ)
kind_at code octets =
    if code == 1 then within (λ u. BindingUpdate u) (update_at octets)
    else if code == 2 then within (λ r. BindingReply r) (reply_at octets)
    else if code == 3 then Some (PoolRequest, octets)
    else if code == 4 then within (λ n. PoolResponse n) (number_at w32 octets)
    else if code == 5 then Some (UpdateRequest, octets)
    else if code == 6 then Some (UpdateRequestAll, octets)
    else if code == 7 then Some (UpdateDone, octets)
    else if code == 8 then within (λ g. Connect g.0 g.1) (greeting_at octets)
    else if code == 9 then within (λ g. ConnectReply g.0 g.1) (greeting_at octets)
    else if code == 10 then Some (Disconnect, octets)
    else if code == 11 then within (λ s. State s) (coded_at state_code STATES octets)
    else if code == 12 then within (λ c. Contact c.0 c.1) (contact_at octets)
    else None

-- ---- frames

-- the serial is from 1 where frames of this kind are counted, else 0
abbrev pub is_serial : Bool → ℕ → Bool
is_serial true serial = nat_le 1 serial
is_serial false serial = serial == 0

-- the frame of this kind in the octets behind its kind, all of them
unfoldable pub fields_of : ℕ → List ℕ → Option Frame
fields_of code octets = do
  term ← number_at w32 octets
  serial ← count_at term.1
  kind ← kind_at code serial.1
  if is_serial (is_numbered kind.0) serial.0 && (length kind.1 == 0)
      then Some (record { term = term.0; serial = serial.0; kind = kind.0 })
      else None

-- a body that gives nothing has a fault in a field
abbrev pub or_field : Option Frame → Result Frame LinkError
or_field None = Err errors.Field
or_field (Some f) = Ok f

-- the code of a kind
abbrev pub is_kind : ℕ → Bool
is_kind code = nat_le 1 code && nat_le code 12

-- the frame in the octets behind its length field
abbrev pub content_of : List ℕ → Result Frame LinkError
content_of [] = Err errors.Length
content_of (code ∷ octets) = if is_kind code then or_field (fields_of code octets) else Err errors.Kind

-- the length field is in its range and counts the octets behind it
abbrev pub is_whole : ℕ × List ℕ → Bool
is_whole x = is_length x.0 && (length x.1 == x.0)

-- the frame behind this length field, all octets of it
abbrev pub behind_length : Option (ℕ × List ℕ) → Result Frame LinkError
behind_length None = Err errors.Length
behind_length (Some x) = if is_whole x then content_of x.1 else Err errors.Length

-- the frame that octets are, or their first fault
abbrev pub frame_of : List ℕ → Result Frame LinkError
frame_of octets = behind_length (number_at w32 octets)

-- ---- streams

-- the first frame of a stream and the octets behind it, nothing where it hasn't come whole, or its fault
abbrev pub FirstFrame : Type 0
FirstFrame = Result (Option (Frame × List ℕ)) LinkError

-- the frame in these octets behind a length field, and what stands behind it
abbrev pub frame_then : Result Frame LinkError → List ℕ → FirstFrame
frame_then (Ok f) rest = Ok (Some (f, rest))
frame_then (Err e) rest = Err e

-- the frame in these octets, where they have come whole
abbrev pub content_then : Option (List ℕ × List ℕ) → FirstFrame
content_then None = Ok None
content_then (Some x) = frame_then (content_of x.0) x.1

-- the frame behind this length field, where that has come whole
abbrev pub next_behind : Option (ℕ × List ℕ) → FirstFrame
next_behind None = Ok None
next_behind (Some x) = if is_length x.0 then content_then (octets_at x.0 x.1) else Err errors.Length

-- the first frame of this stream
abbrev pub next_of : List ℕ → FirstFrame
next_of stream = next_behind (number_at w32 stream)

-- what a function found and the octets that it left are the first frame and what stands behind it
abbrev pub Next : Result (Option Frame) LinkError → List ℕ → List ℕ → FirstFrame → Type 0
Next (Ok None) left stream parsed = (parsed ≡ Ok None) × (left ≡ stream)
Next (Ok (Some f)) left stream parsed = parsed ≡ Ok (Some (f, left))
Next (Err e) left stream parsed = parsed ≡ Err e

-- the same, where it is told how many octets stand behind the frame
abbrev pub First : Result (Option (Frame × ℕ)) LinkError → FirstFrame → Type 0
First (Ok None) parsed = parsed ≡ Ok None
First (Ok (Some x)) parsed = (after : List ℕ) × (parsed ≡ Ok (Some (x.0, after))) × (length after ≡ x.1)
First (Err e) parsed = parsed ≡ Err e
