-- Why octets are no frame. The length comes first, then the kind, then the fields.
use Rattle.std.specs.Prelude.{◌≡◌, ◌≢◌, ℕ, ◌+◌, ◌≤◌, List, length, take, slice_index}
use Rattle.std.specs.Int.{w32, from_be_bytes}
use Rattle.failover_message.specs.declared.frame.Frame.{Frame}
use Rattle.failover_message.specs.declared.frame.TheConstants.{MIN_LENGTH, MAX_LENGTH}
use Rattle.failover_message.specs.Frames.{frame_octets, IsFrame}

-- what the length field says
abbrev pub length_of : List ℕ → ℕ
length_of octets = from_be_bytes w32 (take 4 octets)

-- the length field is whole and in its range
pub record IsMeasured (octets : List ℕ) : Type 0 where
  pub field : 4 ≤ length octets
  pub least : MIN_LENGTH ≤ length_of octets
  pub most : length_of octets ≤ MAX_LENGTH

-- the length field also counts the octets behind it
pub record HasLength (octets : List ℕ) : Type 0 where
  pub measured : IsMeasured octets
  pub counts : length octets ≡ 4 + length_of octets

-- the octet behind the length field is the code of a kind
pub record HasKind (octets : List ℕ) : Type 0 where
  pub least : 1 ≤ slice_index octets 4
  pub most : slice_index octets 4 ≤ 12

-- the octets are no frame's
pub record IsNoFrame (octets : List ℕ) : Type 0 where
  pub each : (f : Frame) → IsFrame f → octets ≢ frame_octets f
