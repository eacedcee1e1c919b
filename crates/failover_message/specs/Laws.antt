-- What holds of all frames, streams and chunks.
use Rattle.std.specs.Prelude.{◌≡◌, List, ℕ, [], ◌++◌}
use Rattle.text_fields.specs.Octets.{AreOctets}
use Rattle.failover_message.specs.declared.error.LinkError.{LinkError}
use Rattle.failover_message.specs.declared.frame.Frame.{Frame}
use Rattle.failover_message.specs.Frames.{frame_octets, IsFrame}
use Rattle.failover_message.specs.Stream.{Splits, Breaks, Fed, Feeds, chunks_of, frames_of}

-- two frames, whatever stands behind each
abbrev pub FramesStandApart : Type 0
FramesStandApart = (f g : Frame) (after behind : List ℕ) → IsFrame f → IsFrame g
    → frame_octets f ++ after ≡ frame_octets g ++ behind → (f ≡ g) × (after ≡ behind)

-- what was given for the chunks is what the stream of the chunks is
abbrev pub ChunksJoin : Type 0
ChunksJoin = (feds : List Fed) (rest : List ℕ) → Feeds [] feds rest
    → Splits (chunks_of feds) (frames_of feds) rest

-- a fault that comes behind the octets held comes in the stream, and the other way
abbrev pub FaultsJoin : Type 0
FaultsJoin = (feds : List Fed) (rest chunk : List ℕ) (fault : LinkError) → Feeds [] feds rest
    → AreOctets (chunks_of feds ++ chunk)
    → (Breaks (rest ++ chunk) fault → Breaks (chunks_of feds ++ chunk) fault)
    × (Breaks (chunks_of feds ++ chunk) fault → Breaks (rest ++ chunk) fault)
