-- Frames one behind another, in a stream that comes in chunks.
use Rattle.std.specs.Prelude.{◌≡◌, ℕ, ◌+◌, ◌<◌, ◌≤◌, List, [], ◌∷◌, ◌++◌, length, take}
use Rattle.std.specs.List.{flat_map, AllByRecursion}
use Rattle.text_fields.specs.Octets.{AreOctets}
use Rattle.failover_message.specs.declared.error.LinkError.{LinkError}
use Rattle.failover_message.specs.declared.error.LinkError.TheVariants.{Length, Kind, Field, Memory}
use Rattle.failover_message.specs.declared.frame.Frame.{Frame}
use Rattle.failover_message.specs.Frames.{frame_octets, IsFrame}
use Rattle.failover_message.specs.Faults.{length_of, IsMeasured, HasKind, IsNoFrame}

-- less than a whole frame: a length field that is whole is in its range, and fewer octets stand behind it than it
-- says
pub record IsPartial (rest : List ℕ) : Type 0 where
  pub measured : 4 ≤ length rest → IsMeasured rest
  pub short : 4 ≤ length rest → length rest < 4 + length_of rest

-- what a feed holds between chunks
pub record IsHeldBack (held : List ℕ) : Type 0 where
  pub partial : IsPartial held
  pub fits : AreOctets held

-- the stream so far: its frames, and what has come of the next
abbrev pub stream_of : List Frame → List ℕ → List ℕ
stream_of frames rest = flat_map frame_octets frames ++ rest

-- the stream is these frames, and then less than a whole one
pub record Splits (stream : List ℕ) (frames : List Frame) (rest : List ℕ) : Type 0 where
  pub whole : stream ≡ stream_of frames rest
  pub each : AllByRecursion IsFrame frames
  pub partial : IsPartial rest

-- a frame of the stream has come whole
pub record HasFrame (rest : List ℕ) : Type 0 where
  pub measured : IsMeasured rest
  pub long : 4 + length_of rest ≤ length rest

-- the frame that comes has this fault: its length as soon as the length field is whole, its kind and fields once it
-- is whole itself
abbrev pub IsFaulty : List ℕ → LinkError → Type 0
IsFaulty rest Length = (4 ≤ length rest) × ¬ (IsMeasured rest)
IsFaulty rest Kind = HasFrame rest × ¬ (HasKind rest)
IsFaulty rest Field = HasFrame rest × HasKind rest × IsNoFrame (take (4 + length_of rest) rest)
IsFaulty rest Memory = ⊥

-- after whole frames one with this fault comes
pub record Breaks (stream : List ℕ) (fault : LinkError) : Type 0 where
  pub frames : List Frame
  pub rest : List ℕ
  pub whole : stream ≡ stream_of frames rest
  pub each : AllByRecursion IsFrame frames
  pub faulty : IsFaulty rest fault

-- ---- many chunks

-- a chunk that was fed, and the frames that it gave
abbrev pub Fed : Type 0
Fed = List ℕ × List Frame

-- chunks fed one after another; a refused chunk gave nothing and left the feed as it was
abbrev pub Feeds : List ℕ → List Fed → List ℕ → Type 0
Feeds held [] rest = rest ≡ held
Feeds held (fed ∷ feds) rest = (next : List ℕ) × Splits (held ++ fed.0) fed.1 next × Feeds next feds rest

-- the stream of the chunks that were taken, and the frames that they gave
abbrev pub chunks_of : List Fed → List ℕ
chunks_of feds = flat_map (λ fed. fed.0) feds

abbrev pub frames_of : List Fed → List Frame
frames_of feds = flat_map (λ fed. fed.1) feds
