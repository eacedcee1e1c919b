-- The disk model: what was asked of a file, and what a loss of power may leave of it.
use Rattle.std.specs.Prelude.{
  ◌≡◌,
  ◌⊎◌,
  ℕ,
  ◌<◌,
  ◌≤◌,
  min,
  Bool,
  true,
  false,
  IsTrue,
  List,
  [],
  ◌∷◌,
  ◌++◌,
  length,
  take,
  slice_index,
}

-- what was asked of a file, and what came of it
pub data Call : Type 0 where
  -- the file was opened and held this, all of it on the disk
  opened : List ℕ → Call
  -- these octets were written behind all others, or were to be
  appended : List ℕ → Call
  -- the file was cut to this length, or was to be
  cut : ℕ → Call
  -- all that was written is on the disk
  flushed : Call
  -- the call before this failed
  failed : Call

pub record File : Type 0 where
  -- what is in the file if no call failed
  pub written : List ℕ
  -- so many octets of it are on the disk for certain
  pub synced : ℕ
  -- what the file held before the cuts that may not be on the disk yet
  pub under : List (List ℕ)
  -- no call has failed
  pub is_usable : Bool

abbrev pub no_file : File
no_file = record { written = []; synced = 0; under = []; is_usable = false }

abbrev pub after_call : Call → File → File
after_call (opened content) f = record { written = content; synced = length content; under = []; is_usable = true }
after_call (appended octets) f = record f { written = f.written ++ octets }
after_call (cut n) f = record f { written = take n f.written; synced = min n f.synced; under = f.written ∷ f.under }
after_call flushed f = record f { synced = length f.written; under = [] }
after_call failed f = record f { is_usable = false }

-- the file after these calls, of which the last comes first
abbrev pub file_after : List Call → File
file_after [] = no_file
file_after (call ∷ calls) = after_call call (file_after calls)

abbrev pub IsUsable : List Call → Type 0
IsUsable calls = IsTrue (file_after calls).is_usable

-- The octet is zero, or stands at this place of one of these. Past its end a content counts as zeros.
abbrev pub StandsIn : List (List ℕ) → ℕ → ℕ → Type 0
StandsIn [] place octet = octet ≡ 0
StandsIn (content ∷ contents) place octet = (octet ≡ slice_index content place) ⊎ StandsIn contents place octet

-- A loss of power may leave this of a file: up to the synced length each octet is as written, and past it each is as
-- written, or zero, or what lay there before a cut. So a later block may be there while an earlier one is not, and the
-- file may have any length from the synced one on, also more than was written if the rest is zeros.
pub record IsLeft (file : File) (content : List ℕ) : Type 0 where
  pub no_shorter : file.synced ≤ length content
  pub front : (place : ℕ) → place < file.synced → slice_index content place ≡ slice_index file.written place
  pub rest : (place : ℕ) → StandsIn (file.written ∷ file.under) place (slice_index content place)

-- whatever a loss of power leaves after these calls has P
abbrev pub AllLeft : (List ℕ → Type 0) → List Call → Type 0
AllLeft P calls = (content : List ℕ) → IsLeft (file_after calls) content → P content

-- Whatever a loss of power leaves has P: at any moment from after the calls `old` on, up to now.
pub data LeavesOnly (P : List ℕ → Type 0) (old : List Call) : List Call → Type 0 where
  at_first : AllLeft P old → LeavesOnly P old old
  then_also : (call : Call) (calls : List Call) → LeavesOnly P old calls → AllLeft P (call ∷ calls)
      → LeavesOnly P old (call ∷ calls)
