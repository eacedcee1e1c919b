-- The names of a folder's files: what was asked of them, and which a loss of power may leave. The files are those of a
-- server's volumes, one behind another.
use Rattle.std.specs.Prelude.{◌≡◌, ◌⊎◌, ℕ, ◌+◌, ◌-◌, ◌≤◌, Bool, true, false, IsTrue, List, [], ◌∷◌, Result, Ok, Err}
use Rattle.disk_model.specs.declared.device.DeviceError.{DeviceError}

-- what was asked of the names, and what came of it
pub data NameCall : Type 0 where
  -- the folder was opened and held so many files, whose names are all on the disk
  held : ℕ → NameCall
  -- a file was made behind all others, or was to be
  made : NameCall
  -- the last file was removed, or was to be
  removed : NameCall
  -- all names are on the disk
  settled : NameCall
  -- the call before this failed
  refused : NameCall

pub record Names : Type 0 where
  -- so many files there are if no call failed
  pub files : ℕ
  -- the names of so many are on the disk for certain
  pub sure : ℕ
  -- no more than so many may be there
  pub most : ℕ
  -- no call has failed
  pub is_usable : Bool

abbrev pub no_names : Names
no_names = record { files = 0; sure = 0; most = 0; is_usable = false }

abbrev pub after_name_call : NameCall → Names → Names
after_name_call (held n) names = record { files = n; sure = n; most = n; is_usable = true }
after_name_call made names = record names { files = names.files + 1; most = names.most + 1 }
after_name_call removed names = record names { files = names.files - 1; sure = names.sure - 1 }
after_name_call settled names = record names { sure = names.files; most = names.files }
after_name_call refused names = record names { is_usable = false }

-- the names after these calls, of which the last comes first
abbrev pub names_after : List NameCall → Names
names_after [] = no_names
names_after (call ∷ calls) = after_name_call call (names_after calls)

-- all names are on the disk, so that a file may be made or removed: never are two names in doubt
pub record AreSettled (calls : List NameCall) : Type 0 where
  pub usable : IsTrue (names_after calls).is_usable
  pub sure : (names_after calls).sure ≡ (names_after calls).files
  pub most : (names_after calls).most ≡ (names_after calls).files

-- a loss of power may leave so many files
abbrev pub IsLeftOf : Names → ℕ → Type 0
IsLeftOf names count = (names.sure ≤ count) × (count ≤ names.most)

-- whatever number of files a loss of power leaves after these calls has P
abbrev pub AllNamesLeft : (ℕ → Type 0) → List NameCall → Type 0
AllNamesLeft P calls = (count : ℕ) → IsLeftOf (names_after calls) count → P count

-- Whatever number of files a loss of power leaves has P: at any moment from after the calls `old` on, up to now.
pub data NamesOnly (P : ℕ → Type 0) (old : List NameCall) : List NameCall → Type 0 where
  names_at_first : AllNamesLeft P old → NamesOnly P old old
  names_then_also : (call : NameCall) (calls : List NameCall) → NamesOnly P old calls → AllNamesLeft P (call ∷ calls)
      → NamesOnly P old (call ∷ calls)

-- at any moment a loss of power leaves as many files as there were, or one more
abbrev pub LeavesOneMore : List NameCall → List NameCall → Type 0
LeavesOneMore old new =
    NamesOnly (λ count. (count ≡ (names_after old).files) ⊎ (count ≡ (names_after old).files + 1)) old new

-- the call was noted, and that it failed if it did
abbrev pub NotesName : {T : Type 0} → Result T DeviceError → NameCall → List NameCall → List NameCall → Type 0
NotesName (Ok done) call old new = new ≡ call ∷ old
NotesName (Err e) call old new = new ≡ refused ∷ call ∷ old

-- a sync that failed is none
abbrev pub NotesNameSync : {T : Type 0} → Result T DeviceError → List NameCall → List NameCall → Type 0
NotesNameSync (Ok done) old new = new ≡ settled ∷ old
NotesNameSync (Err e) old new = new ≡ refused ∷ old
