-- Why files answer nothing, by name and files.
use Rattle.std.specs.Prelude.{◌≡◌, ⊤, ℕ, List, [], ◌∷◌, ◌++◌, codes}
use Rattle.std.specs.Fmt.{decimal}
use Rattle.std.specs.declared.path.buf.PathBuf.{PathBuf}
use Rattle.journal_archive.specs.declared.error.ArchiveError.{ArchiveError}
use Rattle.journal_archive.specs.declared.error.ArchiveError.TheVariants.{NoVolume, Differ, OutOfOrder, Memory}
use Rattle.archive_files.specs.declared.error.FilesError.{FilesError}
use Rattle.archive_files.specs.declared.error.FilesError.TheVariants.{Archive, OtherPair, OtherHead, Unread, Changed}
use Rattle.archive_files.specs.declared.error.FilesError.TheVariants.{Faulty, Torn, Memory as FilesMemory}
use Rattle.archive_desk.specs.declared.command_output.CommandOutput.{CommandOutput}
use Rattle.archive_desk.specs.declared.failing.FilesFailure.{FilesFailure}
use Rattle.archive_desk.specs.declared.failing.FilesFailure.TheVariants.{Refused, Fault}
use Rattle.archive_desk.specs.Names.{name_at}

-- a blank and the name of a file
abbrev pub file_word : {A : Type 0} → List (PathBuf A) → ℕ → List ℕ
file_word names file = 32 ∷ name_at names file

abbrev pub refusal_words : {A : Type 0} → List (PathBuf A) → ArchiveError → List ℕ
refusal_words names (NoVolume file) = codes "refused V1 NoVolume" ++ file_word names file
refusal_words names (Differ first second) =
    codes "refused V2 Differ" ++ (file_word names first ++ file_word names second)
refusal_words names (OutOfOrder earlier later) =
    codes "refused V3 OutOfOrder" ++ (file_word names earlier ++ file_word names later)
refusal_words names Memory = codes "fault Memory"

abbrev pub refusal_line : {A : Type 0} → List (PathBuf A) → ArchiveError → List ℕ
refusal_line names error = refusal_words names error ++ 10 ∷ []

-- two files whose servers' settings differ
abbrev pub other_pair_line : {A : Type 0} → List (PathBuf A) → (first second : ℕ) → List ℕ
other_pair_line names first second =
    codes "refused V4 OtherPair" ++ (file_word names first ++ (file_word names second ++ 10 ∷ []))

-- V7: a volume that begins otherwise than the one before it names
abbrev pub other_head_line : {A : Type 0} → List (PathBuf A) → (file line : ℕ) → List ℕ
other_head_line names file line =
    codes "refused V7 Head" ++ (file_word names file ++ (32 ∷ (decimal line ++ 10 ∷ [])))

-- a file by the name of a volume's that can't be read
abbrev pub unread_line : {A : Type 0} → List (PathBuf A) → ℕ → List ℕ
unread_line names file = codes "fault Path" ++ (file_word names file ++ 10 ∷ [])

-- files that make no archive are refused
abbrev pub IsArchiveFailure : {A : Type 0} → List (PathBuf A) → ArchiveError → FilesFailure → Type 0
IsArchiveFailure names Memory (Fault line) = ⊤
IsArchiveFailure names Memory (Refused line) = ⊥
IsArchiveFailure names error (Refused line) = line.items ≡ refusal_line names error
IsArchiveFailure names error (Fault line) = ⊥

-- Which refusal it is, by its line, and that every other failure is a fault; of a file that can't be read, which.
abbrev pub IsFailure : {A : Type 0} → List (PathBuf A) → FilesError → FilesFailure → Type 0
IsFailure names (Archive error) failure = IsArchiveFailure names error failure
IsFailure names (OtherPair first second) (Refused line) = line.items ≡ other_pair_line names first second
IsFailure names (OtherHead file number) (Refused line) = line.items ≡ other_head_line names file number
IsFailure names (Unread file) (Fault line) = line.items ≡ unread_line names file
IsFailure names (Changed file) (Fault line) = ⊤
IsFailure names (Faulty file fault) (Fault line) = ⊤
IsFailure names (Torn file number) (Fault line) = ⊤
IsFailure names FilesMemory (Fault line) = ⊤
IsFailure names _ _ = ⊥

-- ---- how it is written

-- standard output says this line, and nothing else is said
pub record IsRefusal (line : List ℕ) (told : CommandOutput) : Type 0 where
  pub text : told.text.items ≡ line
  pub status : told.status ≡ 1
  pub quiet : told.notes.items ≡ []

-- standard error says this line, and nothing is answered
pub record IsFault (line : List ℕ) (told : CommandOutput) : Type 0 where
  pub silent : told.text.items ≡ []
  pub status : told.status ≡ 2
  pub notes : told.notes.items ≡ line

-- a refusal so, a fault on standard error
abbrev pub IsFailureTold : FilesFailure → CommandOutput → Type 0
IsFailureTold (Refused line) told = IsRefusal line.items told
IsFailureTold (Fault line) told = IsFault line.items told
