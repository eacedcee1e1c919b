-- What was read of files, one after the other.
use Rattle.std.specs.Prelude.{◌≡◌, ℕ, ◌<◌, ◌≤◌, List, Some, slice_get, length}
use Rattle.std.proofs.Common.{arith}
use Rattle.std.specs.declared.path.buf.PathBuf.{PathBuf}
use Rattle.archive_files.specs.declared.cataloguing.SkippedFile.{SkippedFile}
use Rattle.std.proofs.lemmas.Option.{slice_get_within}
use Rattle.archive_desk.specs.Unread.{IsUnread, AllRead}

-- none of the first so many is unread, and these are all
pub none_unread : {A : Type 0} (names : List (PathBuf A)) (passed : List SkippedFile) (count : ℕ)
    → length passed ≤ count
    → ((k : ℕ) (p : SkippedFile) → k < count → slice_get passed k ≡ Some p → IsUnread names p → ⊥)
    → AllRead names passed
none_unread names passed count le none p at unread =
    let lt = slice_get_within passed at.0 p at.1 in
    none at.0 p (omega arith) at.1 unread
