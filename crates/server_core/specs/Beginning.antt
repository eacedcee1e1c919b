-- How a server begins.
use Rattle.std.specs.Prelude.{◌≡◌, ℕ, ◌+◌, List, [], ◌++◌, length, None}
use Rattle.journal_lines.specs.declared.line.Journal.{Journal}
use Rattle.client_service.specs.Lines.{receipts_of}
use Rattle.order_book.specs.NextBook.{IsNextBook}
use Rattle.locked_book.specs.declared.receipt.Receipt.{Receipt}
use Rattle.disk_model.specs.Disk.{Call}
use Rattle.disk_model.specs.Names.{NameCall, names_after, AreSettled}
use Rattle.open_volume.specs.Spelling.{IsWrittenSoFar}
use Rattle.volume_store.specs.Volumes.{going_on, ended_volume, HasVolume}
use Rattle.server_core.specs.VolumeWriters.{WriterState}
use Rattle.server_core.specs.ServerStates.{CoreState}

-- with a book behind receipts of older volumes, of whose lines its file has so many; nothing is held back
pub record Begins {P : Type 0} (own : List ℕ) (older : List Receipt) (j : Journal) (kept : ℕ) (r : CoreState P)
    : Type 0 where
  pub own_is : r.own ≡ own
  pub served_is : r.volume.served ≡ record { journal = j; older = older }
  pub kept_is : r.volume.kept ≡ kept
  pub held_is : r.held ≡ []
  pub talk_is : r.talk ≡ None

-- with the book that follows a closed one at a reading, behind its receipts
pub record BeginsBehind {P : Type 0} (own : List ℕ) (older : List Receipt) (j : Journal) (now : ℕ) (r : CoreState P)
    : Type 0 where
  pub own_is : r.own ≡ own
  pub follows : IsNextBook j now r.volume.served.journal
  pub older_is : r.volume.served.older ≡ older ++ receipts_of j
  pub held_is : r.held ≡ []
  pub talk_is : r.talk ≡ None

-- ---- what stands on the disk then

-- the volume's file has the book's lines, all on the disk, and so are the names of the folder's files, of which there
-- are so many
pub record HasBook (j : Journal) (names : List NameCall) (count : ℕ) (v : WriterState) : Type 0 where
  pub has : HasVolume v.calls (going_on j)
  pub kept : v.kept ≡ length j.lines
  pub named : AreSettled names
  pub count_is : (names_after names).files ≡ count

-- the closed book's volume has ended in a file, and the volume behind it was begun in a folder that had so many files
pub record HasNextBook (j : Journal) (count : ℕ) (names : List NameCall) (v : WriterState) : Type 0 where
  pub now : ℕ
  pub next : Journal
  pub follows : IsNextBook j now next
  pub written : IsWrittenSoFar (going_on next)
  pub ended : List Call
  pub has_ended : HasVolume ended (ended_volume j)
  pub begun : HasBook next names (count + 1) v

-- nothing was put to the disk
pub record HasSameFiles {P : Type 0} (old new : CoreState P) : Type 0 where
  pub names : new.names ≡ old.names
  pub calls : new.volume.calls ≡ old.volume.calls
  pub kept : new.volume.kept ≡ old.volume.kept
