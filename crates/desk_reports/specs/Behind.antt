-- Notes that stand before what is told.
use Rattle.std.specs.Prelude.{◌≡◌, ℕ, List, ◌++◌}
use Rattle.std.specs.declared.path.buf.PathBuf.{PathBuf}
use Rattle.journal_archive.specs.declared.pair_lookup.VolumePair.{VolumePair}
use Rattle.archive_desk.specs.declared.command_output.CommandOutput.{CommandOutput}
use Rattle.archive_desk.specs.Names.{journals_line, volumes_note}
use Rattle.volume_spans.specs.declared.span.SpanPair.{SpanPair}

-- the same, with these notes in front
pub record IsBehindNotes (notes : List ℕ) (core told : CommandOutput) : Type 0 where
  pub text : told.text.items ≡ core.text.items
  pub status : told.status ≡ core.status
  pub notes_are : told.notes.items ≡ notes ++ core.notes.items

-- the last file of each side, and the volumes where they are several of a side
abbrev pub files_note : {A : Type 0} → List (PathBuf A) → VolumePair → SpanPair → List ℕ
files_note names pair spans = journals_line names pair ++ volumes_note spans
