-- Parts of what a file had.
use Rattle.std.specs.Prelude.{ℕ, List}
use Rattle.journal_archive.specs.declared.end.FileEnd.{FileEnd}
use Rattle.journal_archive.specs.EdgeLaws.{BeginsWith, EndsWith}

-- the file, which had some octets when it was read, began with these
abbrev pub IsBeginning : (List ℕ → Type 0) → List ℕ → Type 0
IsBeginning had beginning = (octets : List ℕ) × had octets × BeginsWith octets beginning

-- it ended with these
abbrev pub IsEnd : (List ℕ → Type 0) → FileEnd → Type 0
IsEnd had end = (octets : List ℕ) × had octets × EndsWith octets end
