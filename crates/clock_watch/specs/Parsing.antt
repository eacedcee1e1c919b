-- For bodies only: a record's text, word by word.
use Rattle.std.specs.Prelude.{ℕ, ◌^◌, nat_le, List, [], ◌∷◌, Option, Some, None, if◌then◌else◌}
use Rattle.text_fields.specs.Cuts.{split}
use Rattle.text_fields.specs.Parsing.{◌>>=◌, alone, first_word}
use Rattle.text_fields.specs.Number.{number_of}
use Rattle.clock_watch.specs.declared.record.ClockRecord.{ClockRecord}
use Rattle.clock_watch.specs.Boots.{boot_of}

unfoldable pub reading_of : List ℕ → Option ℕ
reading_of word = do
  n ← number_of word
  if nat_le n (2 ^ 48) then Some n else None

-- the record that all words spell
unfoldable pub record_at : List (List ℕ) → Option ClockRecord
record_at words = do
  boot ← first_word boot_of words
  wall ← first_word reading_of boot.1
  uptime ← first_word number_of wall.1
  alone (record { boot = boot.0; wall = wall.0; uptime = uptime.0 }) uptime.1

-- the record of a text's lines: there is one, and behind its line feed nothing
unfoldable pub record_in : List (List ℕ) → Option ClockRecord
record_in (line ∷ [] ∷ []) = record_at (split 32 line)
record_in _ = None
