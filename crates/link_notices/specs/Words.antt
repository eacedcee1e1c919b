-- The words of a notice, each of which spells a value.
use Rattle.std.specs.Prelude.{◌≡◌, ℕ, ◌^◌, ◌≤◌, ◌++◌, ◌&&◌, Bool, nat_le, List, length, Option, Some, None}
use Rattle.std.specs.Prelude.{if◌then◌else◌}
use Rattle.std.specs.List.{list_all, AllByRecursion}
use Rattle.text_fields.specs.Cuts.{behind}
use Rattle.text_fields.specs.Parsing.{◌>>=◌, first_word}
use Rattle.text_fields.specs.Number.{number_of}
use Rattle.link_notices.specs.declared.words.TheConstants.{SPACE}

-- the number that a word spells, where it is at most this limit
unfoldable pub number_within : ℕ → List ℕ → Option ℕ
number_within limit word = do
  n ← number_of word
  if nat_le n limit then Some n else None

-- the value of the first word, and the words behind it
abbrev pub number_at : ℕ → List (List ℕ) → Option (ℕ × List (List ℕ))
number_at limit words = first_word (number_within limit) words

-- a reading of a clock
abbrev pub reading_at : List (List ℕ) → Option (ℕ × List (List ℕ))
reading_at words = number_at (2 ^ 48) words

-- the text has these words more, each behind a space
abbrev pub AddsWords : List (List ℕ) → List ℕ → List ℕ → Type 0
AddsWords words old new = new ≡ old ++ behind SPACE words

-- ---- a program's name and version

-- a character of ASCII that is seen, and so no space
abbrev pub is_visible : ℕ → Bool
is_visible b = nat_le 33 b && nat_le b 126

abbrev pub is_program_word : List ℕ → Bool
is_program_word word = nat_le 1 (length word) && (nat_le (length word) 64 && list_all is_visible word)

abbrev pub IsVisible : ℕ → Type 0
IsVisible b = (33 ≤ b) × (b ≤ 126)

pub record IsProgramWord (word : List ℕ) : Type 0 where
  pub some : 1 ≤ length word
  pub few : length word ≤ 64
  pub visible : AllByRecursion IsVisible word
