-- What is told of an answer, as lists.
use Rattle.std.specs.Prelude.{ℕ, List, []}
use Rattle.archive_desk.specs.declared.command_output.CommandOutput.{CommandOutput}

-- what is told so far
pub record Said : Type 0 where
  pub text : List ℕ
  pub status : ℕ
  pub notes : List ℕ

abbrev pub said_of : CommandOutput → Said
said_of told = record { text = told.text.items; status = told.status; notes = told.notes.items }

abbrev pub nothing : Said
nothing = record { text = []; status = 0; notes = [] }

-- this alone is noted
abbrev pub noted_first : List ℕ → Said
noted_first notes = record { text = []; status = 0; notes = notes }
