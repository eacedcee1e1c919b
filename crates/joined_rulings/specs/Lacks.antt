-- Why no journals are shown by given volumes, as it's told.
use Rattle.std.specs.Prelude.{◌≡◌, ℕ, List, [], ◌∷◌, ◌++◌, codes}
use Rattle.std.specs.Fmt.{decimal}
use Rattle.std.specs.declared.path.buf.PathBuf.{PathBuf}
use Rattle.binding_rules.specs.declared.role.Role.{Role}
use Rattle.binding_rules.specs.declared.role.Role.TheVariants.{Primary, Secondary}
use Rattle.book_rules.specs.Rules.{rule_number}
use Rattle.archive_desk.specs.declared.command_output.CommandOutput.{CommandOutput}
use Rattle.archive_desk.specs.Failing.{file_word}
use Rattle.volume_spans.specs.declared.refusal.JoinRefusal.{JoinRefusal}
use Rattle.volume_spans.specs.declared.refusal.JoinRefusal.TheVariants.{NotClosed, Rule, Head, TooLong}

-- what a side lacks
abbrev pub lack_front : Role → List ℕ
lack_front Primary = codes "lacking A "
lack_front Secondary = codes "lacking B "

abbrev pub no_volume_words : List ℕ
no_volume_words = codes "NoVolume: no file is a journal of this side\n"

abbrev pub missing_words : List ℕ
missing_words = codes "Missing: no file has volume "

abbrev pub no_volume_line : Role → List ℕ
no_volume_line side = lack_front side ++ no_volume_words

abbrev pub missing_line : Role → ℕ → List ℕ
missing_line side number = lack_front side ++ (missing_words ++ (decimal number ++ 10 ∷ []))

-- a blank and a number
abbrev pub number_word : ℕ → List ℕ
number_word n = 32 ∷ decimal n

abbrev pub refusal_words : {A : Type 0} → List (PathBuf A) → JoinRefusal → List ℕ
refusal_words names (NotClosed file) = codes "refused V5 NotClosed" ++ file_word names file
refusal_words names (Rule file line rule) =
    codes "refused V6 Rule" ++ (file_word names file ++ (number_word line ++ number_word (rule_number rule)))
refusal_words names (Head file line) = codes "refused V7 Head" ++ (file_word names file ++ number_word line)
refusal_words names (TooLong file) = codes "refused V8 TooLong" ++ file_word names file

abbrev pub refusal_line : {A : Type 0} → List (PathBuf A) → JoinRefusal → List ℕ
refusal_line names refusal = refusal_words names refusal ++ 10 ∷ []

-- nothing is given, with these notes
pub record IsNoneTold (notes : List ℕ) (told : CommandOutput) : Type 0 where
  pub text : told.text.items ≡ codes "none\n"
  pub status : told.status ≡ 1
  pub notes_are : told.notes.items ≡ notes

-- and standard error says last why
abbrev pub IsLackTold : (passed line : List ℕ) → CommandOutput → Type 0
IsLackTold passed line told = IsNoneTold (passed ++ line) told
