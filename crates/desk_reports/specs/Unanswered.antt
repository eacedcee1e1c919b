-- What is told where a question isn't asked of two journals.
use Rattle.std.specs.Prelude.{◌≡◌, ℕ, Bool, true, false, List, [], ◌∷◌, ◌++◌, ◌==◌, Option, Some, None}
use Rattle.std.specs.Prelude.{if◌then◌else◌, codes, drop, length}
use Rattle.std.specs.Option.{option_map}
use Rattle.std.specs.List.{flat_map}
use Rattle.serde_json.specs.Data.{Data, no_members}
use Rattle.text_fields.specs.Cuts.{split}
use Rattle.binding_rules.specs.declared.role.Role.{Role}
use Rattle.journal_archive.specs.declared.covering.CoverageGap.{CoverageGap}
use Rattle.plain_search.specs.declared.query.HolderQuery.{HolderQuery}
use Rattle.archive_desk.specs.declared.command_output.CommandOutput.{CommandOutput}
use Rattle.archive_desk.specs.declared.failing.FilesFailure.{FilesFailure}
use Rattle.archive_desk.specs.declared.failing.FilesFailure.TheVariants.{Refused, Fault}
use Rattle.archive_desk.specs.CoverageGaps.{BeginsWith, lack_front}
use Rattle.answer_data.specs.Unnamed.{IsLineData}
use Rattle.desk_args.specs.declared.request.ReportForm.{ReportForm}
use Rattle.desk_args.specs.declared.request.ReportForm.TheVariants.{Plain, Page, Json}
use Rattle.report_data.specs.Fields.{IsText, IsLineOf}
use Rattle.report_data.specs.Rulings.{With, IsObject, IsCount, IsVerdictLine}
use Rattle.report_render.specs.Escaping.{escaped}
use Rattle.desk_reports.specs.declared.unanswered.ReportQuestion.{ReportQuestion}
use Rattle.desk_reports.specs.declared.unanswered.ReportQuestion.TheVariants.{Certificate, Holder}

-- ---- lines

abbrev pub cut_at : Bool → Option (List ℕ)
cut_at true = Some []
cut_at false = None

-- what stands before the line feed that a text ends with
abbrev pub cut_end : List ℕ → Option (List ℕ)
cut_end [] = None
cut_end (b ∷ []) = cut_at (b == 10)
cut_end (b ∷ c ∷ text) = option_map (λ cut. b ∷ cut) (cut_end (c ∷ text))

abbrev pub or_whole : List ℕ → Option (List ℕ) → List ℕ
or_whole line None = line
or_whole line (Some cut) = cut

-- a line without its line feed
abbrev pub unended : List ℕ → List ℕ
unended line = or_whole line (cut_end line)

-- ---- as a page

unfoldable pub page_head : List ℕ
page_head =
    codes "<!DOCTYPE html>\n<html lang=\"en\">\n<head>\n<meta charset=\"utf-8\"/>\n"
    ++ codes "<title>Report on a delegated prefix</title>\n</head>\n<body>\n<h1>"

-- a paragraph ends where a line does, and the next begins
abbrev pub paragraph_octet : ℕ → List ℕ
paragraph_octet octet = if octet == 10 then codes "</p>\n<p>" else escaped (octet ∷ [])

abbrev pub paragraphs_of : Option (List ℕ) → List ℕ
paragraphs_of None = []
paragraphs_of (Some cut) = codes "<p>" ++ (flat_map paragraph_octet cut ++ codes "</p>\n")

-- each line of a text as a paragraph; nothing of a text that doesn't end with a line feed
abbrev pub paragraphs : List ℕ → List ℕ
paragraphs text = paragraphs_of (cut_end text)

-- a page up to its heading, which is a line
abbrev pub heading : (line : List ℕ) → List ℕ
heading line = page_head ++ (escaped (unended line) ++ codes "</h1>\n")

-- and under it further lines
abbrev pub line_page : (line notes : List ℕ) → List ℕ
line_page line notes = heading line ++ (paragraphs notes ++ codes "</body>\n</html>\n")

abbrev pub first_cut : List (List ℕ) → List ℕ
first_cut [] = []
first_cut (cut ∷ cuts) = cut

-- the first line of a text, and what stands behind it
abbrev pub first_line : List ℕ → List ℕ
first_line text = first_cut (split 10 text)

abbrev pub behind_line : List ℕ → List ℕ
behind_line text = drop 1 (drop (length (first_line text)) text)

-- a report's sentences: the first is the heading
abbrev pub sentences_page : List ℕ → List ℕ
sentences_page sentences = line_page (first_line sentences) (behind_line sentences)

-- ---- as an object

-- a fault's line, and the status of it
abbrev pub IsFaultData : (line : List ℕ) → Data → Type 0
IsFaultData line d =
    With (codes "format") (IsCount 1) (With (codes "fault") (IsText (unended line))
    (With (codes "status") (IsCount 2) (IsObject d))) no_members

abbrev pub IsFaultLine : (line text : List ℕ) → Type 0
IsFaultLine line text = (d : Data) × IsFaultData line d × IsLineOf d text

-- ---- in the form that is asked for

-- a line that rules on a certificate's text
abbrev pub IsRulingIn : ReportForm → (certificate line notes text : List ℕ) → Type 0
IsRulingIn Plain certificate line notes text = text ≡ line
IsRulingIn Page certificate line notes text = text ≡ line_page line notes
IsRulingIn Json certificate line notes text = IsVerdictLine (unended line) certificate text

-- a line that answers who held a prefix
abbrev pub IsAnswerIn : ReportForm → HolderQuery → (line notes text : List ℕ) → Type 0
IsAnswerIn Plain query line notes text = text ≡ line
IsAnswerIn Page query line notes text = text ≡ line_page line notes
IsAnswerIn Json query line notes text = IsLineData query line None text

abbrev pub IsLineIn : ReportForm → ReportQuestion → (line notes text : List ℕ) → Type 0
IsLineIn form (Certificate certificate) line notes text = IsRulingIn form certificate.now line notes text
IsLineIn form (Holder query) line notes text = IsAnswerIn form query.now line notes text

-- ---- what refuses

-- written so, with status 1 and these notes
pub record IsRefusedBy (Written : List ℕ → Type 0) (notes : List ℕ) (told : CommandOutput) : Type 0 where
  pub written : Written told.text.items
  pub status : told.status ≡ 1
  pub notes_are : told.notes.items ≡ notes

abbrev pub IsRefusedTold : ReportForm → ReportQuestion → (line notes : List ℕ) → CommandOutput → Type 0
IsRefusedTold form question line notes told = IsRefusedBy (IsLineIn form question line notes) notes told

abbrev pub IsRulingTold : ReportForm → (certificate line notes : List ℕ) → CommandOutput → Type 0
IsRulingTold form certificate line notes told = IsRefusedBy (IsRulingIn form certificate line notes) notes told

-- which side lacks a moment, and the lack's name
abbrev pub lack_line : Role → CoverageGap → List ℕ
lack_line side lack = lack_front side lack ++ 10 ∷ []

-- that line, and in the notes why
abbrev pub IsLackOf : ReportForm → ReportQuestion → Role → CoverageGap → CommandOutput → Type 0
IsLackOf form question side lack told =
    (why : List ℕ) × BeginsWith (lack_front side lack) why × IsRefusedTold form question (lack_line side lack) why told

abbrev pub IsLackTold : ReportForm → (certificate : List ℕ) → Role → CoverageGap → CommandOutput → Type 0
IsLackTold form certificate side lack told =
    (why : List ℕ) × BeginsWith (lack_front side lack) why
    × IsRulingTold form certificate (lack_line side lack) why told

-- the same of who held a prefix
abbrev pub IsHolderLackTold : ReportForm → HolderQuery → Role → CoverageGap → CommandOutput → Type 0
IsHolderLackTold form query side lack told =
    (why : List ℕ) × BeginsWith (lack_front side lack) why
    × IsRefusedBy (IsAnswerIn form query (lack_line side lack) why) why told

-- ---- where files answer nothing

-- the line of a fault: nothing beside it as sentences
abbrev pub IsFaultIn : ReportForm → (line text : List ℕ) → Type 0
IsFaultIn Plain line text = text ≡ []
IsFaultIn Page line text = text ≡ line_page line []
IsFaultIn Json line text = IsFaultLine line text

-- and standard error says it
pub record IsFaultTold (form : ReportForm) (line : List ℕ) (told : CommandOutput) : Type 0 where
  pub written : IsFaultIn form line told.text.items
  pub status : told.status ≡ 2
  pub notes_are : told.notes.items ≡ line

-- a refusal, or a fault
abbrev pub IsFailureTold : ReportForm → ReportQuestion → FilesFailure → CommandOutput → Type 0
IsFailureTold form question (Refused line) told = IsRefusedTold form question line.items [] told
IsFailureTold form question (Fault line) told = IsFaultTold form line.items told
