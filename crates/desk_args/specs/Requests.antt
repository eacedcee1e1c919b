-- What the words of a command line ask, and in which form it is answered.
use Rattle.std.specs.Prelude.{◌≡◌, List, Some, None, codes}
use Rattle.std.specs.Option.{option_map}
use Rattle.clap.specs.Words.{Row, Text, first_of}
use Rattle.desk_args.specs.declared.request.AnswerForm.{AnswerForm}
use Rattle.desk_args.specs.declared.request.AnswerForm.TheVariants.{Plain as PlainAnswer, Json as JsonAnswer}
use Rattle.desk_args.specs.declared.request.ReportForm.{ReportForm}
use Rattle.desk_args.specs.declared.request.ReportForm.TheVariants.{Plain, Page, Json}
use Rattle.desk_args.specs.declared.request.ReportOptions.{ReportOptions}
use Rattle.desk_args.specs.declared.request.ReportFacts.{ReportFacts}
use Rattle.desk_args.specs.declared.request.DeskRequest.{DeskRequest}
use Rattle.desk_args.specs.declared.request.DeskRequest.TheVariants.{Answer, Explain, ExplainHolder, Join, Copy, Volumes}
use Rattle.desk_args.specs.Surrounding.{Around}
use Rattle.desk_args.specs.Given.{IsSkew, IsTransit, IsHolderQuery, IsSettings, IsGiven}
use Rattle.desk_args.specs.Joins.{IsJoinQuery}
use Rattle.desk_args.specs.Copies.{IsCopyQuery}

-- the flag stands among the words
abbrev pub IsSet : Text → List Row → Type 0
IsSet name rows = first_of name rows ≡ Some (codes "true")

abbrev pub IsUnset : Text → List Row → Type 0
IsUnset name rows = IsSet name rows → ⊥

-- `--html`, `--json`, or none of them
abbrev pub IsReportForm : List Row → ReportForm → Type 0
IsReportForm rows Plain = IsUnset (codes "html") rows × IsUnset (codes "json") rows
IsReportForm rows Page = IsSet (codes "html") rows × IsUnset (codes "json") rows
IsReportForm rows Json = IsUnset (codes "html") rows × IsSet (codes "json") rows

-- what a page says of its case, as it was given
pub record AreFacts (rows : List Row) (facts : ReportFacts) : Type 0 where
  pub case : option_map (λ text. text.now) facts.case ≡ first_of (codes "case") rows
  pub asked_by : option_map (λ text. text.now) facts.asked_by ≡ first_of (codes "asked-by") rows
  pub made : option_map (λ text. text.now) facts.made ≡ first_of (codes "made") rows

-- no word says any of it
pub record HasNoFacts (rows : List Row) : Type 0 where
  pub no_case : first_of (codes "case") rows ≡ None
  pub no_name : first_of (codes "asked-by") rows ≡ None
  pub no_date : first_of (codes "made") rows ≡ None

-- and the time zone, where one is named
pub record IsTelling (rows : List Row) (telling : ReportOptions) : Type 0 where
  pub form : IsReportForm rows telling.form
  pub zone : option_map (λ name. name.now) telling.zone ≡ first_of (codes "zone") rows
  pub facts : AreFacts rows telling.facts

-- no word asks for a report
pub record AsksNoReport (rows : List Row) : Type 0 where
  pub unexplained : IsUnset (codes "explain") rows
  pub no_page : IsUnset (codes "html") rows
  pub no_facts : HasNoFacts rows

-- `--json`, or nothing of it
abbrev pub IsAnswerForm : List Row → AnswerForm → Type 0
IsAnswerForm rows PlainAnswer = AsksNoReport rows × IsUnset (codes "json") rows
IsAnswerForm rows JsonAnswer = AsksNoReport rows × IsSet (codes "json") rows

-- the subcommand of this name and the values of its options ask this
abbrev pub IsAsked : Around → Text × List Row → DeskRequest → Type 0
IsAsked around found (Answer command form) = IsGiven around (Some found) command × IsAnswerForm found.1 form
IsAsked around found (Explain skew transit telling) =
    (found.0 ≡ codes "explain") × IsSkew around.heads (first_of (codes "skew-ms") found.1) skew
    × IsTransit around.heads (first_of (codes "transit-ms") found.1) transit × IsTelling found.1 telling
IsAsked around found (ExplainHolder query settings telling) =
    (found.0 ≡ codes "who") × IsSet (codes "explain") found.1 × IsHolderQuery around found.1 query
    × IsSettings (first_of (codes "settings-differ") found.1) settings × IsTelling found.1 telling
IsAsked around found (Join query) = (found.0 ≡ codes "join") × IsJoinQuery found.1 query
IsAsked around found (Copy query) = (found.0 ≡ codes "copy") × IsCopyQuery found.1 query
IsAsked around found Volumes = found.0 ≡ codes "volumes"

-- they ask nothing
abbrev pub IsNoRequest : Around → Text × List Row → Type 0
IsNoRequest around found = (request : DeskRequest) → IsAsked around found request → ⊥
