-- What a page was made by and of, and how to check it.
use Rattle.std.specs.Prelude.{ℕ, ◌==◌, if◌then◌else◌, List, [], ◌∷◌, ◌++◌, length}
use Rattle.std.specs.Fmt.{decimal}
use Rattle.text_fields.specs.Octets.{hex}
use Rattle.sha2.specs.Sha256.{sha256}
use Rattle.prefix_range.specs.Text.{prefix_text}
use Rattle.binding_rules.specs.declared.role.Role.{Role}
use Rattle.binding_rules.specs.declared.role.Role.TheVariants.{Primary, Secondary}
use Rattle.attribution.specs.VerdictText.{side_text}
use Rattle.report_render.specs.declared.facts.PageQuestion.{PageQuestion}
use Rattle.report_render.specs.declared.origin.CopiedVolumes.{CopiedVolumes}
use Rattle.report_render.specs.declared.origin.TextOrigin.{TextOrigin}
use Rattle.report_render.specs.declared.origin.TextOrigin.TheVariants.{Input, Copied}
use Rattle.report_render.specs.declared.origin.CheckForm.{CheckForm}
use Rattle.report_render.specs.declared.origin.CheckForm.TheVariants.{OverInput, OverFiles}
use Rattle.report_render.specs.declared.origin.SettingsRule.{SettingsRule}
use Rattle.report_render.specs.declared.origin.SettingsRule.TheVariants.{MustAgree, MayDiffer}
use Rattle.report_render.specs.declared.origin.PageCheck.{PageCheck}
use Rattle.report_render.specs.declared.origin.PageCheck.TheVariants.{Certificate, Holder}
use Rattle.report_render.specs.declared.origin.Provenance.{Provenance}
use Rattle.report_render.specs.declared.origin_template.OriginPart.{OriginPart}
use Rattle.report_render.specs.declared.origin_template.OriginPart.TheVariants as part
use Rattle.report_render.specs.Escaping.{escaped}
use Rattle.report_render.specs.OriginTemplate.{origin_text}

-- a part, and a number
abbrev pub counted_html : OriginPart → ℕ → List ℕ
counted_html before number = origin_text before ++ decimal number

-- the last of several volumes; nothing where there is one
abbrev pub last_html : OriginPart → CopiedVolumes → List ℕ
last_html before v = if v.first == v.last then [] else counted_html before v.last

-- which volumes of a side were used, and up to which line
unfoldable pub volumes_html : Role → CopiedVolumes → List ℕ
volumes_html side v =
    origin_text part.BeforeCopied ++ side_text side ++ counted_html part.FirstVolume v.first
    ++ last_html part.LastVolume v ++ counted_html part.UpToLine v.lines

-- the command that makes a side's text of them
unfoldable pub command_html : Role → CopiedVolumes → List ℕ
command_html side v =
    origin_text part.CopyCommand ++ side_text side ++ counted_html part.FromOption v.first
    ++ last_html part.ToOption v ++ counted_html part.LinesOption v.lines
    ++ origin_text part.IntoFile ++ side_text side ++ origin_text part.CommandEnd

-- where a side's text comes from
abbrev pub source_html : Role → TextOrigin → List ℕ
source_html side Input =
    origin_text part.BeforeInput ++ side_text side ++ origin_text part.BehindInput ++ side_text side
    ++ origin_text part.InputEnd
source_html side (Copied v) = volumes_html side v ++ command_html side v

-- the size of a text in octets, and its sum
unfoldable pub sum_html : OriginPart → List ℕ → List ℕ
sum_html name text =
    origin_text name ++ decimal (length text) ++ origin_text part.BeforeSum ++ hex (sha256 text)
    ++ origin_text part.SumEnd

-- that of the certificate, where there is one
abbrev pub check_sum_html : PageCheck → List ℕ
check_sum_html (Certificate text) = sum_html part.CertificateSum text.now
check_sum_html (Holder q rule) = []

-- those of what the page was made of
unfoldable pub sums_html : Provenance → List ℕ
sums_html o =
    origin_text part.BeforeSums ++ sum_html part.PrimarySum o.primary.text.now
    ++ sum_html part.SecondarySum o.secondary.text.now ++ check_sum_html o.check ++ origin_text part.SumsEnd

-- the text of the certificate, where there is one
abbrev pub certificate_html : PageCheck → List ℕ
certificate_html (Certificate text) =
    origin_text part.BeforeCertificate ++ escaped text.now ++ origin_text part.CertificateEnd
certificate_html (Holder q rule) = []

-- the options of the commands that check it
unfoldable pub options_html : (skew transit : ℕ) → List ℕ
options_html skew transit = counted_html part.SkewOption skew ++ counted_html part.TransitOption transit

-- two programs rule on the certificate
unfoldable pub audit_html : (skew transit : ℕ) → List ℕ
audit_html skew transit =
    origin_text part.BeforeAudit ++ options_html skew transit ++ origin_text part.BeforeSecondAudit
    ++ options_html skew transit ++ origin_text part.FromInput

-- one rules on it over files
unfoldable pub files_audit_html : (skew transit : ℕ) → List ℕ
files_audit_html skew transit =
    origin_text part.BeforeFilesAudit ++ options_html skew transit ++ origin_text part.AuditFiles

-- the option that lets the settings of both journals differ, where they may
abbrev pub settings_html : SettingsRule → List ℕ
settings_html MustAgree = []
settings_html MayDiffer = origin_text part.SettingsOption

-- the words of a question, behind the options
unfoldable pub question_words : PageQuestion → SettingsRule → List ℕ
question_words q rule =
    origin_text part.PrefixOption ++ prefix_text q.prefix ++ counted_html part.AtOption q.at ++ origin_text part.AtUnit
    ++ settings_html rule

-- the desk answers the question
unfoldable pub who_html : PageQuestion → SettingsRule → (skew transit : ℕ) → List ℕ
who_html q rule skew transit =
    origin_text part.BeforeWho ++ options_html skew transit ++ question_words q rule ++ origin_text part.FromInput

-- and over files
unfoldable pub files_who_html : PageQuestion → SettingsRule → (skew transit : ℕ) → List ℕ
files_who_html q rule skew transit =
    origin_text part.BeforeFilesWho ++ options_html skew transit ++ origin_text part.WhoFiles ++ question_words q rule
    ++ origin_text part.WhoFilesEnd

-- Over files where both texts are copies: one of volumes that are still written has no close line, and standard input
-- takes no such text.
abbrev pub check_form : (primary secondary : TextOrigin) → CheckForm
check_form Input secondary = OverInput
check_form (Copied v) Input = OverInput
check_form (Copied v) (Copied w) = OverFiles

abbrev pub check_html : CheckForm → PageCheck → (skew transit : ℕ) → List ℕ
check_html OverInput (Certificate text) skew transit = audit_html skew transit
check_html OverFiles (Certificate text) skew transit = files_audit_html skew transit
check_html OverInput (Holder q rule) skew transit = who_html q rule skew transit
check_html OverFiles (Holder q rule) skew transit = files_who_html q rule skew transit

-- journal A is the primary's
unfoldable pub sources_html : Provenance → List ℕ
sources_html o = source_html Primary o.primary.origin ++ source_html Secondary o.secondary.origin

-- the certificate, by which program and of what the page was made, and how to check it
unfoldable pub origin_html : Provenance → List ℕ
origin_html o =
    certificate_html o.check ++ origin_text part.BeforeProgram ++ escaped o.program.now ++ sums_html o
    ++ sources_html o ++ check_html (check_form o.primary.origin o.secondary.origin) o.check o.skew o.transit
