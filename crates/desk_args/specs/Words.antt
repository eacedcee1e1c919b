-- The command line that clap is told of.
use Rattle.std.specs.Prelude.{ℕ, List, [], Some, Bool, true, false, codes}
use Rattle.clap.specs.Words.{App, Rule, new_app, new_rule, with_rule, with_subcommand}
use Rattle.clap.specs.declared.builder.ArgAction.TheVariants.{Set, Append, SetTrue}
use Rattle.clap.specs.declared.builder.range.ValueRange.{ValueRange}

-- an option with a value, which must be given where it is required
abbrev pub option_rule : List ℕ → Bool → Rule
option_rule name required = record (new_rule name) { long = Some name; required = required; action = Some Set }

-- an option without a value
abbrev pub flag_rule : List ℕ → Rule
flag_rule name = record (new_rule name) { long = Some name; action = Some SetTrue }

-- one value or two
abbrev pub one_or_two : ValueRange
one_or_two = record { start_inclusive = 1; end_inclusive = 2 }

-- an option with a value or two, which may be given again, and must be given where it is required
abbrev pub list_rule : List ℕ → Bool → Rule
list_rule name required =
    record (new_rule name) { long = Some name; required = required; action = Some Append; range = Some one_or_two }

-- a word by its place
abbrev pub place_rule : List ℕ → Rule
place_rule name = record (new_rule name) { action = Some Set }

-- journals from files: and of those that are passed over each is told, or how many there are
abbrev pub from_files : Bool → App → App
from_files required app =
    with_rule (with_rule app (list_rule (codes "journals") required)) (flag_rule (codes "verbose"))

-- the command takes its journals from files too
abbrev pub with_journals : App → App
with_journals app = from_files false app

-- from files alone
abbrev pub over_journals : App → App
over_journals app = from_files true app

-- and its certificates, which may be over these volumes
abbrev pub with_certificate : App → App
with_certificate app =
    with_rule (with_rule (with_journals app) (option_rule (codes "certificate") false)) (option_rule (codes "volumes") false)

-- its answer may be one JSON object
abbrev pub with_json : App → App
with_json app = with_rule app (flag_rule (codes "json"))

-- which case a page is of, and who asked
abbrev pub with_case : App → App
with_case app = with_rule (with_rule app (option_rule (codes "case") false)) (option_rule (codes "asked-by") false)

-- and when it was made
abbrev pub with_facts : App → App
with_facts app = with_rule (with_case app) (option_rule (codes "made") false)

-- and the time zone
abbrev pub with_zone : App → App
with_zone app = with_rule (with_facts app) (option_rule (codes "zone") false)

-- how a report is told
abbrev pub with_telling : App → App
with_telling app = with_json (with_rule (with_zone app) (flag_rule (codes "html")))

-- a certificate over two journals, and the bounds on clocks and answers
abbrev pub claim_app : List ℕ → App
claim_app name =
    with_certificate (with_rule (with_rule (new_app name) (option_rule (codes "skew-ms") false))
    (option_rule (codes "transit-ms") false))

abbrev pub audit_app : App
audit_app = with_json (claim_app (codes "audit"))

abbrev pub explain_app : App
explain_app = with_telling (claim_app (codes "explain"))

abbrev pub batch_app : App
batch_app =
    with_certificate (with_rule (with_rule (with_rule (new_app (codes "batch")) (option_rule (codes "skew-ms") false))
    (option_rule (codes "workers") true)) (option_rule (codes "transit-ms") false))

-- who is asked of, and what
abbrev pub asking_app : App
asking_app =
    with_rule (with_rule (with_rule (new_app (codes "find")) (option_rule (codes "skew-ms") false))
    (option_rule (codes "holder") true)) (option_rule (codes "prefix") true)

abbrev pub find_app : App
find_app =
    with_json (with_rule (with_journals (with_rule (with_rule (with_rule asking_app (option_rule (codes "from") true))
    (option_rule (codes "to") true)) (option_rule (codes "transit-ms") false))) (option_rule (codes "zone") false))

-- a subcommand has to be named
abbrev pub bare : App
bare = record {
  top = record (new_app (codes "desk_cli")).top { disable_help_subcommand = true; subcommand_required = true };
  subs = [];
}

abbrev pub judging_app : App
judging_app = with_subcommand (with_subcommand bare audit_app.top) batch_app.top

-- all that take certificates
abbrev pub claims_app : App
claims_app = with_subcommand judging_app explain_app.top

-- which prefix is asked of, and at which moment: by options, or by two words
abbrev pub moment_app : App
moment_app =
    with_rule (with_rule (with_rule (with_rule (with_rule (new_app (codes "who")) (option_rule (codes "skew-ms") false))
    (option_rule (codes "prefix") false)) (option_rule (codes "at") false)) (place_rule (codes "address")))
    (place_rule (codes "time"))

-- and the moments round it for which the answer must hold
abbrev pub span_app : App
span_app = with_rule (with_rule moment_app (option_rule (codes "within") false)) (flag_rule (codes "minute"))

abbrev pub who_app : App
who_app =
    with_telling (with_rule (with_journals (with_rule (with_rule span_app (option_rule (codes "transit-ms") false))
    (flag_rule (codes "settings-differ")))) (flag_rule (codes "explain")))

abbrev pub timeline_app : App
timeline_app = with_journals (new_app (codes "timeline"))

-- of which side, from which volume to which
abbrev pub join_app : App
join_app =
    with_rule (with_rule (with_rule (over_journals (new_app (codes "join"))) (option_rule (codes "side") true))
    (option_rule (codes "from") false)) (option_rule (codes "to") false)

-- the text of these, from which volume to which, up to which line
abbrev pub side_copy_app : App
side_copy_app =
    with_rule (with_rule (over_journals (new_app (codes "copy"))) (option_rule (codes "side") true))
    (option_rule (codes "from") true)

abbrev pub copy_app : App
copy_app =
    with_rule (with_rule side_copy_app (option_rule (codes "to") false)) (option_rule (codes "lines") true)

abbrev pub searching_app : App
searching_app = with_subcommand (with_subcommand claims_app find_app.top) who_app.top

abbrev pub showing_app : App
showing_app = with_subcommand (with_subcommand searching_app timeline_app.top) (new_app (codes "clocks")).top

-- which volumes files have
abbrev pub volumes_app : App
volumes_app = over_journals (new_app (codes "volumes"))

abbrev pub desk : App
desk = with_subcommand (with_subcommand (with_subcommand showing_app join_app.top) copy_app.top) volumes_app.top
