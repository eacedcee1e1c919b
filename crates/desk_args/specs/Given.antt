-- The command that the words of a command line give, as clap reads them.
use Rattle.std.specs.Prelude.{◌≡◌, ◌≢◌, ℕ, ◌<◌, ◌≤◌, ◌⊎◌, List, Option, Some, None, Ok, codes}
use Rattle.std.specs.Fmt.{decimal}
use Rattle.clap.specs.Words.{Row, Text, first_of}
use Rattle.text_fields.specs.Octets.{hex}
use Rattle.client_id.specs.Duid.{IsDuid}
use Rattle.prefix_range.specs.Prefix.{Prefix, IsPrefix}
use Rattle.prefix_range.specs.Spelling.{Spells}
use Rattle.plain_search.specs.declared.query.Query.{Query}
use Rattle.plain_search.specs.declared.query.HolderQuery.{HolderQuery}
use Rattle.jiff_tz.specs.declared.tzif.Tzif.{Tzif}
use Rattle.report_times.specs.ReportTimes.{IsReportTimeBy}
use Rattle.report_addresses.specs.ReportAddresses.{report_address}
use Rattle.report_addresses.specs.declared.reading.ReportAddress.{ReportAddress}
use Rattle.desk_args.specs.declared.bounds.HeadBounds.{HeadBounds}
use Rattle.desk_args.specs.Surrounding.{Around}
use Rattle.desk_args.specs.declared.when.BareNumbers.{BareNumbers}
use Rattle.desk_args.specs.declared.when.BareNumbers.TheVariants.{AnyMilliseconds, SureMilliseconds}
use Rattle.desk_args.specs.declared.settings.SettingsCheck.{SettingsCheck}
use Rattle.desk_args.specs.declared.settings.SettingsCheck.TheVariants.{MustAgree, MayDiffer}
use Rattle.desk_args.specs.declared.command.Command.{Command}
use Rattle.desk_args.specs.declared.command.Command.TheVariants.{Audit, Batch, Timeline, Clocks, Find, Who}

-- the text is this number's, in decimal digits, which is at most so much
abbrev pub IsNumber : (most : ℕ) → Option Text → ℕ → Type 0
IsNumber most None n = ⊥
IsNumber most (Some text) n = (text ≡ decimal n) × (n ≤ most)

-- milliseconds, at most a day; where no text is given what the heads of the journals say
abbrev pub IsSkew : (heads : Option HeadBounds) → Option Text → ℕ → Type 0
IsSkew heads (Some text) skew = IsNumber 86400000 (Some text) skew
IsSkew (Some heads) None skew = skew ≡ heads.skew
IsSkew None None skew = ⊥

-- milliseconds, at most an hour; where no text is given what the heads of the journals say, and 0 where they aren't asked
abbrev pub IsTransit : (heads : Option HeadBounds) → Option Text → ℕ → Type 0
IsTransit heads (Some text) transit = IsNumber 3600000 (Some text) transit
IsTransit (Some heads) None transit = transit ≡ heads.transit
IsTransit None None transit = transit ≡ 0

-- 1 to 64
abbrev pub IsWorkers : Option Text → ℕ → Type 0
IsWorkers text workers = IsNumber 64 text workers × (0 < workers)

-- the client's identifier, in hexadecimal digits
abbrev pub IsHolder : Option Text → List ℕ → Type 0
IsHolder None holder = ⊥
IsHolder (Some text) holder = (text ≡ hex holder) × IsDuid holder

-- the text is this prefix's (RFC 4291, section 2.3)
abbrev pub IsPrefixText : Option Text → Prefix → Type 0
IsPrefixText None p = ⊥
IsPrefixText (Some text) p = Spells text p.address p.length × IsPrefix p

-- milliseconds, at most 2^48
abbrev pub IsMoment : Option Text → ℕ → Type 0
IsMoment text moment = IsNumber 281474976710656 text moment

-- over files only a number that can be nothing else is milliseconds; over standard input each is
abbrev pub numbers_by : (journals : Option Text) → BareNumbers
numbers_by None = AnyMilliseconds
numbers_by (Some path) = SureMilliseconds

-- a moment as reports spell it, or in milliseconds
abbrev pub IsWhen : (clocks : Option Tzif) → BareNumbers → Option Text → ℕ → Type 0
IsWhen clocks numbers None moment = ⊥
IsWhen clocks SureMilliseconds (Some text) moment = (moment ≤ 281474976710656) × IsReportTimeBy clocks text moment
IsWhen clocks AnyMilliseconds (Some text) moment =
    (moment ≤ 281474976710656) × (IsReportTimeBy clocks text moment ⊎ (text ≡ decimal moment))

-- milliseconds; over files a moment as reports spell it too
abbrev pub IsEnd : (clocks : Option Tzif) → (journals : Option Text) → Option Text → ℕ → Type 0
IsEnd clocks None text moment = IsMoment text moment
IsEnd clocks (Some path) text moment = IsWhen clocks AnyMilliseconds text moment

-- who is asked of, which prefix and interval, and the bounds on clocks and answers
pub record IsQuery (around : Around) (rows : List Row) (q : Query) : Type 0 where
  pub skew : IsSkew around.heads (first_of (codes "skew-ms") rows) q.skew
  pub transit : IsTransit around.heads (first_of (codes "transit-ms") rows) q.transit
  pub holder : IsHolder (first_of (codes "holder") rows) q.holder
  pub prefix : IsPrefixText (first_of (codes "prefix") rows) q.prefix
  pub from : IsEnd around.zone (first_of (codes "journals") rows) (first_of (codes "from") rows) q.from
  pub to : IsEnd around.zone (first_of (codes "journals") rows) (first_of (codes "to") rows) q.to

-- the one of two texts that is given
abbrev pub one_of_two : Option Text → Option Text → Option Text
one_of_two (Some text) None = Some text
one_of_two None (Some text) = Some text
one_of_two _ _ = None

-- the address: an option's value, or the first word by its place
abbrev pub address_text : List Row → Option Text
address_text rows = one_of_two (first_of (codes "prefix") rows) (first_of (codes "address") rows)

-- the time: an option's value, or the second word by its place
abbrev pub time_text : List Row → Option Text
time_text rows = one_of_two (first_of (codes "at") rows) (first_of (codes "time") rows)

-- a prefix or an address as reports spell it
abbrev pub IsAddress : Option Text → ReportAddress → Type 0
IsAddress None address = ⊥
IsAddress (Some text) address = report_address text ≡ Ok address

-- which prefix is asked of, at which moment, and the bounds on clocks and answers
pub record IsHolderQuery (around : Around) (rows : List Row) (q : HolderQuery) : Type 0 where
  pub skew : IsSkew around.heads (first_of (codes "skew-ms") rows) q.skew
  pub transit : IsTransit around.heads (first_of (codes "transit-ms") rows) q.transit
  pub address : ReportAddress
  pub address_is : IsAddress (address_text rows) address
  pub prefix : q.prefix ≡ address.prefix
  pub at : IsWhen around.zone (numbers_by (first_of (codes "journals") rows)) (time_text rows) q.at

-- `--settings-differ` stands among the words
abbrev pub IsSettings : Option Text → SettingsCheck → Type 0
IsSettings text MayDiffer = text ≡ Some (codes "true")
IsSettings text MustAgree = text ≢ Some (codes "true")

-- the subcommand that clap finds in the words and the values of its options are those of the command
abbrev pub IsGiven : Around → Option (Text × List Row) → Command → Type 0
IsGiven around None command = ⊥
IsGiven around (Some found) (Audit skew transit) =
    (found.0 ≡ codes "audit") × IsSkew around.heads (first_of (codes "skew-ms") found.1) skew
    × IsTransit around.heads (first_of (codes "transit-ms") found.1) transit
IsGiven around (Some found) (Batch skew transit workers) =
    (found.0 ≡ codes "batch") × IsSkew around.heads (first_of (codes "skew-ms") found.1) skew
    × IsTransit around.heads (first_of (codes "transit-ms") found.1) transit
    × IsWorkers (first_of (codes "workers") found.1) workers
IsGiven around (Some found) Timeline = found.0 ≡ codes "timeline"
IsGiven around (Some found) Clocks = found.0 ≡ codes "clocks"
IsGiven around (Some found) (Find query) = (found.0 ≡ codes "find") × IsQuery around found.1 query
IsGiven around (Some found) (Who query settings) =
    (found.0 ≡ codes "who") × IsHolderQuery around found.1 query
    × IsSettings (first_of (codes "settings-differ") found.1) settings

-- they are those of no command
abbrev pub IsNoCommand : Around → Option (Text × List Row) → Type 0
IsNoCommand around found = (command : Command) → IsGiven around found command → ⊥
