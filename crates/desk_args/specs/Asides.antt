-- What the words say beside the question: how an address stood, moments round the one asked of, and notes.
use Rattle.std.specs.Prelude.{◌≡◌, ℕ, ◌<◌, List, Option, None, codes}
use Rattle.clap.specs.Words.{Row, Text, first_of}
use Rattle.report_addresses.specs.declared.reading.AddressNote.{AddressNote}
use Rattle.report_addresses.specs.declared.reading.AddressNote.TheVariants.{Nothing}
use Rattle.report_addresses.specs.declared.reading.ReportAddress.{ReportAddress}
use Rattle.desk_args.specs.declared.asides.MomentSpan.{MomentSpan}
use Rattle.desk_args.specs.declared.asides.MomentSpan.TheVariants.{Alone, Within, Minute}
use Rattle.desk_args.specs.declared.asides.NoteDetail.{NoteDetail}
use Rattle.desk_args.specs.declared.asides.NoteDetail.TheVariants.{Brief, EachFile}
use Rattle.desk_args.specs.Given.{IsNumber, IsAddress, address_text}
use Rattle.desk_args.specs.Requests.{IsSet, IsUnset}

-- what of the address of `who` was passed over
pub record IsNoted (found : Text × List Row) (note : AddressNote) : Type 0 where
  pub address : found.0 ≡ codes "who" → (address : ReportAddress) → IsAddress (address_text found.1) address
      → note ≡ address.note
  pub others : (found.0 ≡ codes "who" → ⊥) → note ≡ Nothing

-- a number of seconds, 1 to 86400
abbrev pub IsWithin : Option Text → ℕ → Type 0
IsWithin text seconds = IsNumber 86400 text seconds × (0 < seconds)

-- `--within S`, `--minute`, or none of them
abbrev pub IsSpan : List Row → MomentSpan → Type 0
IsSpan rows Alone = (first_of (codes "within") rows ≡ None) × IsUnset (codes "minute") rows
IsSpan rows Minute = (first_of (codes "within") rows ≡ None) × IsSet (codes "minute") rows
IsSpan rows (Within seconds) = IsWithin (first_of (codes "within") rows) seconds × IsUnset (codes "minute") rows

-- `--verbose`, or nothing of it
abbrev pub IsDetail : List Row → NoteDetail → Type 0
IsDetail rows EachFile = IsSet (codes "verbose") rows
IsDetail rows Brief = IsUnset (codes "verbose") rows
