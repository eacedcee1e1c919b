-- The last grant line of each unit, as long as no later line ends its lease.
use Rattle.std.specs.Prelude.{ℕ, ◌+◌, ◌&&◌, Bool, true, false, not, List, [], ◌∷◌, Option, Some, None}
use Rattle.std.specs.Prelude.{if◌then◌else◌}
use Rattle.prefix_range.specs.Prefix.{Prefix}
use Rattle.binding_rules.specs.declared.unit.UnitStatus.{UnitStatus}
use Rattle.binding_rules.specs.declared.unit.UnitStatus.TheVariants.{Active}
use Rattle.journal_lines.specs.declared.event.Event.{Event}
use Rattle.journal_lines.specs.declared.event.Event.TheVariants.{Unit as UnitLine, Grant}
use Rattle.journal_lines.specs.declared.line.Line.{Line}
use Rattle.journal_lines.specs.declared.line.Journal.{Journal}
use Rattle.journal_lines.specs.Head.{volume_number}
use Rattle.book_state.specs.Book.{BookState, blank}
use Rattle.book_state.specs.Effects.{same_prefix, after}
use Rattle.unit_index.specs.Subjects.{subject_of}

abbrev pub is_about : Option Prefix → Prefix → Bool
is_about None q = false
is_about (Some p) q = same_prefix p q

-- Whether a line about a unit, which it leaves in this state, ends what a client had by a grant before: the unit isn't
-- ACTIVE any more, since it was released, expired or seized, or since a message of the partner's made it FREE or
-- FREE-BACKUP; or the line is of a volume's head, which says anew what the unit is.
abbrev pub ends_lease : Event → UnitStatus → Bool
ends_lease (UnitLine k) status = true
ends_lease e (Active k) = false
ends_lease e status = true

-- What the line at a place makes of the place of a unit's last grant line; `b` is the book after it.
abbrev pub latest_by : BookState → ℕ → Event → Prefix → Option ℕ → Option ℕ
latest_by b place (Grant g) q latest = if same_prefix g.prefix q then Some place else latest
latest_by b place e q latest =
    if is_about (subject_of e) q && ends_lease e (b.units q).status then None else latest

-- the lines from a place on, in the book before them
abbrev pub latest_from : ℕ → BookState → List Line → Prefix → Option ℕ → Option ℕ
latest_from place b [] q latest = latest
latest_from place b (l ∷ ls) q latest =
    latest_from (place + 1) (after b l) ls q (latest_by (after b l) place l.event q latest)

-- The place of a unit's last grant line, counted from 0, where no line after it ends the lease. A grant of an earlier
-- volume has none.
abbrev pub latest_grant : Journal → Prefix → Option ℕ
latest_grant j q = latest_from 0 (blank j.role (volume_number j.head)) j.lines q None
