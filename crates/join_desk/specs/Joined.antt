-- What comes of the volumes of files that are put together in their order.
use Rattle.std.specs.Prelude.{◌≡◌, ℕ, ◌⊎◌, ◌+◌, List, [], ◌∷◌}
use Rattle.journal_lines.specs.declared.line.Journal.{Journal}
use Rattle.journal_archive.specs.declared.outline.FiledVolume.{FiledVolume}
use Rattle.open_volume.specs.declared.volume.VolumeSoFar.{VolumeSoFar}
use Rattle.order_book.specs.Replayed.{IsLegal}
use Rattle.archive_files.specs.Showing.{IsCopyOf}
use Rattle.archive_files.specs.Torn.{IsUntornCopyOf}
use Rattle.volume_join.specs.declared.error.JoinError.{JoinError}
use Rattle.volume_join.specs.Joined.{behind_head}
use Rattle.volume_join.specs.Joining.{Joining, one, with_next, IsContinuation, HasRoom, IsRefused, IsRuleRefusal}
use Rattle.volume_spans.specs.declared.refusal.JoinRefusal.{JoinRefusal}
use Rattle.volume_spans.specs.Refusals.{IsRefusalAt}
use Rattle.join_desk.specs.declared.outcome.JoinOutcome.{JoinOutcome}
use Rattle.join_desk.specs.declared.outcome.JoinOutcome.TheVariants.{Joined, Refused}

abbrev pub journal_of : Joining → Journal
journal_of j = record { role = j.last.role; head = j.head; lines = j.lines }

-- a copy of a volume that its file had: where further ones follow it, it isn't torn
abbrev pub IsReadBefore : (had : ℕ → List ℕ → Type 0) → (later : List FiledVolume) → FiledVolume → VolumeSoFar → Type 0
IsReadBefore had [] f v = IsCopyOf (had f.file) f v
IsReadBefore had (g ∷ gs) f v = IsUntornCopyOf (had f.file) f v

-- the last volume is left out where nobody was told of it: no line stands behind its head lines
abbrev pub IsLeftOut : List FiledVolume → VolumeSoFar → Type 0
IsLeftOut later v = (later ≡ []) × (behind_head v.journal.lines ≡ [])

-- What comes of volumes so far, so many, of which this file has the last, and of the further ones.
abbrev pub IsOutcomeFrom : (had : ℕ → List ℕ → Type 0) → Joining → (count before : ℕ) → List FiledVolume → JoinOutcome → Type 0
IsOutcomeFrom had j count before [] outcome = outcome ≡ Joined (journal_of j) count
IsOutcomeFrom had j count before (f ∷ fs) outcome =
    (v : VolumeSoFar) × IsReadBefore had fs f v
    × ((IsLeftOut fs v × (outcome ≡ Joined (journal_of j) count))
    ⊎ ((IsLeftOut fs v → ⊥) × (IsContinuation j.last v.journal × HasRoom j v.journal
    × IsOutcomeFrom had (with_next j v.journal) (count + 1) f.file fs outcome))
    ⊎ ((IsLeftOut fs v → ⊥) × ((e : JoinError) × (r : JoinRefusal) × IsRefused j v.journal e × IsRefusalAt before f.file e r
    × (outcome ≡ Refused r))))

-- what comes of all of them
abbrev pub IsOutcome : (had : ℕ → List ℕ → Type 0) → List FiledVolume → JoinOutcome → Type 0
IsOutcome had [] outcome = ⊥
IsOutcome had (f ∷ fs) outcome =
    (v : VolumeSoFar) × IsReadBefore had fs f v
    × ((IsLegal v.journal × IsOutcomeFrom had (one v.journal) 1 f.file fs outcome)
    ⊎ ((e : JoinError) × (r : JoinRefusal) × IsRuleRefusal v.journal e × IsRefusalAt f.file f.file e r
    × (outcome ≡ Refused r)))
