-- The book whose first lines a file has goes on with what the file has.
use Rattle.std.proofs.Common.{◌≡◌, ℕ, suc, ◌+◌, ◌≤◌, List, ◌∷◌, ◌++◌, length, map, take, refl, sym, ◌∙◌}
use Rattle.std.proofs.Common.{ap, arith, Result, Ok, Err}
use Rattle.text_fields.specs.Cuts.{with_stops}
use Rattle.journal_text.specs.declared.layout.TheConstants.{LINE_FEED}
use Rattle.journal_text.specs.Position.{start}
use Rattle.journal_text.specs.Spelling.{line_text, head_text, head_line}
use Rattle.journal_lines.specs.declared.fault.JournalFault.{JournalFault}
use Rattle.journal_lines.specs.declared.line.Journal.{Journal}
use Rattle.disk_model.specs.Disk.{Call}
use Rattle.disk_model.specs.Volumes.{HasSettled}
use Rattle.open_volume.specs.declared.volume.VolumeSoFar.{VolumeSoFar}
use Rattle.open_volume.specs.Spelling.{text_lines, volume_text, first_lines, behind_all, IsWrittenSoFar}
use Rattle.open_volume.specs.Faults.{volume_of}
use Rattle.open_volume.specs.Laws.{GivesTheVolumeItSpells, FirstLinesAreParsed}
use Rattle.open_volume.proofs.Phases.{no_end_line}
use Rattle.volume_store.specs.Volumes.{going_on}
use Rattle.server_core.specs.Going.{so_far}
use Rattle.server_core.specs.Servers.{IsFront}

-- an open volume has one text, whether or not its last line is close
pub same_text : (j : Journal) → text_lines (so_far j) ≡ text_lines (going_on j)
same_text j =
    ap (λ (ends : List (List ℕ)). head_text (head_line j) ∷ map line_text j.lines ++ ends)
    (no_end_line (behind_all start j.lines) (length j.lines))

abbrev value_of : VolumeSoFar → Result VolumeSoFar JournalFault → VolumeSoFar
value_of v (Ok w) = w
value_of v (Err e) = v

same_volume : (v w : VolumeSoFar) (r : Result VolumeSoFar JournalFault) → r ≡ Ok v → r ≡ Ok w → v ≡ w
same_volume v w r is also = ap (value_of v) (sym is ∙ also)

module _ (spells : GivesTheVolumeItSpells) (parsed : FirstLinesAreParsed) where
  pub front : (calls : List Call) (j k : Journal) (kept : ℕ) → HasSettled calls (text_lines (so_far j))
      → HasSettled calls (take (kept + 1) (text_lines (going_on k))) → kept ≡ length j.lines → kept ≤ length k.lines
      → IsWrittenSoFar (so_far j) → IsWrittenSoFar (so_far k) → IsFront j k
  front calls j k kept has had all within written longer =
      let next : kept + 1 ≡ suc kept = omega arith in
      let texts : text_lines (so_far j) ≡ take (suc kept) (text_lines (so_far k)) =
      sym has.lines_are ∙ had.lines_are ∙ ap (λ n. take n (text_lines (going_on k))) next
      ∙ ap (λ (ls : List (List ℕ)). take (suc kept) ls) (sym (same_text k)) in
      let one : volume_of (volume_text (so_far j)) ≡ Ok (so_far j) =
      (spells (volume_text (so_far j)) (so_far j)).1 (written, refl) in
      let other : volume_of (volume_text (so_far j)) ≡ Ok (first_lines kept (so_far k)) =
      ap (λ (ls : List (List ℕ)). volume_of (with_stops LINE_FEED ls)) texts ∙ parsed (so_far k) kept longer within in
      ap (λ (v : VolumeSoFar). v.journal) (same_volume (so_far j) (first_lines kept (so_far k))
      (volume_of (volume_text (so_far j))) one other)
      ∙ ap (λ n. record k { lines = take n k.lines }) all
