-- One side's lines, and its joined volumes among them.
use Rattle.std.specs.Prelude.{◌≡◌, ℕ, ◌+◌, List, ◌++◌, length}
use Rattle.std.proofs.Common.{suc, arith, ◌∙◌, ap, subst}
use Rattle.binding_rules.specs.declared.role.Role.{Role}
use Rattle.journal_lines.specs.declared.line.Line.{Line}
use Rattle.journal_lines.specs.Close.{until_close}
use Rattle.book_rules.specs.NextHead.{AreLegal}
use Rattle.volume_join.specs.Laws.{HaveRoom, JoinedIsLegal}
use Rattle.attribution.specs.Volumes.{past_close, volumes_in}
use Rattle.joined_runs.specs.Volumes.{SideVolumes}
use Rattle.joined_runs.specs.Left.{AreVolumesFrom}
use Rattle.joined_runs.proofs.Thinning.{Can, can_join, can_change}
use Rattle.joined_runs.proofs.Lines.{AreNext, beyond, changed_from, until_and_past}
use Rattle.joined_runs.proofs.Legal.{from_joined, AreChanged, changed, cut_there}

module _ (law : JoinedIsLegal) (side : Role) (lines : List Line) (index : ℕ) (v : SideVolumes)
    (each : AreVolumesFrom index lines v) (room : HaveRoom v.first v.further)
    (volumes : AreLegal side (volumes_in (suc (index + length v.further)) lines)) where
  pub cut : (v.first ≡ until_close (beyond index lines)) × AreNext v.further (past_close (beyond index lines))
  cut = cut_there index lines v each

  -- the lines with the joined volumes in place of the volumes
  abbrev pub changed_lines : List Line
  changed_lines = changed_from index (from_joined law side v.first v.further room (beyond index lines)) lines

  pub legal : AreChanged side 1 index v.first v.further
      (from_joined law side v.first v.further room (beyond index lines)) lines
  legal = changed law side v.first v.further room index 1 lines (omega arith) cut.0 cut.1 volumes

  pub can : (less : ℕ) × Can side (length v.further) less lines changed_lines
  can =
      let behind = past_close (beyond index lines) in
      let join = can_join side v.further v.first behind legal.shuts cut.1 in
      let are : v.first ++ behind ≡ beyond index lines =
      ap (λ z. z ++ behind) cut.0 ∙ until_and_past (beyond index lines) in
      let x = from_joined law side v.first v.further room (beyond index lines) in (
        join.0,
        can_change side (length v.further) join.0 index lines x
            (subst (λ z. Can side (length v.further) join.0 z x) are join.1),
      )
