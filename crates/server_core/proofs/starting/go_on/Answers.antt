use Rattle.std.proofs.Common.{◌∙◌, ap, subst, length, take, ◌-◌}
use Rattle.disk_model.specs.Volumes.{HasSettled}
use Rattle.open_volume.specs.Spelling.{text_lines}
use Rattle.volume_store.specs.Volumes.{going_on}
use Rattle.server_core.proofs.Kept.{has_before}
use Rattle.server_core.proofs.starting.go_on.Goals as goal

pub returns-in_ok-served-in-Ok-clause-has : goal.returns-in_ok-served-in-Ok-clause-has
returns-in_ok-served-in-Ok-clause-has g c =
    let lines = c.journal-lines.ensures.lines in
    let running = c.server_of.ensures in
    has_before c.args.book _ _ _ _ (ap (λ s. s.names) running)
    (ap (λ s. s.volume.calls) running ∙ c.new-volume.ensures.calls)
    (ap (λ s. s.volume.kept) running ∙ c.new-volume.ensures.kept ∙ ap (λ ls. length ls - 1) lines)
    (subst (λ ls. HasSettled (g.F.File.Device.calls c.in-Ok.file.device)
    (take (length ls) (text_lines (going_on c.args.book)))) lines c.in-Ok.ensures.settled)
    c.requires.names
