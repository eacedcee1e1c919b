use Rattle.std.proofs.Common.{subst, ap, sym, ◌∙◌, length, take, drop, ◌-◌, List}
use Rattle.journal_lines.specs.declared.line.Line.{Line}
use Rattle.volume_join.specs.Joined.{unclosed}
use Rattle.volume_spans.proofs.Onward.{behind_first}
use Rattle.line_origins.specs.Parts.{AllFitBehind, AreTogether}
use Rattle.line_origins.proofs.Fitting.{together_fit}
use Rattle.line_origins.proofs.parts.parts_of.Goals as goal

pub parts_from-requires : goal.parts_from-requires
parts_from-requires c =
    let all = behind_first c.args.volumes.now c.first-item.result c.in-len1-up.len_at_least c.first-item.is in
    subst (λ n. AllFitBehind n (take (length c.args.volumes.now - 1) (drop 1 c.args.volumes.now)))
    (sym (c.open_length-until_close.ensures ∙ ap (λ (ls : List Line). length (unclosed ls)) c.lines_in.ensures))
    (together_fit c.first-item.result (take (length c.args.volumes.now - 1) (drop 1 c.args.volumes.now)) (subst AreTogether all c.requires.together))
