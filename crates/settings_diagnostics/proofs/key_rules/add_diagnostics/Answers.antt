use Rattle.std.proofs.Common.{◌∙◌, ◌∷◌, ◌++◌, List, [], Vec, Global, ap, append_assoc}
use Rattle.toml.specs.View.{table_view}
use Rattle.settings_diagnostics.specs.declared.key_diagnostic.KeyDiagnostic.{KeyDiagnostic}
use Rattle.settings_diagnostics.proofs.Listing.{next_met, next_more}
use Rattle.settings_diagnostics.proofs.key_rules.add_diagnostics.Goals.{in-Some+in_ok-extend_from_slice, in_default}
use Rattle.settings_diagnostics.proofs.key_rules.add_diagnostics.Goals as goal

pub loop-wanted-preserved : goal.loop-wanted-preserved
loop-wanted-preserved c =
    let old = c.loop-wanted.invariant in
    let m = table_view c.args.table.now in
    elim c.match-diagnostic_at.branch [
      | in-Some+in_ok-extend_from_slice w ↦
          (let about = w.in-Some.ensures in
          let grown = w.in_ok-extend_from_slice.ensures.items in
          let one : List KeyDiagnostic = w.in-Some.complaint ∷ [] in (
            old.0 ++ one,
            ap (λ (v : Vec KeyDiagnostic Global). v.items) w.out-is ∙ grown ∙ ap (λ (l : List KeyDiagnostic). l ++ one) old.1
                ∙ append_assoc c.args.out.now.items old.0 one,
            next_more m c.args.place c.args.wishes.now c.loop-wanted.wanted-index _ old.0 w.in-Some.complaint
                c.loop-wanted-test.true old.2 about,
          ))
      | in_default w ↦
          (let met = w.in_default.ensures in (
            old.0,
            ap (λ (v : Vec KeyDiagnostic Global). v.items) w.out-is ∙ old.1,
            next_met m c.args.place c.args.wishes.now c.loop-wanted.wanted-index _ old.0 c.loop-wanted-test.true old.2
                met,
          ))
    ]
