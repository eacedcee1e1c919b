use Rattle.std.proofs.Common.{◌≡◌, ◌-◌, Some, sym, ap, ◌∙◌, arith, rules}
use Rattle.std.specs.List.{slice_get}
use Rattle.std.proofs.lemmas.Option.{slice_get-get_or}
use Rattle.disk_model.proofs.Known.{has_content}
use Rattle.disk_model.proofs.last_files.LastFilesFiles.read.Goals as goal

pub returns-in-Ok : goal.returns-in-Ok
returns-in-Ok c contents are =
    let index = c.args.place - c.args.self.now.unread in
    let found = c.in-Some.ensures.lookup in
    let here : slice_get c.args.self.now.contents.items index ≡ Some c.in-Some.content.now =
    ap (λ all. slice_get all index) (sym c.deref.ensures.value)
    ∙ slice_get-get_or c.deref.result.now index c.in-Some.content.now found.3.0 ∙ ap Some (sym found.1) in
    let all = has_content (λ content. content.items) c.args.self.now.unread c.args.self.now.contents.items contents
    c.args.place c.in-Some.content.now (omega (arith, c.if-place-self.false)) here are in
    search rules
