use Rattle.std.proofs.Common.{◌∙◌, ◌++◌, ap, refl}
use Rattle.archive_desk.proofs.answering.FilesAnswer.told.Goals as goal

pub returns : goal.returns
returns c = record {
  alone = c.in_ok-told.told;
  is_told = c.in_ok-told.ensures;
  text = refl;
  status = refl;
  passed = c.in_ok-notes.notes.items;
  notes = c.in_ok-extend_from_slice.ensures.items ∙ ap (λ n. c.in_ok-notes.notes.items ++ n) c.deref-2.ensures.value;
}
