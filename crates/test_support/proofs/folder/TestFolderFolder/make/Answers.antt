use Rattle.disk_model.specs.Names.{made, names_after}
use Rattle.test_support.proofs.DrawnFolder.{mirrors_noted, on_well}
use Rattle.test_support.proofs.folder.TestFolderFolder.make.Goals as goal

pub invariant_of-self-2 : goal.invariant_of-self-2
invariant_of-self-2 c = λ known. mirrors_noted made c.note_made-2.result c.make.new.self c.self.inside.noted.calls
    c.note_made-2.new.self.calls c.note_made-2.ensures.noted
    (on_well c.make.result c.make.ensures ((c.if-is_err.ensures {u = tt}).value)
    (names_after c.self.inside.noted.calls) (c.self.invariant known))
