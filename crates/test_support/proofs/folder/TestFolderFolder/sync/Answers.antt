use Rattle.disk_model.specs.Names.{names_after}
use Rattle.test_support.proofs.DrawnFolder.{mirrors_settled}
use Rattle.test_support.proofs.folder.TestFolderFolder.sync.Goals as goal

pub invariant_of-self : goal.invariant_of-self
invariant_of-self c = λ known. mirrors_settled c.note_sync.result _ c.settle.new.self c.self.inside.noted.calls
    c.note_sync.new.self.calls c.note_sync.ensures.result c.note_sync.ensures.noted
    (c.settle.ensures (names_after c.self.inside.noted.calls) (c.self.invariant known))
