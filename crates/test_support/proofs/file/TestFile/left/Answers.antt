use Rattle.std.proofs.Common.{rules}
use Rattle.disk_model.specs.Disk.{file_after}
use Rattle.test_support.proofs.Drawn.{drawn_of_mirror}
use Rattle.test_support.proofs.file.TestFile.left.Goals as goal

pub returns : goal.returns
returns c = rw (← c.self.view_is) (drawn_of_mirror c.self.inside.state (file_after c.self.inside.noted.calls)
    (c.self.invariant (search rules)) c.draw_left.result c.draw_left.ensures)
