use Rattle.std.proofs.Common.{IfSome}
use Rattle.disk_model.specs.Names.{AreSettled}
use Rattle.volume_store.specs.Volumes.{going_on, HasVolume}
use Rattle.disk_tests.proofs.writing.write_volumes.Given as goal

abbrev pub invariant-loop-requests : goal.invariant-loop-requests
invariant-loop-requests g l =
    IfSome l.open (λ v. AreSettled (g.F.Folder.calls l.folder)
    × HasVolume (g.F.File.Device.calls v.file.device) (going_on v.book))
