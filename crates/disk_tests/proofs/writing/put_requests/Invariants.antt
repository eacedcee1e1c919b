use Rattle.volume_store.specs.Volumes.{going_on, HasVolume}
use Rattle.disk_tests.proofs.writing.put_requests.Given as goal

abbrev pub invariant-loop-batch : goal.invariant-loop-batch
invariant-loop-batch g l = HasVolume (g.D.Device.calls l.file.device) (going_on l.book)
