use Rattle.std.proofs.Common.{◌≡◌, ◌++◌, take}
use Rattle.join_desk.specs.Telling.{file_words}
use Rattle.join_desk.proofs.telling.push_files.Given as goal

abbrev pub invariant-loop-volume : goal.invariant-loop-volume
invariant-loop-volume l = l.out.items ≡ l.fn.out.items ++ file_words l.names (take l.volume-index l.taken)
