use Rattle.std.specs.Prelude.{◌≡◌, ◌<◌, ℕ, Some, slice_get}
use Rattle.archive_files.specs.declared.cataloguing.SkippedFile.{SkippedFile}
use Rattle.archive_desk.specs.Unread.{IsUnread}
use Rattle.archive_desk.proofs.unread.expect_read.Given as goal

abbrev pub invariant-loop-each : goal.invariant-loop-each
invariant-loop-each l = (k : ℕ) (p : SkippedFile) → k < l.each-index → slice_get l.passed k ≡ Some p
    → IsUnread l.names p → ⊥
