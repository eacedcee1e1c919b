use Rattle.std.proofs.Common.{◌≡◌, ◌++◌, drop}
use Rattle.server_book.specs.Messages.{replies_of}
use Rattle.server_book.proofs.messages.replies_of.Given as goal

abbrev pub invariant-loop-place : goal.invariant-loop-place
invariant-loop-place l = l.replies.items ++ replies_of l.hidden (drop l.place l.ias) (drop l.place l.answers)
    ≡ replies_of l.hidden l.ias l.answers
