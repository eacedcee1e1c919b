use Rattle.std.proofs.Common.{◌≡◌, drop}
use Rattle.server_book.specs.Messages.{further_of}
use Rattle.server_book.proofs.messages.further_of.Given as goal

abbrev pub invariant-loop-place : goal.invariant-loop-place
invariant-loop-place l = further_of (drop l.place l.ias) (drop l.place l.answers) ≡ further_of l.ias l.answers
