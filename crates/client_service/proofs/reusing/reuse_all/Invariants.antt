use Rattle.std.proofs.Common.{◌≡◌, ◌≤◌, length}
use Rattle.client_service.specs.Ending.{AreFirstAgain}
use Rattle.client_service.proofs.reusing.reuse_all.Given as goal

abbrev pub invariant-loop-place : goal.invariant-loop-place
invariant-loop-place g l =
    (length l.answers.items ≡ l.place) × (l.place ≤ l.place-end) × (l.place-end ≡ length l.message.ias)
    × AreFirstAgain g.S.BookService.may_have l.terms l.message l.permits l.now l.place (g.S.BookService.receipts l.pass)
    l.answers.items l.line
