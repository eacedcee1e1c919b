-- Whose pending replies are.
use Rattle.std.specs.Prelude.{◌≡◌, ℕ, List, Some}
use Rattle.prefix_range.specs.Prefix.{Prefix}
use Rattle.binding_rules.specs.declared.role.Role.{Role}
use Rattle.binding_rules.specs.declared.update.BindReply.{BindReply}
use Rattle.journal_lines.specs.declared.line.Line.{Line}
use Rattle.book_state.specs.Book.{blank}
use Rattle.book_rules.specs.Volumes.{book_after}

-- what lines leave a unit to reply is about that unit
abbrev pub RepliesAreOwn : Type 0
RepliesAreOwn = (role : Role) (volume : ℕ) (lines : List Line) (p : Prefix) (r : BindReply)
    → ((book_after (blank role volume) lines).units p).pending ≡ Some r → r.prefix ≡ p
