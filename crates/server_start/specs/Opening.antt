-- What a book was opened with, of a server's settings.
use Rattle.std.specs.Prelude.{ℕ, List}
use Rattle.binding_rules.specs.declared.role.Role.{Role}
use Rattle.journal_lines.specs.declared.line.Journal.{Journal}
use Rattle.book_state.specs.declared.pool.Pool.{Pool}
use Rattle.book_state.specs.Book.{BookState}
use Rattle.order_book.specs.Replayed.{state_of}

pub record Opened : Type 0 where
  pub role : Role
  pub skew : ℕ  -- milliseconds
  pub mclt : ℕ  -- the maximum client lead time, in seconds
  pub life : ℕ  -- the desired lifetime, in seconds
  pub transit : ℕ  -- milliseconds
  pub pools : List Pool

-- what a book of this role says of the settings
abbrev pub said_by : Role → BookState → Opened
said_by role b =
    record {
      role = role;
      skew = b.skew;
      mclt = b.mclt;
      life = b.life;
      transit = b.transit;
      pools = b.pools;
    }

-- what a server's book was opened with, which no later line changes
abbrev pub opened : Journal → Opened
opened j = said_by j.role (state_of j)
