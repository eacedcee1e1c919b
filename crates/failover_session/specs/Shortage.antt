-- What shows that a server's own journal is short: a part of it was lost.
use Rattle.std.specs.Prelude.{◌≡◌, ℕ, ◌<◌, ⊤, List}
use Rattle.prefix_range.specs.Prefix.{Prefix}
use Rattle.locked_book.specs.declared.receipt.Receipt.{Receipt}
use Rattle.failover_session.specs.declared.policy.SessionPolicy.{SessionPolicy}
use Rattle.failover_session.specs.declared.policy.SessionPolicy.TheVariants.{Serve}
use Rattle.failover_session.specs.declared.shortage.JournalShortage.{JournalShortage}
use Rattle.failover_session.specs.declared.shortage.JournalShortage.TheVariants.{Messages, Change}
use Rattle.failover_session.specs.declared.stage.SessionStage.{SessionStage}
use Rattle.failover_session.specs.declared.stage.SessionStage.TheVariants.{Short}
use Rattle.failover_session.specs.Receipts.{last_sent}

-- The partner took a message behind the last that these receipts send; or it speaks of a change of a unit behind the last
-- that was made, which a daemon's session looks at alone.
abbrev pub IsShortage : SessionPolicy → List Receipt → JournalShortage → Type 0
IsShortage policy has (Messages taken sent) = (sent ≡ last_sent has) × (sent < taken)
IsShortage policy has (Change prefix taken made) = (policy ≡ Serve) × (made < taken)

-- a session that says that the journal is short says why
abbrev pub SaysWhyShort : SessionPolicy → List Receipt → SessionStage → Type 0
SaysWhyShort policy has (Short named shortage) = IsShortage policy has shortage
SaysWhyShort policy has _ = ⊤
