-- When a server uses no serial: its partner would never have a message that it sends, and a journal that was put back
-- from a copy would come to look whole.
use Rattle.std.specs.Prelude.{◌≡◌, ⊤, Option, Some}
use Rattle.failover_session.specs.declared.stage.SessionStage.{SessionStage}
use Rattle.failover_session.specs.declared.stage.SessionStage.TheVariants.{Joined}
use Rattle.failover_session.specs.Receipts.{last_sent}
use Rattle.server_core.specs.ServerStates.{CoreState}
use Rattle.server_core.specs.Served.{receipts_in}
use Rattle.server_core.specs.Saying.{stage_of}

-- the message that was sent last is the same
abbrev pub UsesNoSerial : {P : Type 0} → CoreState P → CoreState P → Type 0
UsesNoSerial old new = last_sent (receipts_in new.volume.served) ≡ last_sent (receipts_in old.volume.served)

-- the two have joined over the connection
abbrev pub HasJoined : Option SessionStage → Type 0
HasJoined (Some (Joined last)) = ⊤
HasJoined _ = ⊥

-- until the two have joined none is used
abbrev pub UsesNoSerialApart : {P : Type 0} → CoreState P → CoreState P → Type 0
UsesNoSerialApart old new = (HasJoined (stage_of old.talk) → ⊥) → UsesNoSerial old new
