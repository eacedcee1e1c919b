-- What a server lets its clients order.
use Rattle.std.specs.Prelude.{◌≡◌, ⊤, true, false, ℕ, List}
use Rattle.journal_lines.specs.declared.line.Journal.{Journal}
use Rattle.order_book.specs.Replayed.{state_of}
use Rattle.dhcp6_pd.specs.declared.message.ClientMessage.{ClientMessage}
use Rattle.client_service.specs.declared.permit.Permit.{Permit}
use Rattle.client_service.specs.declared.permit.DropReason.{DropReason}
use Rattle.client_service.specs.declared.permit.DropReason.TheVariants.{TooMany, LeftToPartner, Memory}
use Rattle.client_limits.specs.declared.grant_records.GrantRecords.{GrantRecords}
use Rattle.client_limits.specs.declared.holders.Holders.{Holders}
use Rattle.client_limits.specs.declared.limiter.Limiter.{Limiter}
use Rattle.client_limits.specs.Origins.{port_of, name_by}
use Rattle.client_limits.specs.Quotas.{Known, permits_of, is_left}

-- what it knows at a journal and a reading, with lists of whom units were given to and by which ports, and of which
-- grants there are records
abbrev pub known_by : Limiter → Journal → ℕ → (clients ports : Holders) → GrantRecords → Known
known_by s j now clients ports records =
    record {
      limits = s.limits;
      reach = s.reach;
      book = state_of j;
      clients = clients;
      ports = ports;
      records = records;
      now = now;
    }

-- By its limits, by how far its partner is, by the book, by the relay port that the message came by, by lists of whom
-- units were given to and by which ports, and by the records of its grants: of units a quota counts those that the book
-- shows as given still, and whose lease lasts at the reading.
abbrev pub IsDecided : Limiter → Journal → ℕ → ClientMessage → List Permit → Type 0
IsDecided s j now m permits =
    (clients : Holders) × (ports : Holders) × (records : GrantRecords)
    × (permits ≡ permits_of (known_by s j now clients ports records) (name_by (port_of m.relays)) m)

-- it is heard: something of it may be ordered, or is answered
abbrev pub MayAdmit : Limiter → Journal → ℕ → ClientMessage → List Permit → Type 0
MayAdmit s j now m permits = IsDecided s j now m permits × (is_left m.kind permits ≡ false)

-- it isn't heard: its client sends too many, all that it asks for is left to the partner, or a growth was refused
abbrev pub MayDrop : Limiter → Journal → ℕ → ClientMessage → DropReason → Type 0
MayDrop s j now m TooMany = ⊤
MayDrop s j now m LeftToPartner =
    (permits : List Permit) × IsDecided s j now m permits × (is_left m.kind permits ≡ true)
MayDrop s j now m Memory = ⊤
