-- For bodies only: what they know and who asks, as the definitions have it.
use Rattle.std.specs.Prelude.{option_map}
use Rattle.order_book.specs.Replayed.{state_of}
use Rattle.client_limits.specs.declared.quotas.LimitContext.{LimitContext}
use Rattle.client_limits.specs.declared.quotas.Requester.{Requester}
use Rattle.client_limits.specs.Quotas.{Known, Asking}

abbrev pub known_of : LimitContext → Known
known_of c =
    record {
      limits = c.limits.now;
      reach = c.reach;
      book = state_of c.book.now;
      clients = c.clients.now;
      ports = c.ports.now;
      records = c.records.now;
      now = c.reading;
    }

abbrev pub asking_of : Requester → Asking
asking_of r = record { client = r.client.now; port = option_map (λ o. o.now) r.port; kind = r.kind }
