use Rattle.std.proofs.lemmas.Result.{on_ok_weaker}
use Rattle.zone_times.proofs.local.push_utc.Goals as goal

pub returns : goal.returns
returns c = on_ok_weaker c.push_time.result (λ t. record { text = t.0; text_is = t.2; added = t.1 }) c.push_time.ensures
