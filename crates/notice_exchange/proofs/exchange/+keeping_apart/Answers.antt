use Rattle.notice_exchange.proofs.Among.{first_is_among, found_behind}
use Rattle.notice_exchange.proofs.exchange.+keeping_apart.Goals as goal

pub returns-then-keeps_apart-clause-some : goal.returns-then-keeps_apart-clause-some
returns-then-keeps_apart-clause-some t c =
    (first_is_among _ _ c.in-len1-up.len_at_least c.first-item.is, c.keeps_apart.ensures.0 c.if-keeps_apart.true)

pub returns-else-keeps_apart-clause-some : goal.returns-else-keeps_apart-clause-some
returns-else-keeps_apart-clause-some t c = found_behind _ _ _ c.keeping_apart.ensures.some
