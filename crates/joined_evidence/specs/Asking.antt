-- What is asked where an interval begins.
use Rattle.plain_search.specs.declared.query.Query.{Query}
use Rattle.plain_search.specs.declared.query.HolderQuery.{HolderQuery}

-- who held the prefix at that moment
abbrev pub asked_at : Query → HolderQuery
asked_at q = record { prefix = q.prefix; at = q.from; skew = q.skew; transit = q.transit }
