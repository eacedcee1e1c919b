-- For bodies only: what a search puts together, and what it shows.
use Rattle.std.specs.Prelude.{◌≡◌, ℕ, ◌<◌, ◌≤◌, List, Option, Some}
use Rattle.causal_order.specs.declared.reference.Ref.{Ref}
use Rattle.causal_order.specs.declared.certificate.Certificate.{Certificate}
use Rattle.causal_order.specs.declared.certificate.Piece.{Piece}
use Rattle.causal_order.specs.declared.certificate.Foreign.{Foreign}
use Rattle.causal_order.specs.Journals.{Journals}
use Rattle.attribution.specs.Acceptance.{IsTrueInEveryRun}
use Rattle.book_rules.specs.NextHead.{AreLegal}
use Rattle.plain_search.specs.declared.query.Query.{Query}
use Rattle.plain_search.specs.declared.query.HolderQuery.{HolderQuery}
use Rattle.plain_search.specs.declared.reach.CarriedSpan.{CarriedSpan}
use Rattle.plain_search.specs.Search.{CarriesAt, ReachTo, AreForeign}
use Rattle.evidence_search.specs.Claim.{Claims, IsAuditorAccepted, held_by}

-- ---- all of it

-- a certificate of the query with these pieces and entries
abbrev pub certificate_with : Query → List Piece → List Foreign → Certificate
certificate_with q pieces foreign = record {
  holder = q.holder;
  prefix = q.prefix;
  from = q.from;
  to = q.to;
  pieces = pieces;
  foreign = foreign;
}

pub record IsPutTogether (js : Journals) (q : Query) (c : Certificate) : Type 0 where
  pub pieces : ReachTo js q q.to c.pieces
  pub foreign : AreForeign js q c.foreign

-- a certificate that claims it, which is accepted, and true
pub record IsTold (js : Journals) (q : Query) (c : Certificate) : Type 0 where
  pub claims : Claims q c
  pub shown : IsAuditorAccepted js q c
  pub headline : IsTrueInEveryRun AreLegal js q.skew q.transit c

-- ---- who held a prefix at a moment

-- the certificate is of the query's client and prefix, and of an interval round the query's; and it is true
pub record IsShownRound (js : Journals) (q : Query) (c : Certificate) : Type 0 where
  pub holder : c.holder ≡ q.holder
  pub prefix : c.prefix ≡ q.prefix
  pub from : c.from ≤ q.from
  pub to : q.to ≤ c.to
  pub shown : IsAuditorAccepted js q c
  pub headline : IsTrueInEveryRun AreLegal js q.skew q.transit c

-- there is a grant, and it carries the moment
abbrev pub HasMoment : Option CarriedSpan → ℕ → Type 0
HasMoment found m = (x : CarriedSpan) × (found ≡ Some x) × (x.begin ≤ m) × (m < x.end)

-- the line grants this client what carries the moment
abbrev pub IsClientAt : Journals → HolderQuery → Ref → List ℕ → Type 0
IsClientAt js q r holder = CarriesAt js (held_by q holder) q.at r
