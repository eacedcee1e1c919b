-- What is asked of a search.
use Rattle.std.specs.Prelude.{◌≡◌, ℕ, ◌+◌, ◌<◌, ◌≤◌, ◌⊎◌, List, All}
use Rattle.prefix_range.specs.Prefix.{Prefix}
use Rattle.causal_order.specs.declared.certificate.Certificate.{Certificate}
use Rattle.causal_order.specs.Journals.{Journals}
use Rattle.attribution.specs.declared.verdict.Verdict.TheVariants.{Accepted}
use Rattle.attribution.specs.FirstRefusal.{IsVerdict}
use Rattle.attribution.specs.Acceptance.{Tile, IsCarried, IsCovered, ReasonHolds}
use Rattle.plain_search.specs.declared.query.Query.{Query}
use Rattle.plain_search.specs.declared.query.HolderQuery.{HolderQuery}
use Rattle.plain_search.specs.Plain.{IsPlain}
use Rattle.plain_search.specs.Limits.{lines_of, most_lines}

-- who is asked of, which prefix and interval, and the bounds on clocks and answers
abbrev pub asked : (holder : List ℕ) → Prefix → (from to skew transit : ℕ) → Query
asked holder prefix from to skew transit = record {
  holder = holder;
  prefix = prefix;
  from = from;
  to = to;
  skew = skew;
  transit = transit;
}

-- the certificate says that this client held the whole prefix from the one moment up to the other
pub record Claims (q : Query) (c : Certificate) : Type 0 where
  pub holder : c.holder ≡ q.holder
  pub prefix : c.prefix ≡ q.prefix
  pub from : c.from ≡ q.from
  pub to : c.to ≡ q.to

-- an auditor accepts the certificate
pub record IsAuditorAccepted (js : Journals) (q : Query) (c : Certificate) : Type 0 where
  pub verdict : IsVerdict js q.skew q.transit c Accepted

-- it accepts no plain certificate that claims it
pub record HasNoPlainEvidence (js : Journals) (q : Query) : Type 0 where
  pub none : (c : Certificate) → Claims q c → IsPlain c → IsAuditorAccepted js q c → ⊥

-- A certificate that claims it has pieces from the interval's beginning on, each carried by its grant, and an entry
-- with its reason for each line that tells of another client's delegation; and more lines than a text may have.
pub record IsTooLong (js : Journals) (q : Query) : Type 0 where
  pub certificate : Certificate
  pub claims : Claims q certificate
  pub to : ℕ
  pub tiled : Tile q.from to certificate.pieces
  pub carried : All (IsCarried js q.skew q.transit certificate) certificate.pieces
  pub covered : IsCovered js certificate
  pub outside : All (ReasonHolds js q.skew q.transit certificate) certificate.foreign
  pub over : most_lines < lines_of certificate

-- no certificate tells it: an auditor accepts no plain one, or it would be too long
abbrev pub IsNotTold : Journals → Query → Type 0
IsNotTold js q = HasNoPlainEvidence js q ⊎ IsTooLong js q

-- ---- who held a prefix at a moment

-- the query with another interval
abbrev pub between : Query → (from to : ℕ) → Query
between q from to = asked q.holder q.prefix from to q.skew q.transit

-- whether this client held the prefix from the moment to the next
abbrev pub held_by : HolderQuery → List ℕ → Query
held_by q holder = asked holder q.prefix q.at (q.at + 1) q.skew q.transit

-- the certificate is of all of the prefix, and of an interval round the moment
pub record IsRound (q : HolderQuery) (c : Certificate) : Type 0 where
  pub prefix : c.prefix ≡ q.prefix
  pub from : c.from ≤ q.at
  pub to : q.at < c.to

-- an auditor accepts it
pub record IsAcceptedOf (js : Journals) (q : HolderQuery) (c : Certificate) : Type 0 where
  pub verdict : IsVerdict js q.skew q.transit c Accepted

-- Neither end of the interval can be moved outward by a millisecond: of this client no certificate tells it from before
-- the interval's beginning to the moment, or from its beginning to behind its end.
pub record IsWidest (js : Journals) (q : HolderQuery) (c : Certificate) : Type 0 where
  pub from : (m : ℕ) → m + 1 ≡ c.from → IsNotTold js (between (held_by q c.holder) m (q.at + 1))
  pub to : IsNotTold js (between (held_by q c.holder) c.from (c.to + 1))

-- it accepts no plain certificate of any client's at the moment
pub record HasNoPlainHolder (js : Journals) (q : HolderQuery) : Type 0 where
  pub none : (holder : List ℕ) → HasNoPlainEvidence js (held_by q holder)

-- that some client held it would take too long a certificate
abbrev pub IsTooLongOfOne : Journals → HolderQuery → Type 0
IsTooLongOfOne js q = (holder : List ℕ) × IsTooLong js (held_by q holder)
