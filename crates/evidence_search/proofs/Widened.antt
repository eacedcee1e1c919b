-- Intervals that a search widens.
use Rattle.std.specs.Prelude.{◌≡◌, ℕ, ◌+◌, ◌<◌, ◌≤◌, List, Result, Ok, Err, IfOk}
use Rattle.std.proofs.Common.{arith, sym, subst}
use Rattle.binding_rules.specs.declared.role.Role.TheVariants.{Primary}
use Rattle.causal_order.specs.declared.certificate.Certificate.{Certificate}
use Rattle.journal_lines.specs.declared.line.Line.{Line}
use Rattle.causal_order.specs.Journals.{Journals, journal_of}
use Rattle.attribution.specs.Acceptance.{ClosesFrom, IsTrueInEveryRun}
use Rattle.attribution.proofs.Refusals.{accepted_from}
use Rattle.auditor.specs.Closing.{ClosesAt}
use Rattle.book_rules.specs.NextHead.{AreLegal}
use Rattle.plain_search.specs.declared.query.Query.{Query}
use Rattle.plain_search.specs.declared.query.HolderQuery.{HolderQuery}
use Rattle.plain_search.specs.declared.error.FindError.{FindError}
use Rattle.evidence_search.specs.Claim.{asked, between, held_by, Claims, IsAuditorAccepted, HasNoPlainEvidence, IsNotTold}
use Rattle.evidence_search.specs.Claim.{IsRound, IsAcceptedOf, IsWidest}
use Rattle.evidence_search.specs.Search.{IsShownRound}

pub past_reading : (lines : List Line) (reading limit : ℕ) → ClosesAt lines reading → reading < limit
    → ClosesFrom lines limit → ⊥
past_reading lines reading limit h lt x = let is = h.each x.0 x.1 x.2 in let le = x.3 in absurd (omega arith)

module _ (js : Journals) (q : Query) where
  pub shown_round : (c : Certificate) (from to : ℕ) → from ≤ q.from → q.to ≤ to → Claims (between q from to) c
      → IsAuditorAccepted js (between q from to) c → IsTrueInEveryRun AreLegal js q.skew q.transit c
      → IsShownRound js q c
  shown_round c from to before behind claims shown true = record {
    holder = claims.holder;
    prefix = claims.prefix;
    from = (let is = claims.from in omega arith);
    to = (let is = claims.to in omega arith);
    shown = record { verdict = shown.verdict };
    headline = true;
  }

  -- what was found goes from here to the query's end, and none is told from just before `low`
  pub record BeginsFrom (low : ℕ) (c : Certificate) : Type 0 where
    pub round : IsShownRound js q c
    pub to : c.to ≡ q.to
    pub within : low ≤ c.from
    pub none : (m : ℕ) → m + 1 ≡ low → IsNotTold js (between q m q.to)

  -- what was found goes from here on, and none is told to just behind `high`
  pub record EndsBy (from high : ℕ) (c : Certificate) : Type 0 where
    pub round : IsShownRound js q c
    pub from_is : c.from ≡ from
    pub within : c.to ≤ high
    pub none : IsNotTold js (between q from (high + 1))

  pub none_past : (from to : ℕ) → (ClosesFrom (journal_of js Primary) (to + q.skew) → ⊥)
      → HasNoPlainEvidence js (between q from to)
  none_past from to not = record {
    none = λ c claims plain shown. not (
        let ok = accepted_from js q.skew q.transit c shown.verdict in
        subst (λ (n : ℕ). ClosesFrom (journal_of js Primary) (n + q.skew)) claims.to (ok.closed Primary));
  }

-- ---- of one client

module _ (js : Journals) (q : HolderQuery) (holder : List ℕ) where
  abbrev Held : Query
  Held = held_by q holder

  pub round_of : (r : Result Certificate FindError) → IfOk r (IsShownRound js Held) → IfOk r (IsRound q)
  round_of (Err e) h = tt
  round_of (Ok c) h = record { prefix = h.prefix; from = h.from; to = (let to = h.to in omega arith) }

  pub accepted_of : (r : Result Certificate FindError) → IfOk r (IsShownRound js Held) → IfOk r (IsAcceptedOf js q)
  accepted_of (Err e) h = tt
  accepted_of (Ok c) h = record { verdict = h.shown.verdict }

  pub true_of : (r : Result Certificate FindError) → IfOk r (IsShownRound js Held)
      → IfOk r (IsTrueInEveryRun AreLegal js q.skew q.transit)
  true_of (Err e) h = tt
  true_of (Ok c) h = h.headline

  untold_before : (c : Certificate) (m : ℕ) → c.holder ≡ holder → IsNotTold js (between Held m (q.at + 1))
      → IsNotTold js (between (held_by q c.holder) m (q.at + 1))
  untold_before c m of none =
      subst (λ (h : List ℕ). IsNotTold js (asked h q.prefix m (q.at + 1) q.skew q.transit)) (sym of) none

  untold_behind : (c : Certificate) → c.holder ≡ holder → IsNotTold js (between Held c.from (c.to + 1))
      → IsNotTold js (between (held_by q c.holder) c.from (c.to + 1))
  untold_behind c of none =
      subst (λ (h : List ℕ). IsNotTold js (asked h q.prefix c.from (c.to + 1) q.skew q.transit)) (sym of) none

  pub widest_of : (r : Result Certificate FindError) → IfOk r (IsShownRound js Held)
      → IfOk r (λ c. (m : ℕ) → m + 1 ≡ c.from → IsNotTold js (between Held m (q.at + 1)))
      → IfOk r (λ c. IsNotTold js (between Held c.from (c.to + 1)))
      → IfOk r (IsWidest js q)
  widest_of (Err e) h before behind = tt
  widest_of (Ok c) h before behind = record {
    from = λ m before_it. untold_before c m h.holder (before m before_it);
    to = untold_behind c h.holder behind;
  }
