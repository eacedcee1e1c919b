-- What releases leave of a grant.
use Rattle.std.specs.Prelude.{◌≡◌, ℕ, ◌≤◌, ◌↔◌, min, List, [], ◌∷◌}
use Rattle.std.proofs.Common.{arith, sym, subst, inl, inr}
use Rattle.causal_order.specs.declared.reference.Ref.{Ref}
use Rattle.causal_order.specs.Journals.{Journals}
use Rattle.attribution.specs.declared.delegation.Delegation.{Delegation}
use Rattle.attribution.specs.Delegation.{of_lease}
use Rattle.attribution.specs.Acceptance.{GivesBack}
use Rattle.auditor.specs.Walks.{AreReleases}
use Rattle.plain_search.specs.declared.query.Query.{Query}
use Rattle.plain_search.specs.declared.reach.Candidate.{Candidate}
use Rattle.plain_search.specs.Search.{IsReadAt, IsPlainlyBefore, IsKeptTo, AreKeptTo, IsReturnedBy}
use Rattle.plain_search.proofs.Orders.{line_read, one_reading}
use Rattle.plain_search.proofs.Walked.{Passed, AreOnly, passed_none, passed_on, passed_all, only_all, only_next}
use Rattle.plain_search.proofs.Walked.{only_on}

pub weaker : (js : Journals) (skew : ℕ) (c : Candidate) (less least : ℕ) (j : Ref) → less ≤ least
    → IsKeptTo js skew c least j → IsKeptTo js skew c less j
weaker js skew c less least j le (inl before) = inl before
weaker js skew c less least j le (inr from) = inr (from.0, from.1, (let x = from.2 in omega arith))

-- of the releases that were passed none cuts the grant off before the reading, and it is the greatest such
pub record IsKept (js : Journals) (skew : ℕ) (c : Candidate) (d : Delegation) (limit : ℕ) (left : List Ref)
    (kept : ℕ) : Type 0 where
  pub under : kept ≤ limit
  pub passed : Passed (λ r. GivesBack js r d) (IsKeptTo js skew c kept) left
  pub only : AreOnly (λ r. GivesBack js r d) left
  pub most : (least : ℕ) → least ≤ limit → ((j : Ref) → GivesBack js j d → IsKeptTo js skew c least j) → least ≤ kept

module _ (js : Journals) (skew : ℕ) (c : Candidate) (d : Delegation) (limit : ℕ) where
  pub kept_first : (left : List Ref) → AreReleases js d left → IsKept js skew c d limit left limit
  kept_first left rs = record {
    under = omega arith;
    passed = passed_none (λ r. GivesBack js r d) (IsKeptTo js skew c limit) left rs.all;
    only = only_all (λ r. GivesBack js r d) left rs.only;
    most = λ least le all. le;
  }

  -- a release that is plainly before the grant
  pub kept_before : (left more : List Ref) (r : Ref) (kept : ℕ) → left ≡ r ∷ more
      → ((x : ℕ) → IsReadAt js r x → IsPlainlyBefore js skew r c.grant)
      → IsKept js skew c d limit left kept → IsKept js skew c d limit more kept
  kept_before left more r kept e before h = record {
    under = h.under;
    passed = passed_on (λ r. GivesBack js r d) (IsKeptTo js skew c kept) (IsKeptTo js skew c kept) left more r e
        (λ j k. k) (λ back. inl (before back.0.reading (line_read js r back.0 back.1))) h.passed;
    only = only_on (λ r. GivesBack js r d) left more r e h.only;
    most = h.most;
  }

  most_by : (r : Ref) (x kept least : ℕ) → IsReadAt js r x → (IsPlainlyBefore js skew r c.grant → ⊥) → least ≤ kept
      → IsKeptTo js skew c least r → least ≤ min kept x
  most_by r x kept least read not le (inl before) = absurd (not before)
  most_by r x kept least read not le (inr from) = let same = one_reading js r from.0 x from.1 read in let y = from.2 in
      omega arith

  -- one that isn't
  pub kept_cut : (left more : List Ref) (r : Ref) (kept x : ℕ) → left ≡ r ∷ more → IsReadAt js r x
      → (IsPlainlyBefore js skew r c.grant → ⊥)
      → IsKept js skew c d limit left kept → IsKept js skew c d limit more (min kept x)
  kept_cut left more r kept x e read not h = record {
    under = (let le = h.under in omega arith);
    passed = passed_on (λ r. GivesBack js r d) (IsKeptTo js skew c kept) (IsKeptTo js skew c (min kept x)) left more r e
        (λ j k. weaker js skew c (min kept x) kept j (omega arith) k) (λ back. inr (x, read, omega arith)) h.passed;
    only = only_on (λ r. GivesBack js r d) left more r e h.only;
    most = λ least le all. most_by r x kept least read not (h.most least le all)
        (all r (only_next (λ r. GivesBack js r d) left more r e h.only));
  }

  pub kept_all : (left : List Ref) (kept : ℕ) → left ≡ [] → d ≡ of_lease c.lease → IsKept js skew c d limit left kept
      → (least : ℕ) → (least ≤ kept) ↔ ((least ≤ limit) × AreKeptTo js skew c least)
  kept_all left kept none is h least = (
    λ le. (
      (let under = h.under in omega arith),
      λ j back. weaker js skew c least kept j le
          (passed_all (λ r. GivesBack js r d) (IsKeptTo js skew c kept) left none h.passed j
          (subst (λ (x : Delegation). GivesBack js j x) (sym is) back)),
    ),
    λ two. h.most least two.0 (λ j back. two.1 j (subst (λ (x : Delegation). GivesBack js j x) is back)),
  )

-- ---- a release that shows what another client held to be over

pub record NoneReturned (js : Journals) (q : Query) (at : Ref) (d : Delegation) (left : List Ref) : Type 0 where
  pub passed : Passed (λ r. GivesBack js r d) (λ r. IsReturnedBy js q at r → ⊥) left
  pub only : AreOnly (λ r. GivesBack js r d) left

module _ (js : Journals) (q : Query) (at : Ref) (d : Delegation) where
  pub none_returned : (left : List Ref) → AreReleases js d left → NoneReturned js q at d left
  none_returned left rs = record {
    passed = passed_none (λ r. GivesBack js r d) (λ r. IsReturnedBy js q at r → ⊥) left rs.all;
    only = only_all (λ r. GivesBack js r d) left rs.only;
  }

  pub not_returned : (left more : List Ref) (r : Ref) → left ≡ r ∷ more → (IsReturnedBy js q at r → ⊥)
      → NoneReturned js q at d left → NoneReturned js q at d more
  not_returned left more r e not h = record {
    passed = passed_on (λ r. GivesBack js r d) (λ r. IsReturnedBy js q at r → ⊥) (λ r. IsReturnedBy js q at r
        → ⊥) left more r e (λ j k. k) (λ back. not) h.passed;
    only = only_on (λ r. GivesBack js r d) left more r e h.only;
  }

  pub next_gives : (left more : List Ref) (r : Ref) → left ≡ r ∷ more → NoneReturned js q at d left → GivesBack js r d
  next_gives left more r e h = only_next (λ r. GivesBack js r d) left more r e h.only

  pub all_passed : (left : List Ref) → left ≡ [] → NoneReturned js q at d left → (j : Ref) → GivesBack js j d
      → IsReturnedBy js q at j → ⊥
  all_passed left none h = passed_all (λ r. GivesBack js r d) (λ r. IsReturnedBy js q at r → ⊥) left none h.passed
