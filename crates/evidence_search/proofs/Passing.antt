-- Messages that lead forward.
use Rattle.std.specs.Prelude.{◌≡◌, ℕ, ◌+◌, ◌-◌, ◌<◌, ◌≤◌, true, false, nat_lt, nat_le, List, [], ◌∷◌, ◌++◌, length, All}
use Rattle.std.specs.Prelude.{Contains as Has}
use Rattle.std.specs.List.Sorted.{IsNonDecreasingBy, IsPartitionPoint}
use Rattle.std.proofs.Common.{arith, sym, subst, refl, inl, inr, get_or}
use Rattle.std.proofs.lemmas.Bool.{cases_lt}
use Rattle.std.proofs.lemmas.List.{get_or_default}
use Rattle.std.proofs.lemmas.List.Elements.{All-get_or}
use Rattle.std.proofs.lemmas.List.Sorted.{IsNonDecreasingBy-push}
use Rattle.binding_rules.specs.declared.role.Role.{Role}
use Rattle.binding_rules.specs.declared.role.Role.TheVariants.{Primary, Secondary}
use Rattle.binding_rules.specs.Role.{partner_of}
use Rattle.causal_order.specs.Journals.{Journals}
use Rattle.causal_order.specs.Order.{IsChain}
use Rattle.causal_order.proofs.Deciding.{decides_lt, decides_le}
use Rattle.evidence_search.specs.declared.messages.DeliveredMessage.{DeliveredMessage}
use Rattle.evidence_search.specs.DeliveredMessages.{IsDeliveredMessage, AreRising}
use Rattle.plain_search.proofs.Orders.{not_both}
use Rattle.plain_search.proofs.Carrying.{all_more}

-- ---- as they are collected

partner_twice : (side : Role) → partner_of (partner_of side) ≡ side
partner_twice Primary = refl
partner_twice Secondary = refl

pub record ArePassed (js : Journals) (side : Role) (last take : ℕ) (ps : List DeliveredMessage) : Type 0 where
  pub each : All (IsDeliveredMessage js side) ps
  pub rising : AreRising ps
  pub sent : All (λ (p : DeliveredMessage). p.send ≤ last) ps
  pub taken : All (λ (p : DeliveredMessage). p.take < take) ps

no_pairs : (n : DeliveredMessage → ℕ) → IsNonDecreasingBy n []
no_pairs n i j d le lt = absurd (omega arith)

module _ (js : Journals) (side : Role) where
  pub none_passed : (last take : ℕ) (ps : List DeliveredMessage) → ps ≡ [] → ArePassed js side last take ps
  none_passed last take ps e = subst (ArePassed js side last take) (sym e) (record {
    each = λ k d lt. absurd (omega arith);
    rising = (no_pairs (λ (p : DeliveredMessage). p.send), no_pairs (λ (p : DeliveredMessage). p.take));
    sent = λ k d lt. absurd (omega arith);
    taken = λ k d lt. absurd (omega arith);
  })

  pub next_taken : (last take : ℕ) (ps : List DeliveredMessage) → ArePassed js side last take ps
      → ArePassed js side last (take + 1) ps
  next_taken last take ps h = record {
    each = h.each;
    rising = h.rising;
    sent = h.sent;
    taken =
        λ k d lt. (let t = h.taken k d lt in omega arith);
  }

  module _ (last take : ℕ) (ps : List DeliveredMessage) (p : DeliveredMessage) (h : ArePassed js side last take ps)
      (later : last < p.send) (at : p.take ≡ take) where
    sends : (d : DeliveredMessage) → 0 < length ps → (get_or ps (length ps - 1) d).send ≤ p.send
    sends d some = let x = All-get_or (λ (q : DeliveredMessage). q.send ≤ last) ps (length ps - 1) d (omega arith) h.sent in
        omega arith

    takes : (d : DeliveredMessage) → 0 < length ps → (get_or ps (length ps - 1) d).take ≤ p.take
    takes d some = let x = All-get_or (λ (q : DeliveredMessage). q.take < take) ps (length ps - 1) d (omega arith) h.taken in
        omega arith

    pub one_passed : (on : List DeliveredMessage) (other : Role) → on ≡ ps ++ p ∷ [] → other ≡ partner_of side
        → IsChain js (record { side = partner_of other; number = p.send } ∷ record { side = other; number = p.take }
        ∷ []) → ArePassed js side p.send (take + 1) on
    one_passed on other same is_other chain =
        let near : IsChain js (record { side = partner_of (partner_of side); number = p.send } ∷ record {
          side =
              partner_of side;
          number = p.take;
        } ∷ []) =
        subst (λ (s : Role). IsChain js (record { side = partner_of s; number = p.send } ∷ record {
          side = s;
          number = p.take;
        } ∷ [])) is_other chain in
        let is : IsDeliveredMessage js side p =
        subst (λ (s : Role). IsChain js (record { side = s; number = p.send } ∷ record {
          side = partner_of side;
          number = p.take;
        } ∷ [])) (partner_twice side) near in
        subst (ArePassed js side p.send (take + 1)) (sym same) (record {
          each = all_more (IsDeliveredMessage js side) ps p h.each is;
          rising = (
            IsNonDecreasingBy-push (λ (q : DeliveredMessage). q.send) ps p h.rising.0 sends,
            IsNonDecreasingBy-push (λ (q : DeliveredMessage). q.take) ps p h.rising.1 takes,
          );
          sent = all_more (λ (q : DeliveredMessage). q.send ≤ p.send) ps p (λ k d lt. (let x = h.sent k d lt in omega arith))
              (omega arith);
          taken = all_more (λ (q : DeliveredMessage). q.take < take + 1) ps p (λ k d lt. (let x = h.taken k d lt in
              omega arith)) (omega arith);
        })

-- ---- as they are found

fails_lt : (m n : ℕ) → nat_lt m n ≡ false → n ≤ m
fails_lt m n e = elim (cases_lt m n) [ inl less ↦ absurd (not_both ((decides_lt m n).1 less) e) | inr ge ↦ ge ]

fails_le : (m n : ℕ) → nat_le m n ≡ false → n < m
fails_le m n e = elim (cases_lt n m) [ inl less ↦ less | inr ge ↦ absurd (not_both ((decides_le m n).1 ge) e) ]

module _ (n i : ℕ) (ps : List DeliveredMessage) where
  module _ (point : IsPartitionPoint (λ (p : DeliveredMessage). nat_lt p.send n ≡ true)
      (λ (p : DeliveredMessage). nat_lt p.send n ≡ false) ps i) where
    pub none_behind : length ps ≤ i → All (λ (p : DeliveredMessage). p.send < n) ps
    none_behind le k d lt = (decides_lt (get_or ps k d).send n).0 (point.0 k d (omega arith) (omega arith))

    pub first_behind : (e : DeliveredMessage) → i < length ps → Has ps (get_or ps i e) × (n ≤ (get_or ps i e).send)
    first_behind e lt = (
      (i, lt, get_or_default ps i (get_or ps i e) e lt),
      fails_lt (get_or ps i e).send n (point.1 i e (omega arith) lt),
    )

  module _ (point : IsPartitionPoint (λ (p : DeliveredMessage). nat_le p.take n ≡ true)
      (λ (p : DeliveredMessage). nat_le p.take n ≡ false) ps i) where
    pub none_before : i ≡ 0 → All (λ (p : DeliveredMessage). n < p.take) ps
    none_before none k d lt = fails_le (get_or ps k d).take n (point.1 k d (omega arith) lt)

    pub last_before : (e : DeliveredMessage) → 0 < i → i ≤ length ps → Has ps (get_or ps (i - 1) e)
        × ((get_or ps (i - 1) e).take ≤ n)
    last_before e some le = (
      (i - 1, omega arith, get_or_default ps (i - 1) (get_or ps (i - 1) e) e (omega arith)),
      (decides_le (get_or ps (i - 1) e).take n).0 (point.0 (i - 1) e (omega arith) (omega arith)),
    )
