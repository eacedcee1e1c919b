-- What an order ends in.
use Rattle.std.specs.Prelude.{◌≡◌, ℕ, true, false, List, [], ◌∷◌, ◌++◌, Option, Some, None, Result, Ok, Err}
use Rattle.std.specs.Prelude.{if◌then◌else◌}
use Rattle.std.proofs.Common.{refl, ap, sym, subst, ◌∙◌, append_assoc, append-nil, inl, inr}
use Rattle.client_service.specs.declared.permit.Permit.TheVariants.{Allowed}
use Rattle.dhcp6_pd.specs.declared.message.ClientKind.{ClientKind}
use Rattle.dhcp6_pd.specs.declared.message.ClientKind.TheVariants.{Solicit, Request as RequestKind, Renew as RenewKind}
use Rattle.dhcp6_pd.specs.declared.message.ClientKind.TheVariants.{Rebind, Release as ReleaseKind}
use Rattle.journal_lines.specs.declared.line.Journal.{Journal}
use Rattle.order_book.specs.declared.order.Order.{Order}
use Rattle.order_book.specs.declared.order.Order.TheVariants.{Request, Renew, Release, Expire, Backup, Reclaim, Seize}
use Rattle.order_book.specs.declared.order.Order.TheVariants.{SendUpdate, SendReply, SendContact, Take, State, Restart}
use Rattle.order_book.specs.declared.order.Order.TheVariants.{Close}
use Rattle.order_book.specs.declared.error.BookError.TheVariants.{NotServing, Full, NoPrefix as NoPrefixLeft}
use Rattle.order_book.specs.declared.error.BookError.TheVariants.{NoBinding as NoSuchBinding, Rule, Memory as NoRoom}
use Rattle.order_book.specs.Answer.{IsRequest}
use Rattle.server_book.specs.declared.messages.IaAnswer.TheVariants.{NoPrefix}
use Rattle.locked_book.specs.declared.receipt.Receipt.{Receipt}
use Rattle.locked_book.specs.declared.error.ServeError.{ServeError}
use Rattle.locked_book.specs.declared.error.ServeError.TheVariants.{Book, Stranger, Memory}
use Rattle.client_service.specs.declared.partner_availability.PartnerAvailability.TheVariants.{Down}
use Rattle.client_service.specs.declared.ia_outcome.IaOutcome.{IaOutcome}
use Rattle.client_service.specs.Lines.{is_takeover, number_of, or_earlier, last_number}
use Rattle.client_service.specs.Serving.{IsOrderServed, IsOfferMade}
use Rattle.client_service.specs.Telling.{IsToldAs, EndsAtOnce}
use Rattle.client_service.specs.Telling.{IsSeizeServed, NoneTakenOver, IsStrangeTo}
use Rattle.client_service.specs.Ending.{refusal_outcome, answer_in, IsNumbered}
use Rattle.client_service.specs.Ending.{EndsIn, EndsAs, Seizes}

-- ---- lines and their numbers

pub none_added : (had has : List Receipt) → has ≡ had → has ≡ had ++ []
none_added had has same = same ∙ sym (append-nil had)

or_none : (number : Option ℕ) → or_earlier number None ≡ number
or_none None = refl
or_none (Some n) = refl

or_assoc : (a b c : Option ℕ) → or_earlier a (or_earlier b c) ≡ or_earlier (or_earlier a b) c
or_assoc None b c = refl
or_assoc (Some n) b c = refl

pub last_number-append : (xs ys : List Receipt) → last_number (xs ++ ys) ≡ or_earlier (last_number ys) (last_number xs)
last_number-append [] ys = sym (or_none (last_number ys))
last_number-append (x ∷ xs) ys =
    ap (λ o. or_earlier o (number_of x)) (last_number-append xs ys)
    ∙ sym (or_assoc (last_number ys) (last_number xs) (number_of x))

module _ (MayHave : List Receipt → Journal → Type 0) (now : ℕ) (order : Order) (had has : List Receipt) where
  -- ---- what it is told of a refusal

  pub served_refusal : (e : ServeError) → IsOrderServed MayHave now had order (Err e) → has ≡ had
      → EndsIn MayHave RequestKind now order had has (refusal_outcome e)
  served_refusal (Stranger n l) h same = ([], none_added had has same, (refl, tt, h), tt)
  served_refusal Memory h same = ([], none_added had has same, (refl, tt, h), tt)
  served_refusal (Book NotServing) h same = ([], none_added had has same, (refl, tt, h), tt)
  served_refusal (Book Full) h same = ([], none_added had has same, (refl, tt, h), tt)
  served_refusal (Book (Rule line rule)) h same = ([], none_added had has same, (refl, tt, h), tt)
  served_refusal (Book NoRoom) h same = ([], none_added had has same, (refl, tt, h), tt)
  served_refusal (Book NoPrefixLeft) h same = ([], none_added had has same, (refl, h), refl)
  served_refusal (Book NoSuchBinding) h same = ([], none_added had has same, (refl, h), refl)

  -- a Request lacks no binding
  no_binding : (o : Order) → IsRequest o → IsOfferMade MayHave now had o (Err (Book NoSuchBinding)) → ⊥
  no_binding (Request a) request h = h.3.1.applies
  no_binding (Renew a) request h = absurd request
  no_binding (Release a) request h = absurd request
  no_binding (Expire p) request h = absurd request
  no_binding (Backup p) request h = absurd request
  no_binding (Reclaim p) request h = absurd request
  no_binding (Seize p) request h = absurd request
  no_binding (SendUpdate p) request h = absurd request
  no_binding (SendReply p) request h = absurd request
  no_binding SendContact request h = absurd request
  no_binding (Take m) request h = absurd request
  no_binding (State word) request h = absurd request
  no_binding Restart request h = absurd request
  no_binding Close request h = absurd request

  pub offer_refusal : (e : ServeError) → IsRequest order → IsOfferMade MayHave now had order (Err e) → has ≡ had
      → EndsIn MayHave Solicit now order had has (refusal_outcome e)
  offer_refusal (Stranger n l) request h same = ([], none_added had has same, (refl, tt, h), tt)
  offer_refusal Memory request h same = ([], none_added had has same, (refl, tt, h), tt)
  offer_refusal (Book NotServing) request h same = ([], none_added had has same, (refl, tt, h), tt)
  offer_refusal (Book Full) request h same = ([], none_added had has same, (refl, tt, h), tt)
  offer_refusal (Book (Rule line rule)) request h same = ([], none_added had has same, (refl, tt, h), tt)
  offer_refusal (Book NoRoom) request h same = ([], none_added had has same, (refl, tt, h), tt)
  offer_refusal (Book NoPrefixLeft) request h same = ([], none_added had has same, (refl, h), refl)
  offer_refusal (Book NoSuchBinding) request h same = absurd (no_binding order request h)

-- ---- takeovers

module _ (MayHave : List Receipt → Journal → Type 0) (kind : ClientKind) (now : ℕ) (order : Order)
    (had mid has : List Receipt)
    (told : IaOutcome) (lacks : told.answer ≡ NoPrefix) (first : EndsIn MayHave kind now order had mid (Ok told)) where
  nothing_added : (k : ClientKind) (added : List Receipt) → IsToldAs MayHave k now had order added NoPrefix → added ≡ []
  nothing_added Solicit added h = h.0
  nothing_added RequestKind added h = h.0
  nothing_added RenewKind added h = h.0
  nothing_added Rebind added h = h.0
  nothing_added ReleaseKind added h = h.0

  as_lacking : IsToldAs MayHave kind now had order first.0 NoPrefix
  as_lacking = subst (λ x. IsToldAs MayHave kind now had order first.0 x) lacks first.2

  empty : first.0 ≡ []
  empty = nothing_added kind first.0 as_lacking

  lacked : IsToldAs MayHave kind now had order [] NoPrefix
  lacked = subst (λ x. IsToldAs MayHave kind now had order x NoPrefix) empty as_lacking

  unchanged : mid ≡ had
  unchanged = first.1 ∙ (ap (λ x. had ++ x) empty ∙ append-nil had)

  no_number : told.line ≡ None
  no_number = first.3 ∙ ap (λ x. last_number x) empty

  takeover_number : (r : Receipt) → IsSeizeServed MayHave now had (Ok r) → number_of r ≡ None
  takeover_number r h = ap (λ e. if is_takeover e then None else Some r.number) h.2.3.1.line.named

  numbered : (r : Receipt) (rest : List Receipt) (result : Result IaOutcome ServeError)
      → IsSeizeServed MayHave now had (Ok r)
      → IsNumbered rest result → IsNumbered (r ∷ rest) result
  numbered r rest (Ok t) h number =
      number ∙ (sym (or_none (last_number rest))
      ∙ ap (λ o. or_earlier (last_number rest) o) (sym (takeover_number r h)))
  numbered r rest (Err e) h number = tt

  pub once_more : (behind : List Receipt) (result : Result IaOutcome ServeError) → Seizes MayHave now mid behind (Ok true)
      → EndsIn MayHave kind now order behind has result → EndsAs MayHave Allowed Down kind now order had has result
  once_more behind result seized again =
      let r = seized.0 in
      let taken : IsSeizeServed MayHave now had (Ok r) =
      subst (λ rs. IsSeizeServed MayHave now rs (Ok r)) unchanged seized.2 in
      let at : behind ≡ had ++ r ∷ [] = seized.1 ∙ ap (λ rs. rs ++ r ∷ []) unchanged in (
        r ∷ again.0,
        again.1 ∙ (ap (λ rs. rs ++ again.0) at ∙ append_assoc had (r ∷ []) again.0),
        inr (record {
          lacked = lacked;
          goes_on = inl (
            r,
            again.0,
            refl,
            taken,
            subst (λ rs. EndsAtOnce MayHave kind now rs order again.0 (answer_in result)) at again.2,
          );
        }),
        numbered r again.0 result taken again.3,
      )

  pub stays : Seizes MayHave now mid has (Ok false) → EndsAs MayHave Allowed Down kind now order had has (Ok told)
  stays kept = (
    [],
    none_added had has (kept.0 ∙ unchanged),
    inr (record {
      lacked = lacked;
      goes_on = inr (refl, (lacks, subst (λ rs. NoneTakenOver MayHave now rs) unchanged kept.1));
    }),
    no_number,
  )

  pub ends_strange : (e : ServeError) → Seizes MayHave now mid has (Err e)
      → EndsAs MayHave Allowed Down kind now order had has (Err e)
  ends_strange e strange = (
    [],
    none_added had has (strange.0 ∙ unchanged),
    inr (record {
      lacked = lacked;
      goes_on = inr (refl, subst (λ rs. IsStrangeTo MayHave now rs e) unchanged strange.1);
    }),
    tt,
  )
