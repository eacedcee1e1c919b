-- What is written for a moment.
use Rattle.std.specs.Prelude.{◌≡◌, ◌≤◌, ◌^◌, ℕ, List, Result, Ok, Err, IfOk}
use Rattle.std.specs.Fmt.{decimal}
use Rattle.std.proofs.Common.{arith, refl, sym, subst, inl, inr}
use Rattle.std.proofs.lemmas.Bool.{cases_lt}
use Rattle.serde_json.specs.Data.{Data}
use Rattle.time_text.specs.Time.{IsTimeText}
use Rattle.time_text.proofs.Years.{behind_years}
use Rattle.report_data.specs.Fields.{IsText}
use Rattle.report_data.specs.Rulings.{IsUtc}

-- what is no reading lies past the year 10000
pub past_readings : {E : Type 0} (m : ℕ) (r : Result ℕ E) (e : E) → (m ≤ 2 ^ 48 → r ≡ Ok m) → r ≡ Err e
    → IsTimeText m (decimal m)
past_readings m r e fits is = elim (cases_lt 281474976710656 m) [
  | inl lt ↦ inr (behind_years m (omega (arith, lt)), refl)
  | inr le ↦ let ok = fits (omega (arith, le)) in absurd (cc)
]

pub of_digits : {T E : Type 0} (items : T → List ℕ) (m : ℕ) (result : Result T E) → IsTimeText m (decimal m)
    → IfOk result (λ t. items t ≡ decimal m) → IfOk result (λ t. IsTimeText m (items t))
of_digits items m (Ok t) is same = subst (IsTimeText m) (sym same) is
of_digits items m (Err e) is same = tt

pub utc_so : {T E : Type 0} (of : T → Data) (m : ℕ) (text : List ℕ) (result : Result T E) → IsTimeText m text
    → IfOk result (λ t. IsText text (of t)) → IfOk result (λ t. IsUtc m (of t))
utc_so of m text (Ok t) time is = (text, time, is)
utc_so of m text (Err e) time is = tt
