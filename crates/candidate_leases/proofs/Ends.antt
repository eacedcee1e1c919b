-- When leases end, by a reading and a lifetime.
use Rattle.std.specs.Prelude.{◌≡◌, ℕ, ◌+◌, ◌-◌, ◌*◌, ◌<◌, ◌⊎◌, Bool, true, false, Some, None, if◌then◌else◌}
use Rattle.std.specs.Prelude.{nat_eq}
use Rattle.std.proofs.Common.{arith, inl, inr, refl}
use Rattle.std.proofs.lemmas.Bool.Decides.{Decides-eqb}
use Rattle.attribution.specs.Run.{infinity}

-- the moment comes before the end that is shown
pub lasts_by : (skew reading valid at : ℕ) (b : Bool) → nat_eq valid infinity ≡ b
    → ((end : ℕ) → (if b then None else Some (reading + valid * 1000 - skew)) ≡ Some end → at < end)
    → (valid ≡ infinity) ⊎ (at + skew < reading + 1000 * valid)
lasts_by skew reading valid at true is h = inl ((Decides-eqb valid infinity).0 is)
lasts_by skew reading valid at false is h = let lt = h (reading + valid * 1000 - skew) refl in inr (omega arith)

-- the end by which it is surely over
pub ends_of : (skew transit reading valid end : ℕ) (b : Bool) → nat_eq valid infinity ≡ b
    → (if b then None else Some (reading + skew + transit + valid * 1000)) ≡ Some end
    → (valid ≡ infinity → ⊥) × (reading + skew + transit + 1000 * valid ≡ end)
ends_of skew transit reading valid end true is e = absurd (cc)
ends_of skew transit reading valid end false is e =
    let same : reading + skew + transit + valid * 1000 ≡ end = cc in
    (λ h. (let x = (Decides-eqb valid infinity).1 h in absurd (cc)), omega arith)
