-- What the words of `join` can't be.
use Rattle.std.specs.Prelude.{◌≡◌, ℕ, Option, Some, None}
use Rattle.std.proofs.Common.{ap, arith, refl, subst}
use Rattle.clap.specs.Words.{Text}
use Rattle.binding_rules.specs.declared.role.Role.{Role}
use Rattle.binding_rules.specs.declared.role.Role.TheVariants.{Primary, Secondary}
use Rattle.desk_args.specs.Given.{IsNumber}
use Rattle.desk_args.specs.Joins.{IsSide, IsVolumeOrNone}
use Rattle.desk_args.proofs.Numbers.{same_number}

pub no_side : (side : Role) → IsSide None side → ⊥
no_side Primary e = cc
no_side Secondary e = cc

-- a text of 0 is no volume's
pub no_volume : (text : Text) (number : ℕ) → number ≡ 0 → IsNumber 1048576 (Some text) number → (n : Option ℕ)
    → IsVolumeOrNone (Some text) n → ⊥
no_volume text number zero given None is = cc
no_volume text number zero given (Some n) is =
    let same = same_number 1048576 (omega arith) (Some text) number n given is.0 in
    let some = is.1 in
    absurd (omega arith)

-- a text says one volume or none
pub one_volume : (text : Option Text) (a b : Option ℕ) → IsVolumeOrNone text a → IsVolumeOrNone text b → a ≡ b
one_volume text None None x y = refl
one_volume text None (Some n) x y = absurd (subst (λ (o : Option Text). IsNumber 1048576 o n) x y.0)
one_volume text (Some n) None x y = absurd (subst (λ (o : Option Text). IsNumber 1048576 o n) y x.0)
one_volume text (Some n) (Some m) x y = ap Some (same_number 1048576 (omega arith) text n m x.0 y.0)
