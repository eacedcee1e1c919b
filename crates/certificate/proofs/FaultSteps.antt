-- Steps that may meet a fault.
use Rattle.std.proofs.Common.{◌≡◌, ℕ, Option, Some, None, Result, Ok, Err, refl}
use Rattle.causal_order.specs.declared.fault.CertificateFault.{CertificateFault}
use Rattle.text_fields.specs.Parsing.{◌>>!◌}
use Rattle.certificate.specs.Faults.{or_form}

abbrev pub done : {A : Type 0} → A → Result A CertificateFault
done x = Ok x

pub ok_is : {A : Type 0} (x y : A) → done x ≡ Ok y → x ≡ y
ok_is x y e = cc

-- the value of a step that gave one
pub bind_ok : {A B : Type 0} (r : Result A CertificateFault) (f : A → Result B CertificateFault) (y : B)
    → (r >>! f) ≡ Ok y → (x : A) × (r ≡ Ok x) × (f x ≡ Ok y)
bind_ok (Ok x) f y e = (x, refl, e)
bind_ok (Err fault) f y e = absurd cc

pub form_ok : {A : Type 0} (number : ℕ) (o : Option A) (x : A) → or_form number o ≡ Ok x → o ≡ Some x
form_ok number (Some y) x e = cc
form_ok number None x e = absurd cc
