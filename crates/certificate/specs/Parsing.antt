-- For bodies only: what private functions find where a growth may be refused.
use Rattle.std.specs.Prelude.{◌≡◌, ℕ, Option, Some, None, Result, Ok, Err}
use Rattle.causal_order.specs.declared.fault.CertificateFault.TheVariants as faults
use Rattle.certificate.specs.declared.error.CertificateError.{CertificateError}
use Rattle.certificate.specs.declared.error.CertificateError.TheVariants as errors
use Rattle.certificate.specs.declared.fields.LineError.{LineError}
use Rattle.certificate.specs.declared.fields.LineError.TheVariants.{Form, Memory}

-- what a function found, seen by view, is what parsing gives, unless a growth was refused
abbrev pub Fills : {X Y : Type 0} → (X → Y) → Result X LineError → Option Y → Type 0
Fills view (Ok x) parsed = parsed ≡ Some (view x)
Fills view (Err Form) parsed = parsed ≡ None
Fills view (Err Memory) parsed = Unit {0}

-- the same of a value and the rest behind it
abbrev pub Takes : {X Y R : Type 0} → (X → Y) → Result X LineError → R → Option (Y × R) → Type 0
Takes view (Ok x) rest parsed = parsed ≡ Some (view x, rest)
Takes view (Err Form) rest parsed = parsed ≡ None
Takes view (Err Memory) rest parsed = Unit {0}

-- the error of a line that gave nothing
abbrev pub error_at : ℕ → LineError → CertificateError
error_at number Form = errors.Fault (faults.Form number)
error_at number Memory = errors.Memory
