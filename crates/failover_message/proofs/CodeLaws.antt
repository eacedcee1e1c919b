-- Each code stands for one value, and each value has one code.
use Rattle.std.proofs.Common.{◌≡◌, ℕ, eqb, List, Option, Some, None, refl}
use Rattle.std.specs.Option.{option_map}
use Rattle.std.specs.List.{find}
use Rattle.binding_rules.specs.declared.role.Role.TheVariants.{Primary, Secondary}
use Rattle.binding_rules.specs.declared.update.Acknowledgement.TheVariants.{Accept, Reject}
use Rattle.failover_message.specs.declared.codes.TheConstants.{STATUSES, ACKNOWLEDGEMENTS, ROLES, STATES}
use Rattle.binding_rules.specs.declared.message.ServerState.TheVariants.{Normal, Interrupted, Down}
use Rattle.text_fields.specs.Parsing.{Moves}
use Rattle.binding_rules.specs.Statuses.{by_status}
use Rattle.failover_message.specs.Parsing.{octet_at, coded_at}
use Rattle.failover_message.specs.Frames.{status_code, acknowledgement_code, role_code, state_code}

-- a value is found again by its code
abbrev pub IsTable : {A : Type 0} → (A → ℕ) → List A → Type 0
IsTable {A} code_of values = (a : A) → find (λ value. eqb (code_of value) (code_of a)) values ≡ Some a

pub statuses : IsTable status_code STATUSES
statuses =
    by_status (λ s. find (λ value. eqb (status_code value) (status_code s)) STATUSES ≡ Some s) refl refl refl refl refl
    refl

pub acknowledgements : IsTable acknowledgement_code ACKNOWLEDGEMENTS
acknowledgements Accept = refl
acknowledgements Reject = refl

pub roles : IsTable role_code ROLES
roles Primary = refl
roles Secondary = refl

pub states : IsTable state_code STATES
states Normal = refl
states Interrupted = refl
states Down = refl

-- what a search through the values finds is what parsing gives
pub code_found : {A : Type 0} (code_of : A → ℕ) (values : List A) (octets rest : List ℕ) (code : ℕ) (found : Option A)
    → octet_at octets ≡ Some (code, rest)
    → option_map (λ value. value) found ≡ find (λ value. eqb (code_of value) code) values
    → Moves (λ value. value) found rest (coded_at code_of values octets)
unfolding coded_at
code_found code_of values octets rest code None here is = rw (here, ← is) refl
code_found code_of values octets rest code (Some value) here is = rw (here, ← is) refl
