use Rattle.std.proofs.Common.{◌≡◌, ◌∙◌, ap, sym, List, ℕ, Result, Ok, Err}
use Rattle.std.specs.Prelude.{IfOk}
use Rattle.text_fields.specs.Octets.{hex}
use Rattle.client_id.specs.declared.error.ClientIdError.{ClientIdError}
use Rattle.client_id.specs.Duid.{IsDuid, duid_of}
use Rattle.client_id.proofs.TextLaws.{duid_takes, duid_again, hex_fault}
use Rattle.client_id.proofs.duid.Duid.from_hex.Goals as goal

is_found : (text : List ℕ) (r : Result (List ℕ) ClientIdError) → r ≡ duid_of text
    → IfOk r (λ d. (text ≡ hex d) × IsDuid d)
is_found text (Ok d) e = duid_takes text d (sym e)
is_found text (Err x) e = tt

pub returns-clause-found : goal.returns-clause-found
returns-clause-found c = is_found _ _ c.read_hex.ensures

pub returns-clause-only : goal.returns-clause-only
returns-clause-only c octets h e = c.read_hex.ensures ∙ (ap duid_of e ∙ duid_again octets h)

pub returns-clause-hex : goal.returns-clause-hex
returns-clause-hex c = rw c.read_hex.ensures (hex_fault c.args.text.now)
