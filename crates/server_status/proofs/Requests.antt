-- A request's line is read as that request, and no other line is.
use Rattle.std.specs.Prelude.{◌≡◌, ◌↔◌, ℕ, List, Option, Some, None, Bool, true, false, bytes_eq}
use Rattle.std.specs.Prelude.{if◌then◌else◌, refl}
use Rattle.std.proofs.Common.{ap, sym, ◌∙◌}
use Rattle.std.proofs.lemmas.Slice.Eq.{bytes_eq-Decides}
use Rattle.std.proofs.lemmas.Option.{same_Some, none-some}
use Rattle.server_status.specs.declared.control_request.ControlRequest.{ControlRequest}
use Rattle.server_status.specs.declared.control_request.ControlRequest.TheVariants.{Status, Stop, Roll}
use Rattle.server_status.specs.declared.control_request.ControlRequest.TheVariants.{PartnerDown, PartnerNormal, AcceptClock}
use Rattle.server_status.specs.declared.control_request.StatusFormat.TheVariants.{Lines, Json, Metrics}
use Rattle.server_status.specs.declared.control_request.ShutdownMode.TheVariants.{Open, Closed}
use Rattle.server_status.specs.Words.{request_words, request_of}

words_read : (r : ControlRequest) → request_of (request_words r) ≡ Some r
unfolding request_of
words_read (Status Lines) = refl
words_read (Status Json) = refl
words_read (Status Metrics) = refl
words_read (Stop Open) = refl
words_read (Stop Closed) = refl
words_read Roll = refl
words_read PartnerDown = refl
words_read PartnerNormal = refl
words_read AcceptClock = refl

-- the request that a line is by the first of some tests, or else by the others
by_test : (line : List ℕ) (r s : ControlRequest) (other : Option ControlRequest) (b : Bool) → bytes_eq line (request_words s) ≡ b
    → (other ≡ Some r → line ≡ request_words r) → (if b then Some s else other) ≡ Some r → line ≡ request_words r
by_test line r s other true same otherwise is =
    (bytes_eq-Decides line (request_words s)).0 same ∙ ap request_words (same_Some s r is)
by_test line r s other false same otherwise is = otherwise is

or_else : (line : List ℕ) (r s : ControlRequest) (other : Option ControlRequest) → (other ≡ Some r → line ≡ request_words r)
    → (if bytes_eq line (request_words s) then Some s else other) ≡ Some r → line ≡ request_words r
or_else line r s other otherwise is = by_test line r s other (bytes_eq line (request_words s)) refl otherwise is

read_words : (line : List ℕ) (r : ControlRequest) → request_of line ≡ Some r → line ≡ request_words r
unfolding request_of
read_words line r is =
    or_else line r (Status Lines) _ (λ is. or_else line r (Status Json) _ (λ is. or_else line r (Status Metrics) _
    (λ is. or_else line r (Stop Open) _ (λ is. or_else line r (Stop Closed) _ (λ is. or_else line r Roll _
    (λ is. or_else line r PartnerDown _ (λ is. or_else line r PartnerNormal _
    (λ is. or_else line r AcceptClock None
    (λ is. absurd (none-some r is)) is) is) is) is) is) is) is) is) is

pub read_again : (line : List ℕ) (found : Option ControlRequest) (r : ControlRequest) → found ≡ request_of line
    → (found ≡ Some r) ↔ (line ≡ request_words r)
read_again line found r as_read = (
  λ is. read_words line r (sym as_read ∙ is),
  λ same. as_read ∙ ap request_of same ∙ words_read r,
)
