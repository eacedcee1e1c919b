use Rattle.std.proofs.Common.{◌≡◌, ◌∙◌, ap, sym, arith, List, ℕ, Result, Ok, Err}
use Rattle.std.specs.Prelude.{IfOk}
use Rattle.failover_message.specs.declared.error.LinkError.{LinkError}
use Rattle.failover_message.specs.declared.frame.Frame.{Frame}
use Rattle.failover_message.specs.Frames.{frame_octets, IsFrame}
use Rattle.failover_message.specs.Parsing.{frame_of}
use Rattle.failover_message.proofs.FieldLaws.{IsBytes}
use Rattle.failover_message.proofs.FrameLaws.{frame_takes, frame_again}
use Rattle.failover_message.proofs.FaultLaws.{frame_found, length_fault, kind_fault, field_fault, no_memory}
use Rattle.failover_message.proofs.decoding.decode.Goals as goal

is_found : (octets : List ℕ) (r : Result Frame LinkError) → IsBytes octets → r ≡ frame_of octets
    → IfOk r (λ f. (octets ≡ frame_octets f) × IsFrame f)
is_found octets (Ok f) fits e = frame_takes octets f fits (sym e)
is_found octets (Err x) fits e = tt

pub returns-clause-found : goal.returns-clause-found
returns-clause-found c = is_found _ _ (λ i. omega (arith, c.type_inv.octets i)) c.frame_of.ensures

pub returns-clause-only : goal.returns-clause-only
returns-clause-only c f h e = c.frame_of.ensures ∙ (ap frame_of e ∙ frame_again f h)

pub returns-clause-length : goal.returns-clause-length
returns-clause-length c = rw c.frame_of.ensures
    (length_fault c.args.octets.now (frame_of c.args.octets.now)
    (frame_found c.args.octets.now (λ i. omega (arith, c.type_inv.octets i))))

pub returns-clause-kind : goal.returns-clause-kind
returns-clause-kind c = rw c.frame_of.ensures
    (kind_fault c.args.octets.now (frame_of c.args.octets.now)
    (frame_found c.args.octets.now (λ i. omega (arith, c.type_inv.octets i))))

pub returns-clause-field : goal.returns-clause-field
returns-clause-field c = rw c.frame_of.ensures
    (field_fault c.args.octets.now (frame_of c.args.octets.now)
    (frame_found c.args.octets.now (λ i. omega (arith, c.type_inv.octets i))))

pub returns-clause-memory : goal.returns-clause-memory
returns-clause-memory c = rw c.frame_of.ensures
    (no_memory c.args.octets.now (frame_of c.args.octets.now)
    (frame_found c.args.octets.now (λ i. omega (arith, c.type_inv.octets i))))
