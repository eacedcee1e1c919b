-- Answers that leave, one after the other.
use Rattle.std.specs.Prelude.{◌≡◌, ℕ, List, [], ◌∷◌, ◌++◌, ◌<◌, length}
use Rattle.std.proofs.Common.{ap, sym, ◌∙◌, subst, take, get_or, suc}
use Rattle.std.proofs.Math.Seq.{take-suc, take-length}
use Rattle.server_clocks.specs.declared.clocks.Moment.{Moment}
use Rattle.server_core.specs.declared.committed_output.HeldAnswer.{HeldAnswer}
use Rattle.daemon_endpoints.specs.declared.arrival.Arrival.{Arrival}
use Rattle.daemon_endpoints.specs.Sending.{Leaves, AllLeave, more}

module _ {P Line : Type 0} (gives : Moment → Type 0) (fails : Type 0) (Sends : Line → P → List ℕ → Line → Type 0)
    (transit : ℕ) (first : Line) where
  -- the one at a place after those before it
  pub one_more : (answers : List (HeldAnswer (Arrival P))) (i : ℕ) (h : HeldAnswer (Arrival P)) → i < length answers
      → h ≡ get_or answers i h → (old new : Line) → AllLeave gives fails Sends transit first (take i answers) old
      → (same : ℕ) → same ≡ transit → Leaves gives fails Sends same old h new
      → AllLeave gives fails Sends transit first (take (suc i) answers) new
  one_more answers i h within its old new before same is leaves =
      subst (λ xs. AllLeave gives fails Sends transit first xs new)
      (ap (λ g. take i answers ++ g ∷ []) its ∙ sym (take-suc answers i h within))
      (more (take i answers) h old new before (subst (λ t. Leaves gives fails Sends t old h new) is leaves))

  pub all_left : (answers : List (HeldAnswer (Arrival P))) (i : ℕ) (last : Line) → i ≡ length answers
      → AllLeave gives fails Sends transit first (take i answers) last
      → AllLeave gives fails Sends transit first answers last
  all_left answers i last end h =
      subst (λ xs. AllLeave gives fails Sends transit first xs last)
      (ap (λ (n : ℕ). take n answers) end ∙ take-length answers) h
