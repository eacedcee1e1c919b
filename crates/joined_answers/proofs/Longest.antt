-- The longest of what volumes say.
use Rattle.std.specs.Prelude.{◌≡◌, ℕ, ◌-◌, ◌≤◌, List, [], ◌∷◌, length, take, drop}
use Rattle.std.proofs.Common.{get_or, arith, sym, ◌∙◌, ap, subst, refl}
use Rattle.std.proofs.lemmas.List.{take_all}
use Rattle.volume_spans.specs.declared.reading.ReadVolume.{ReadVolume}
use Rattle.volume_spans.proofs.Onward.{behind_first}
use Rattle.joined_answers.specs.declared.reach.LeaseBounds.{LeaseBounds}
use Rattle.joined_answers.specs.Reach.{bounds_in, longest, longest_in}

pub one_more : (bounds : LeaseBounds) (rs : List ReadVolume) (r : ReadVolume) → 1 ≤ length rs → r ≡ get_or rs 0 r
    → longest_in (longest bounds (bounds_in r)) (take (length rs - 1) (drop 1 rs)) ≡ longest_in bounds rs
one_more bounds rs r some first =
    ap (λ (xs : List ReadVolume). longest_in bounds xs) (sym (behind_first rs r some first))

pub no_more : (bounds : LeaseBounds) (rs : List ReadVolume) → length rs ≡ 0 → longest_in bounds rs ≡ bounds
no_more bounds [] none = refl
no_more bounds (r ∷ rs) none = absurd (omega arith)
