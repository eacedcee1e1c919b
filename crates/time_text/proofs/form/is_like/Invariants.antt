use Rattle.std.proofs.Common.{ℕ, ◌<◌, ◌≡◌, true, get_or}
use Rattle.time_text.specs.Time.{is_alike}
use Rattle.time_text.proofs.form.is_like.Given as goal

abbrev pub invariant-loop-index : goal.invariant-loop-index
invariant-loop-index l = (k : ℕ) → k < l.index → is_alike (get_or l.form k 0) (get_or l.text k 0) ≡ true
