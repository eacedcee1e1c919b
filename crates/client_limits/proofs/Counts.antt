-- How often a name was heard, with one count changed.
use Rattle.std.proofs.Common.{◌≡◌, ℕ, Bool, true, false, List, Option, Some, ap, ◌∙◌, refl}
use Rattle.std.specs.Prelude.{if◌then◌else◌}
use Rattle.std.specs.declared.alloc.Global.{Global}
use Rattle.std.specs.declared.vec.Vec.{Vec}
use Rattle.std.specs.Ordering.{eq_by_cmp}
use Rattle.std.specs.Str.{bytes_eq}
use Rattle.std.specs.Map.{KeepsOthers}
use Rattle.std.specs.BTreeMap.{BTreeMap, get_by, is_at}
use Rattle.client_limits.specs.Holders.{at_octets}
use Rattle.client_limits.proofs.Anew.{by_items, found_anew}
use Rattle.client_limits.specs.Rates.{or_zero, count_in}

or_zero_if : (t : Bool) (w v : Option ℕ) → or_zero (if t then w else v) ≡ (if t then or_zero w else or_zero v)
or_zero_if true w v = refl
or_zero_if false w v = refl

pub counted_anew : (m n : BTreeMap (Vec ℕ Global) ℕ) (name : List ℕ) (count : ℕ)
    → get_by (at_octets name) n ≡ Some count
    → KeepsOthers (eq_by_cmp by_items) (is_at (at_octets name)) m.entries n.entries
    → (h : List ℕ) → count_in n h ≡ (if bytes_eq name h then count else count_in m h)
counted_anew m n name count is others h =
    ap or_zero (found_anew m n name (Some count) is others h)
    ∙ or_zero_if (bytes_eq name h) (Some count) (get_by (at_octets h) m)
