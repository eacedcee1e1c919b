-- One of several differences.
use Rattle.std.specs.Prelude.{◌≡◌, ◌≤◌, ℕ, List, [], ◌∷◌, length, Option, Some, None, IfSome, take, drop}
use Rattle.std.proofs.Common.{arith, get_or, zero, suc, inl, inr}
use Rattle.link_notices.specs.Comparing.{KeepsApart}
use Rattle.link_notices.specs.declared.comparing.SettingsDifference.{SettingsDifference}
use Rattle.notice_exchange.specs.Exchanges.{IsAmong}

pub first_is_among : (ds : List SettingsDifference) (d : SettingsDifference) → 1 ≤ length ds → d ≡ get_or ds 0 d
    → IsAmong d ds
first_is_among [] d some is = absurd (omega (arith, some))
first_is_among (x ∷ xs) d some is = inl is

among_front : (n : ℕ) (ds : List SettingsDifference) (d : SettingsDifference) → IsAmong d (take n ds) → IsAmong d ds
among_front zero ds d among = absurd among
among_front (suc n) [] d among = among
among_front (suc n) (x ∷ xs) d (inl same) = inl same
among_front (suc n) (x ∷ xs) d (inr among) = inr (among_front n xs d among)

among_behind : (n : ℕ) (ds : List SettingsDifference) (d : SettingsDifference) → IsAmong d (take n (drop 1 ds))
    → IsAmong d ds
among_behind n [] d among = among_front n [] d among
among_behind n (x ∷ xs) d among = inr (among_front n xs d among)

pub found_behind : (n : ℕ) (ds : List SettingsDifference) (found : Option SettingsDifference)
    → IfSome found (λ (d : SettingsDifference). IsAmong d (take n (drop 1 ds)) × KeepsApart d)
    → IfSome found (λ (d : SettingsDifference). IsAmong d ds × KeepsApart d)
found_behind n ds None h = h
found_behind n ds (Some d) h = (among_behind n ds d h.0, h.1)
