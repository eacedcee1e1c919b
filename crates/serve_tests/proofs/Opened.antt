-- A folder that was just opened.
use Rattle.std.proofs.Common.{◌≡◌, ℕ, List, [], ◌∷◌, refl, sym, subst, ap}
use Rattle.disk_model.specs.Names.{NameCall, held, names_after, AreSettled}

pub held_is_settled : (calls : List NameCall) (n : ℕ) → calls ≡ held n ∷ [] → AreSettled calls
held_is_settled calls n is = subst AreSettled (sym is) (record { usable = refl; sure = refl; most = refl })

pub held_count : (calls : List NameCall) (n : ℕ) → calls ≡ held n ∷ [] → (names_after calls).files ≡ n
held_count calls n is = ap (λ (cs : List NameCall). (names_after cs).files) is
