-- For bodies only: The octets of an array that zeros fill give the array back.
use Rattle.std.specs.Prelude.{◌≡◌, ℕ, ◌-◌, List, ◌++◌, length, take, replicate}
use Rattle.std.proofs.Common.{sym, ◌∙◌, ap, arith}
use Rattle.std.proofs.lemmas.List.{take-append-drop, length-take}
use Rattle.client_id.specs.Octets.{IsPadded, padded}

pub length-take_len : (bytes : List ℕ) (len : ℕ) → IsPadded bytes len → length (take len bytes) ≡ len
length-take_len bytes len h = omega (arith, length-take len bytes)

pub padded-take : (bytes : List ℕ) (len : ℕ) → IsPadded bytes len → padded (take len bytes) ≡ bytes
padded-take bytes len h =
    ap (λ (n : ℕ). take len bytes ++ replicate (130 - n) 0) (length-take_len bytes len h)
    ∙ ap (λ (zs : List ℕ). take len bytes ++ zs) (sym h.zeros) ∙ take-append-drop len bytes
