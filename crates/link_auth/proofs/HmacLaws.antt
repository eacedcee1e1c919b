-- Blocks of keys.
use Rattle.std.proofs.Common.{◌≡◌, ◌∙◌, ℕ, ◌+◌, ◌<◌, ◌≤◌, List, [], ◌∷◌, ◌++◌, length, take, drop, get_or, refl, arith}
use Rattle.std.specs.Prelude.{replicate, bit_xor}
use Rattle.std.proofs.lemmas.List.{drop-replicate, take_more_set, map-append, take_all, length-set}
use Rattle.std.proofs.lemmas.Grind.{take_at_read}
use Rattle.std.proofs.Math.ListN.{set}
use Rattle.link_auth.specs.Hmac.{filled, with_pad}

-- what copy_from_slice leaves of zeros
pub filled_zeros : (octets : List ℕ) (n : ℕ) → n ≡ length octets → octets ++ drop n (replicate 64 0) ≡ filled octets
filled_zeros octets n e = rw (e, drop-replicate) refl

-- so many octets of the block are combined
pub record Combined (pad : ℕ) (block combined : List ℕ) (i : ℕ) : Type 0 where
  pub whole : length combined ≡ 64
  pub front : take i combined ≡ with_pad pad (take i block)

pub pad_step : (pad : ℕ) (block combined : List ℕ) (i : ℕ) → length block ≡ 64 → i < 64 → Combined pad block combined i
    → Combined pad block (set combined i (bit_xor (get_or block i 0) pad)) (i + 1)
pad_step pad block combined i whole below before = record {
  whole = length-set combined i (bit_xor (get_or block i 0) pad) ∙ before.whole;
  front = rw (
    take_more_set combined i (bit_xor (get_or block i 0) pad) (omega (arith, before.whole)),
    (take_at_read block i 0 (omega arith)).1,
    map-append (λ octet. bit_xor octet pad) (take i block) (get_or block i 0 ∷ []),
    before.front,
  ) refl;
}

pub pad_end : (pad : ℕ) (block combined : List ℕ) (i : ℕ) → length block ≡ 64 → 64 ≤ i → Combined pad block combined i
    → combined ≡ with_pad pad block
pad_end pad block combined i whole past before =
    rw (take_all i combined (omega (arith, before.whole)), take_all i block (omega arith)) at before.front
