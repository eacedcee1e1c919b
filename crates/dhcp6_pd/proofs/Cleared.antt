-- An address with cleared bits begins a prefix.
use Rattle.std.proofs.Common.{◌≡◌, ℕ, ◌-◌, ◌*◌, ◌/◌, ◌%◌, ◌≤◌, List, length, Ok, ap, sym, ◌∙◌, le-ltb, arith}
use Rattle.std.specs.Prelude.{slice_index}
use Rattle.std.proofs.lemmas.Nat.{div-add-mod'}
use Rattle.std.proofs.Math.Nat.{mul-mod_left}
use Rattle.prefix_range.specs.Prefix.{Prefix, size_of}
use Rattle.dhcp6_pd.specs.Associations.{cleared, address_of, prefix_in}

pub cleared_host : (length address : ℕ) → cleared length address % size_of length ≡ 0
cleared_host length address =
    let s = size_of length in
    let e : address - address % s ≡ address / s * s = omega (arith, div-add-mod' address s) in
    ap (λ (n : ℕ). n % s) e ∙ mul-mod_left (address / s) s

pub prefix_made : (octets : List ℕ) (p : Prefix) → 25 ≤ length octets → slice_index octets 8 ≤ 128
    → p ≡ record { address = cleared (slice_index octets 8) (address_of octets); length = slice_index octets 8 }
    → prefix_in octets ≡ Ok p
unfolding prefix_in
prefix_made octets p whole short e = rw (le-ltb (length octets) 25 whole, le-ltb 128 (slice_index octets 8) short)
    (ap (λ (x : Prefix). Ok x) (sym e))
