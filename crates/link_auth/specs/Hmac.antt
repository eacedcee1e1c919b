-- HMAC-SHA-256 (RFC 2104): a code of a message, which only who has the key can make.
use Rattle.std.specs.Prelude.{ℕ, ◌-◌, nat_lt, List, ◌++◌, length, map, replicate, bit_xor, if◌then◌else◌}
use Rattle.sha2.specs.Sha256.{sha256}
use Rattle.sha2.specs.Hashers.{Holds256}
use Rattle.link_auth.specs.declared.coder.HmacState.{HmacState}

-- octets and zeros behind them: 64 in all
abbrev pub filled : List ℕ → List ℕ
filled octets = octets ++ replicate (64 - length octets) 0

-- a key as a block of 64 octets: a longer key's digest stands for it
abbrev pub block_of : (key : List ℕ) → List ℕ
block_of key = filled (if nat_lt 64 (length key) then sha256 key else key)

abbrev pub with_pad : (pad : ℕ) → List ℕ → List ℕ
with_pad pad block = map (λ octet. bit_xor octet pad) block

-- the code of a message under a key
unfoldable pub hmac : (key message : List ℕ) → List ℕ
hmac key message =
    sha256 (with_pad 0x5C (block_of key) ++ sha256 (with_pad 0x36 (block_of key) ++ message))

-- the code under way is that of this message under this key, as far as it has come
unfoldable pub Codes : HmacState → (key message : List ℕ) → Type 0
Codes h key message = Holds256 h.inner (with_pad 0x36 (block_of key) ++ message)
    × Holds256 h.outer (with_pad 0x5C (block_of key))
