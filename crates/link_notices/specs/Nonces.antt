-- Nonces that say that an end understands notices.
use Rattle.std.specs.Prelude.{◌≡◌, ℕ, List, drop, codes}

-- behind the 24 octets that are drawn stand these eight
abbrev pub EndsSo : List ℕ → Type 0
EndsSo nonce = drop 24 nonce ≡ codes "fengtnk2"
