-- How octets go over a connection, both ways.
use Rattle.std.specs.Prelude.{◌≡◌, ℕ, List}
use Rattle.std.specs.List.{concat}
use Rattle.link_auth.specs.Records.{Sends, Receives}
use Rattle.link_auth.specs.declared.secure_channel.SecureChannel.{SecureChannel}
use Rattle.link_auth.specs.declared.secure_channel.SecureChannel.TheVariants.{Plain, Authenticated}

-- Octets are put in: what is sent is they, or the records of pieces of them behind all records before.
abbrev pub Puts : SecureChannel → (octets sent : List ℕ) → SecureChannel → Type 0
Puts Plain octets sent Plain = sent ≡ octets
Puts (Authenticated old) octets sent (Authenticated new) = Sends old.writer octets sent new.writer × (new.reader ≡ old.reader)
Puts _ octets sent _ = ⊥

-- A chunk is taken: what came is it, or what the records say that it completed.
abbrev pub Takes : SecureChannel → (chunk octets : List ℕ) → SecureChannel → Type 0
Takes Plain chunk octets Plain = octets ≡ chunk
Takes (Authenticated old) chunk octets (Authenticated new) =
    (pieces : List (List ℕ)) × Receives old.reader chunk pieces new.reader × (octets ≡ concat pieces)
    × (new.writer ≡ old.writer)
Takes _ chunk octets _ = ⊥
