-- What is read is what the octets spell.
use Rattle.std.proofs.Common.{◌≡◌, ℕ, suc, ◌<◌, get_or, List, [], ◌∷◌, Option, Some, None, Result, Ok, Err, refl, ap}
use Rattle.std.proofs.Common.{subst, ◌∙◌}
use Rattle.std.specs.Prelude.{IfOk, if◌then◌else◌}
use Rattle.std.specs.Str.{bytes_eq}
use Rattle.std.proofs.lemmas.Slice.Eq.{bytes_eq-Decides}
use Rattle.text_fields.specs.Octets.{AreOctets}
use Rattle.dhcp6_pd.specs.declared.error.PdFault.{PdFault}
use Rattle.dhcp6_pd.specs.declared.error.PdFault.TheVariants.{NotOurs}
use Rattle.dhcp6_pd.specs.declared.error.PdError.{PdError}
use Rattle.dhcp6_pd.specs.declared.message.ClientKind.{ClientKind}
use Rattle.dhcp6_pd.specs.declared.message.ClientKind.TheVariants.{Solicit, Request, Renew, Rebind, Release}
use Rattle.dhcp6_pd.specs.declared.message_class.MessageClass.{MessageClass}
use Rattle.dhcp6_pd.specs.declared.message_class.MessageClass.TheVariants.{Leases}
use Rattle.dhcp6_pd.specs.declared.message_class.MessageKind.{MessageKind}
use Rattle.dhcp6_pd.specs.declared.message_class.MessageKind.TheVariants.{Lease, Information}
use Rattle.dhcp6_pd.specs.Refusals.{IsRead}
use Rattle.dhcp6_pd.specs.declared.message.ClientMessage.{ClientMessage}
use Rattle.dhcp6_pd.specs.declared.unvalidated.UnvalidatedMessage.{UnvalidatedMessage}
use Rattle.dhcp6_pd.specs.declared.numbers.TheConstants.{MAX_RELAYS}
use Rattle.dhcp6_pd.specs.Grammar.{SpellsUnvalidated, server_for, addressed, Spells}
use Rattle.dhcp6_pd.specs.Faults.{message_in, for_server, or_no_client, lease_or_ignored, identified}
use Rattle.dhcp6_pd.specs.Faults.{message_of}
use Rattle.dhcp6_pd.specs.Answers.{Gives}
use Rattle.dhcp6_pd.proofs.Binds.{bind_ok, allowed, ok_is}
use Rattle.dhcp6_pd.proofs.MessageLaws.{message_takes, message_again}

pub untested_takes : (reads : MessageClass) (octets : List ℕ) (u : UnvalidatedMessage) → AreOctets octets
    → message_in reads MAX_RELAYS octets ≡ Ok u → SpellsUnvalidated octets u × IsRead reads u.kind
untested_takes reads octets u fits e =
    let h = message_takes reads MAX_RELAYS octets u fits e in (record { spelled = h.0; few = h.1 }, h.2)

pub untested_again : (reads : MessageClass) (octets : List ℕ) (u : UnvalidatedMessage) → IsRead reads u.kind
    → SpellsUnvalidated octets u → message_in reads MAX_RELAYS octets ≡ Ok u
untested_again reads octets u read h = message_again reads u.relays MAX_RELAYS octets u read h.spelled h.few

-- ---- the identifiers

same_server : (own server : List ℕ) → (let r : Result (Unit {0}) PdFault =
    if bytes_eq server own then Ok tt else Err NotOurs in r) ≡ Ok tt → Some server ≡ Some own
same_server own server e = ap (λ (x : List ℕ). Some x)
    ((bytes_eq-Decides server own).0 (allowed {A = Unit {0}} (bytes_eq server own) NotOurs (Ok tt) tt e).0)

server_takes : (own : List ℕ) (kind : ClientKind) (server : Option (List ℕ)) → for_server own kind server ≡ Ok tt
    → server ≡ server_for own kind
unfolding for_server
server_takes own Solicit None e = refl
server_takes own Solicit (Some server) e = absurd cc
server_takes own Rebind None e = refl
server_takes own Rebind (Some server) e = absurd cc
server_takes own Request None e = absurd cc
server_takes own Request (Some server) e = same_server own server e
server_takes own Renew None e = absurd cc
server_takes own Renew (Some server) e = same_server own server e
server_takes own Release None e = absurd cc
server_takes own Release (Some server) e = same_server own server e

server_again : (own : List ℕ) (kind : ClientKind) → for_server own kind (server_for own kind) ≡ Ok tt
unfolding for_server
server_again own Solicit = refl
server_again own Rebind = refl
server_again own Request = rw ((bytes_eq-Decides own own).1 refl) refl
server_again own Renew = rw ((bytes_eq-Decides own own).1 refl) refl
server_again own Release = rw ((bytes_eq-Decides own own).1 refl) refl

client_some : (o : Option (List ℕ)) (client : List ℕ) → or_no_client o ≡ Ok client → o ≡ Some client
client_some None client e = absurd cc
client_some (Some x) client e = ap (λ (y : List ℕ). Some y) (ok_is x client e)

lease_is : (kind : MessageKind) (k : ClientKind) → lease_or_ignored kind ≡ Ok k → kind ≡ Lease k
lease_is (Lease kind) k e = ap (λ (x : ClientKind). Lease x) (ok_is kind k e)
lease_is Information k e = absurd cc

identified_takes : (own : List ℕ) (u : UnvalidatedMessage) (m : ClientMessage) → identified own u ≡ Ok m
    → u ≡ addressed own m
unfolding identified
identified_takes own u m e =
    let k = bind_ok (lease_or_ignored u.kind) _ m e in
    let c = bind_ok (or_no_client u.client) _ m k.2 in
    let s = bind_ok (for_server own k.0 u.server) _ m c.2 in
    ap (λ (x : Option (List ℕ)). record u { client = x }) (client_some u.client c.0 c.1)
    ∙ (ap (λ (x : Option (List ℕ)). record u { client = Some c.0; server = x }) (server_takes own k.0 u.server s.1)
    ∙ (ap (λ (x : MessageKind). record u { client = Some c.0; server = server_for own k.0; kind = x })
    (lease_is u.kind k.0 k.1) ∙ ap (addressed own) (ok_is _ _ s.2)))

identified_again : (own : List ℕ) (m : ClientMessage) → identified own (addressed own m) ≡ Ok m
unfolding identified
identified_again own m = rw (server_again own m.kind) refl

-- ---- the message

pub message_of_takes : (own octets : List ℕ) (m : ClientMessage) → AreOctets octets → message_of own octets ≡ Ok m
    → Spells own octets m
message_of_takes own octets m fits e =
    let b = bind_ok (message_in Leases MAX_RELAYS octets) (identified own) m e in
    subst (SpellsUnvalidated octets) (identified_takes own b.0 m b.2) (untested_takes Leases octets b.0 fits b.1).0

pub message_of_again : (own octets : List ℕ) (m : ClientMessage) → Spells own octets m → message_of own octets ≡ Ok m
message_of_again own octets m h = rw (untested_again Leases octets (addressed own m) tt h) (identified_again own m)

-- ---- what a function gives that gives what parsing gives

pub are_octets : (octets : List ℕ) → ((k : ℕ) → get_or octets k 0 < 256) → AreOctets octets
are_octets [] h = tt
are_octets (x ∷ octets) h = (h 0, are_octets octets (λ k. h (suc k)))

pub is_found : (own octets : List ℕ) (r : Result ClientMessage PdError) → AreOctets octets
    → Gives (λ m. m) r (message_of own octets) → IfOk r (λ m. Spells own octets m)
is_found own octets (Ok m) fits h = message_of_takes own octets m fits h
is_found own octets (Err e) fits h = tt

pub is_only : (own octets : List ℕ) (r : Result ClientMessage PdError) (m : ClientMessage)
    → Gives (λ x. x) r (message_of own octets) → Spells own octets m → Gives (λ x. x) r (Ok m)
is_only own octets r m h spelled = subst (λ (parsed : Result ClientMessage PdFault). Gives (λ x. x) r parsed)
    (message_of_again own octets m spelled) h
