-- That what is heard over a connection gives it nothing, and that one that enters was given no record.
use Rattle.std.specs.Prelude.{◌≡◌, ℕ, List, Option, Ok}
use Rattle.std.proofs.Common.{refl, subst, sym, ap, ◌∙◌}
use Rattle.std.specs.Io.KnownBytes.{Keeps}
use Rattle.link_auth.specs.Passing.{Takes}
use Rattle.link_auth.specs.Entering.{Hears}
use Rattle.link_auth.specs.declared.secure_channel.SecureChannel.{SecureChannel}
use Rattle.link_auth.specs.declared.secure_channel.SecureChannel.TheVariants.{Plain, Authenticated}
use Rattle.link_auth.specs.declared.peer_entry.AuthenticatedPeer.{AuthenticatedPeer}
use Rattle.link_auth.specs.declared.peer_entry.PeerEntry.{PeerEntry}
use Rattle.link_auth.specs.declared.peer_entry.PeerEntry.TheVariants.{Proof, Greeting, Callee}
use Rattle.link_auth.specs.declared.peer_entry.EntryProgress.TheVariants.{Admitted}
use Rattle.daemon_io.specs.ConnectionWrites.{given, Sent, GoesOutAsBefore, OnlyHears, IsUnused}
use Rattle.daemon_io.proofs.Given.{stays}

pub goes_out : (p : SecureChannel) → GoesOutAsBefore p p
goes_out Plain = tt
goes_out (Authenticated j) = refl

pub hears_nothing : (s : Sent) → OnlyHears s s
hears_nothing s = record { given = stays s.given; passage = goes_out s.passage }

takes_goes_out : (p q : SecureChannel) (chunk octets : List ℕ) → Takes p chunk octets q → GoesOutAsBefore p q
takes_goes_out Plain Plain chunk octets h = tt
takes_goes_out Plain (Authenticated j) chunk octets h = absurd h
takes_goes_out (Authenticated j) Plain chunk octets h = absurd h
takes_goes_out (Authenticated j) (Authenticated k) chunk octets h = h.3

-- a chunk that was taken
pub hears_chunk : (p q : SecureChannel) (chunk octets : List ℕ) (before after : Option (List ℕ)) → Takes p chunk octets q
    → Keeps before after
    → OnlyHears (record { given = before; passage = p }) (record { given = after; passage = q })
hears_chunk p q chunk octets before after h keeps =
    record { given = keeps; passage = takes_goes_out p q chunk octets h }

unused_behind : (p q : SecureChannel) (chunk octets : List ℕ) → Takes p chunk octets q → IsUnused p → IsUnused q
unused_behind Plain Plain chunk octets h unused = tt
unused_behind Plain (Authenticated j) chunk octets h unused = absurd h
unused_behind (Authenticated j) Plain chunk octets h unused = absurd h
unused_behind (Authenticated j) (Authenticated k) chunk octets h unused =
    ap (λ w. w.number) h.3 ∙ unused

open_is_unused : (p : SecureChannel) → p ≡ Plain → IsUnused p
open_is_unused p same = subst (λ x. IsUnused x) (sym same) tt

pub entrant_is_unused : (w : PeerEntry) (chunk : List ℕ) (e : AuthenticatedPeer) → Hears w chunk (Ok (Admitted e))
    → IsUnused e.passage
entrant_is_unused (Proof o) chunk e h =
    unused_behind (Authenticated h.joined) e.passage _ _ h.first (ap (λ w. w.number) h.proof.3.sends)
entrant_is_unused (Greeting heard) chunk e h = open_is_unused e.passage h.1.passage
entrant_is_unused Callee chunk e h = open_is_unused e.passage h.passage
