-- What a feed answers, from what its octets are.
use Rattle.std.proofs.Common.{◌≡◌, ℕ, List, sym, subst, inl, inr, ◌⊎◌}
use Rattle.text_fields.specs.Octets.{AreOctets}
use Rattle.text_fields.proofs.OctetLaws.{octets_are_bytes}
use Rattle.failover_message.specs.declared.error.LinkError.{LinkError}
use Rattle.failover_message.specs.declared.error.LinkError.TheVariants.{Memory}
use Rattle.failover_message.specs.declared.frame.Frame.{Frame}
use Rattle.failover_message.specs.Stream.{Splits, Breaks}
use Rattle.failover_message.proofs.StreamLaws.{one_split, not_both, one_fault}

-- the octets held and a chunk, as one list
pub given_only : (joined stream : List ℕ) (given : List Frame) (left : List ℕ) → joined ≡ stream
    → Splits joined given left → (frames : List Frame) (rest : List ℕ) → Splits stream frames rest
    → (given ≡ frames) × (left ≡ rest)
given_only joined stream given left same s frames rest t =
    one_split stream given frames left rest (subst (λ (x : List ℕ). Splits x given left) same s) t

pub given_well : (joined stream : List ℕ) (given : List Frame) (left : List ℕ) → AreOctets joined → joined ≡ stream
    → Splits joined given left → (fault : LinkError) → Breaks stream fault → ⊥
given_well joined stream given left octets same s fault b =
    not_both joined given left fault (octets_are_bytes joined octets) s
    (subst (λ (x : List ℕ). Breaks x fault) (sym same) b)

pub refused_well : (joined stream : List ℕ) (error : LinkError) → AreOctets joined → joined ≡ stream
    → (error ≡ Memory) ⊎ Breaks joined error → (frames : List Frame) (rest : List ℕ) → Splits stream frames rest
    → error ≡ Memory
refused_well joined stream error octets same (inl memory) frames rest t = memory
refused_well joined stream error octets same (inr b) frames rest t =
    absurd (not_both joined frames rest error (octets_are_bytes joined octets)
    (subst (λ (x : List ℕ). Splits x frames rest) (sym same) t) b)

pub refused_ill : (joined stream : List ℕ) (error : LinkError) → AreOctets joined → joined ≡ stream
    → (error ≡ Memory) ⊎ Breaks joined error → (fault : LinkError) → Breaks stream fault
    → (error ≡ fault) ⊎ (error ≡ Memory)
refused_ill joined stream error octets same (inl memory) fault b = inr memory
refused_ill joined stream error octets same (inr d) fault b =
    inl (one_fault joined error fault (octets_are_bytes joined octets) d
    (subst (λ (x : List ℕ). Breaks x fault) (sym same) b))
