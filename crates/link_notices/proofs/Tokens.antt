-- Parts and their tokens.
use Rattle.std.proofs.Common.{◌≡◌, ◌∙◌, ℕ, List, [], ◌∷◌, ◌++◌, sym, ap, append_assoc, append-nil}
use Rattle.std.specs.Prelude.{map}
use Rattle.std.proofs.lemmas.List.{map-append}
use Rattle.std.proofs.lemmas.List.Concat.{flat_map-append, flat_map-cons}
use Rattle.link_notices.specs.declared.stream_part.StreamPart.{StreamPart}
use Rattle.link_notices.specs.declared.stream_part.StreamPart.TheVariants.{Frames, Notice}
use Rattle.link_notices.specs.Parting.{Token, frame_octet, whole_notice, part_tokens, tokens_of}

pub part_more : (parts : List StreamPart) (part : StreamPart)
    → tokens_of (parts ++ part ∷ []) ≡ tokens_of parts ++ part_tokens part
part_more parts part = flat_map-append part_tokens parts (part ∷ [])
    ∙ ap (λ (w : List Token). tokens_of parts ++ w) (flat_map-cons part_tokens part [] ∙ append-nil (part_tokens part))

pub octet_more : (parts : List StreamPart) (octets : List ℕ) (b : ℕ)
    → tokens_of parts ++ map frame_octet (octets ++ b ∷ [])
    ≡ (tokens_of parts ++ map frame_octet octets) ++ frame_octet b ∷ []
octet_more parts octets b =
    ap (λ (w : List Token). tokens_of parts ++ w) (map-append frame_octet octets (b ∷ []))
    ∙ sym (append_assoc (tokens_of parts) (map frame_octet octets) (frame_octet b ∷ []))

pub frames_more : (parts : List StreamPart) (octets : List ℕ)
    → tokens_of (parts ++ Frames octets ∷ []) ++ [] ≡ tokens_of parts ++ map frame_octet octets
frames_more parts octets = append-nil (tokens_of (parts ++ Frames octets ∷ [])) ∙ part_more parts (Frames octets)

-- no octet stands behind the parts
pub notice_more : (parts : List StreamPart) (octets text : List ℕ) → octets ≡ []
    → tokens_of (parts ++ Notice text ∷ []) ++ map frame_octet octets
    ≡ (tokens_of parts ++ map frame_octet octets) ++ whole_notice text ∷ []
notice_more parts octets text none = rw (none, append-nil (tokens_of (parts ++ Notice text ∷ [])))
    (part_more parts (Notice text) ∙ ap (λ (w : List Token). w ++ whole_notice text ∷ [])
    (sym (append-nil (tokens_of parts))))

pub closed_is : (parts : List StreamPart) (octets : List ℕ) → octets ≡ []
    → tokens_of parts ++ map frame_octet octets ≡ tokens_of parts
closed_is parts octets none = rw none (append-nil (tokens_of parts))
