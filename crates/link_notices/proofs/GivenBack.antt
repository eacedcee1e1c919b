-- The octets of the frames, and the notices, of what was given.
use Rattle.std.proofs.Common.{◌≡◌, ◌∙◌, ℕ, List, [], ◌∷◌, ◌++◌, refl, sym, ap}
use Rattle.std.specs.Prelude.{map}
use Rattle.std.specs.List.{flat_map, AllByRecursion}
use Rattle.std.proofs.lemmas.List.Concat.{flat_map-cons}
use Rattle.link_notices.specs.declared.stream_part.StreamPart.{StreamPart}
use Rattle.link_notices.specs.declared.stream_part.StreamPart.TheVariants.{Frames, Notice}
use Rattle.link_notices.specs.Parting.{Token, frame_octet, whole_notice, part_tokens, tokens_of, Place, start, Parted}
use Rattle.link_notices.specs.Parting.{parted}
use Rattle.link_notices.specs.Items.{Item, sent_frame, sent_notice, IsItem, item_tokens, stream_of, sent_tokens}
use Rattle.link_notices.specs.Items.{frame_octets, contents_in, notices_in}
use Rattle.link_notices.specs.Laws.{Fed, Feeds, chunks_of, parts_of, octets_in, texts_in, IsGivenBack}
use Rattle.link_notices.proofs.StreamLaws.{written_is_given, chunks_join}

abbrev octets_at : List Token → List ℕ
octets_at [] = []
octets_at (frame_octet b ∷ tokens) = b ∷ octets_at tokens
octets_at (whole_notice text ∷ tokens) = octets_at tokens

abbrev texts_at : List Token → List (List ℕ)
texts_at [] = []
texts_at (frame_octet b ∷ tokens) = texts_at tokens
texts_at (whole_notice text ∷ tokens) = text ∷ texts_at tokens

octets_run : (octets : List ℕ) (tokens : List Token)
    → octets_at (map frame_octet octets ++ tokens) ≡ octets ++ octets_at tokens
octets_run [] tokens = refl
octets_run (b ∷ octets) tokens = ap (λ (w : List ℕ). b ∷ w) (octets_run octets tokens)

texts_run : (octets : List ℕ) (tokens : List Token) → texts_at (map frame_octet octets ++ tokens) ≡ texts_at tokens
texts_run [] tokens = refl
texts_run (b ∷ octets) tokens = texts_run octets tokens

-- ---- of the parts

parts_octets : (parts : List StreamPart) → octets_at (tokens_of parts) ≡ octets_in parts
parts_octets [] = refl
parts_octets (Frames octets ∷ parts) = ap octets_at (flat_map-cons part_tokens (Frames octets) parts)
    ∙ octets_run octets (tokens_of parts) ∙ ap (λ (w : List ℕ). octets ++ w) (parts_octets parts)
parts_octets (Notice text ∷ parts) = ap octets_at (flat_map-cons part_tokens (Notice text) parts) ∙ parts_octets parts

parts_texts : (parts : List StreamPart) → texts_at (tokens_of parts) ≡ texts_in parts
parts_texts [] = refl
parts_texts (Frames octets ∷ parts) = ap texts_at (flat_map-cons part_tokens (Frames octets) parts)
    ∙ texts_run octets (tokens_of parts) ∙ parts_texts parts
parts_texts (Notice text ∷ parts) = ap texts_at (flat_map-cons part_tokens (Notice text) parts)
    ∙ ap (λ (w : List (List ℕ)). text ∷ w) (parts_texts parts)

-- ---- of what was sent

sent_octets : (items : List Item) → octets_at (sent_tokens items) ≡ flat_map frame_octets (contents_in items)
sent_octets [] = refl
sent_octets (sent_frame content ∷ items) = ap octets_at (flat_map-cons item_tokens (sent_frame content) items)
    ∙ octets_run (frame_octets content) (sent_tokens items)
    ∙ ap (λ (w : List ℕ). frame_octets content ++ w) (sent_octets items)
    ∙ sym (flat_map-cons frame_octets content (contents_in items))
sent_octets (sent_notice text ∷ items) = ap octets_at (flat_map-cons item_tokens (sent_notice text) items)
    ∙ sent_octets items

sent_texts : (items : List Item) → texts_at (sent_tokens items) ≡ notices_in items
sent_texts [] = refl
sent_texts (sent_frame content ∷ items) = ap texts_at (flat_map-cons item_tokens (sent_frame content) items)
    ∙ texts_run (frame_octets content) (sent_tokens items) ∙ sent_texts items
sent_texts (sent_notice text ∷ items) = ap texts_at (flat_map-cons item_tokens (sent_notice text) items)
    ∙ ap (λ (w : List (List ℕ)). text ∷ w) (sent_texts items)

pub cut_is_given : (items : List Item) (feds : List Fed) (after : Place) → AllByRecursion IsItem items
    → chunks_of feds ≡ stream_of items → Feeds start feds after → IsGivenBack items feds after
cut_is_given items feds after fit same h =
    let one = sym (chunks_join start after feds h) ∙ ap (parted start) same ∙ written_is_given items fit in
    let order : tokens_of (parts_of feds) ≡ sent_tokens items = ap (λ (x : Parted). x.tokens) one in
    record {
      order = order;
      frames = sym (parts_octets (parts_of feds)) ∙ ap octets_at order ∙ sent_octets items;
      notices = sym (parts_texts (parts_of feds)) ∙ ap texts_at order ∙ sent_texts items;
      ends = ap (λ (x : Parted). x.place) one;
    }
