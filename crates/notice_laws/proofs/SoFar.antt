-- A part of what was said has come.
use Rattle.std.proofs.Common.{◌≡◌, ◌∙◌, ℕ, List, [], ◌∷◌, ◌++◌, refl, sym, ap, append_assoc, append-nil}
use Rattle.std.specs.Prelude.{map}
use Rattle.std.specs.List.{flat_map, AllByRecursion}
use Rattle.std.proofs.lemmas.List.Concat.{flat_map-cons}
use Rattle.failover_message.specs.Frames.{frame_octets}
use Rattle.failover_message.specs.Stream.{stream_of as frames_stream, chunks_of as chunks_fed}
use Rattle.failover_message.specs.Laws.{FramesStandApart, ChunksJoin}
use Rattle.notice_laws.proofs.Beginnings.{first_are}
use Rattle.link_notices.specs.declared.stream_part.StreamPart.{StreamPart}
use Rattle.link_notices.specs.declared.stream_part.StreamPart.TheVariants.{Frames, Notice}
use Rattle.link_notices.specs.Parting.{Token, frame_octet, whole_notice, part_tokens, tokens_of, start, Parted, parted}
use Rattle.link_notices.specs.Items.{Item, sent_frame, sent_notice, item_tokens, sent_tokens, contents_in}
use Rattle.link_notices.specs.Items.{frame_octets as content_frame, notices_in as texts_sent}
use Rattle.link_notices.specs.Laws.{parts_of, octets_in, texts_in}
use Rattle.link_notices.proofs.Runs.{goes_on}
use Rattle.link_notices.proofs.StreamLaws.{written_is_given, chunks_join}
use Rattle.notice_laws.specs.Reading.{Said, IsSaid, stream_of, frames_in, Hearing, IsHearing, stream_heard, frames_read}
use Rattle.notice_laws.specs.Reading.{IsBeginning}
use Rattle.notice_laws.proofs.SaidItems.{item_of, items_fit, frames_fit, same_stream, same_frames, same_texts}

-- ---- the octets for frames, and the texts, of what is given

abbrev octets_at : List Token → List ℕ
octets_at [] = []
octets_at (frame_octet b ∷ tokens) = b ∷ octets_at tokens
octets_at (whole_notice text ∷ tokens) = octets_at tokens

abbrev texts_at : List Token → List (List ℕ)
texts_at [] = []
texts_at (frame_octet b ∷ tokens) = texts_at tokens
texts_at (whole_notice text ∷ tokens) = text ∷ texts_at tokens

octets_run : (octets : List ℕ) (tokens : List Token)
    → octets_at (map frame_octet octets ++ tokens) ≡ octets ++ octets_at tokens
octets_run [] tokens = refl
octets_run (b ∷ octets) tokens = ap (λ (w : List ℕ). b ∷ w) (octets_run octets tokens)

texts_run : (octets : List ℕ) (tokens : List Token) → texts_at (map frame_octet octets ++ tokens) ≡ texts_at tokens
texts_run [] tokens = refl
texts_run (b ∷ octets) tokens = texts_run octets tokens

octets_append : (a b : List Token) → octets_at (a ++ b) ≡ octets_at a ++ octets_at b
octets_append [] b = refl
octets_append (frame_octet x ∷ a) b = ap (λ (w : List ℕ). x ∷ w) (octets_append a b)
octets_append (whole_notice text ∷ a) b = octets_append a b

texts_append : (a b : List Token) → texts_at (a ++ b) ≡ texts_at a ++ texts_at b
texts_append [] b = refl
texts_append (frame_octet x ∷ a) b = texts_append a b
texts_append (whole_notice text ∷ a) b = ap (λ (w : List (List ℕ)). text ∷ w) (texts_append a b)

parts_octets : (parts : List StreamPart) → octets_at (tokens_of parts) ≡ octets_in parts
parts_octets [] = refl
parts_octets (Frames octets ∷ parts) = ap octets_at (flat_map-cons part_tokens (Frames octets) parts)
    ∙ octets_run octets (tokens_of parts) ∙ ap (λ (w : List ℕ). octets ++ w) (parts_octets parts)
parts_octets (Notice text ∷ parts) = ap octets_at (flat_map-cons part_tokens (Notice text) parts) ∙ parts_octets parts

parts_texts : (parts : List StreamPart) → texts_at (tokens_of parts) ≡ texts_in parts
parts_texts [] = refl
parts_texts (Frames octets ∷ parts) = ap texts_at (flat_map-cons part_tokens (Frames octets) parts)
    ∙ texts_run octets (tokens_of parts) ∙ parts_texts parts
parts_texts (Notice text ∷ parts) = ap texts_at (flat_map-cons part_tokens (Notice text) parts)
    ∙ ap (λ (w : List (List ℕ)). text ∷ w) (parts_texts parts)

sent_octets : (items : List Item) → octets_at (sent_tokens items) ≡ flat_map content_frame (contents_in items)
sent_octets [] = refl
sent_octets (sent_frame content ∷ items) = ap octets_at (flat_map-cons item_tokens (sent_frame content) items)
    ∙ octets_run (content_frame content) (sent_tokens items)
    ∙ ap (λ (w : List ℕ). content_frame content ++ w) (sent_octets items)
    ∙ sym (flat_map-cons content_frame content (contents_in items))
sent_octets (sent_notice text ∷ items) = ap octets_at (flat_map-cons item_tokens (sent_notice text) items)
    ∙ sent_octets items

sent_texts : (items : List Item) → texts_at (sent_tokens items) ≡ texts_sent items
sent_texts [] = refl
sent_texts (sent_frame content ∷ items) = ap texts_at (flat_map-cons item_tokens (sent_frame content) items)
    ∙ texts_run (content_frame content) (sent_tokens items) ∙ sent_texts items
sent_texts (sent_notice text ∷ items) = ap texts_at (flat_map-cons item_tokens (sent_notice text) items)
    ∙ ap (λ (w : List (List ℕ)). text ∷ w) (sent_texts items)

-- ---- what was read

pub read_so_far : FramesStandApart → ChunksJoin → (said : List Said) (h : Hearing) (more : List ℕ) → AllByRecursion IsSaid said → IsHearing h
    → stream_heard h ++ more ≡ stream_of said → IsBeginning said h
read_so_far apart join said h more fit hearing same =
    let rest = (parted h.place more).tokens in
    let one = sym (goes_on start h.place (stream_heard h) more (tokens_of (parts_of h.parting))
    (chunks_join start h.place h.parting hearing.parts))
    ∙ ap (parted start) (same ∙ sym (same_stream said)) ∙ written_is_given (map item_of said) (items_fit said fit) in
    let order : tokens_of (parts_of h.parting) ++ rest ≡ sent_tokens (map item_of said) =
    ap (λ (x : Parted). x.tokens) one in
    let octets : chunks_fed h.feeding ++ octets_at rest ≡ flat_map frame_octets (frames_in said) =
    ap (λ (w : List ℕ). w ++ octets_at rest) (hearing.hands_on ∙ sym (parts_octets (parts_of h.parting)))
    ∙ sym (octets_append (tokens_of (parts_of h.parting)) rest) ∙ ap octets_at order
    ∙ sent_octets (map item_of said) ∙ same_frames said in
    let read = join h.feeding h.rest hearing.feeds in
    let begins : frames_stream (frames_read h) (h.rest ++ octets_at rest) ≡ frames_stream (frames_in said) [] =
    sym (append_assoc (flat_map frame_octets (frames_read h)) h.rest (octets_at rest))
    ∙ ap (λ (w : List ℕ). w ++ octets_at rest) (sym read.whole) ∙ octets
    ∙ sym (append-nil (flat_map frame_octets (frames_in said))) in
    let first = first_are apart (frames_read h) (frames_in said) (h.rest ++ octets_at rest) begins read.each
    (frames_fit said fit) in
    record {
      later = first.0;
      frames = first.1;
      unread = texts_at rest;
      notices = sym (same_texts said) ∙ sym (sent_texts (map item_of said)) ∙ sym (ap texts_at order)
          ∙ texts_append (tokens_of (parts_of h.parting)) rest
          ∙ ap (λ (w : List (List ℕ)). w ++ texts_at rest) (parts_texts (parts_of h.parting));
    }
