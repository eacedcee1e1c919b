-- What is said, as the items of a stream of frames and notices.
use Rattle.std.proofs.Common.{◌≡◌, ◌∙◌, ℕ, List, [], ◌∷◌, ◌++◌, refl, sym, ap, arith}
use Rattle.std.specs.Prelude.{map}
use Rattle.std.specs.List.{flat_map, AllByRecursion}
use Rattle.std.proofs.lemmas.List.Concat.{flat_map-cons}
use Rattle.failover_message.specs.declared.frame.Frame.{Frame}
use Rattle.failover_message.specs.Frames.{number_octets, content_octets, frame_octets, IsFrame}
use Rattle.notice_laws.proofs.Beginnings.{content_length}
use Rattle.link_notices.specs.Spelling.{notice_text}
use Rattle.link_notices.specs.Items.{Item, sent_frame, sent_notice, IsItem, item_octets, frame_octets as content_frame}
use Rattle.link_notices.specs.Items.{stream_of as items_stream, contents_in, notices_in as texts_in}
use Rattle.link_notices.proofs.TextLengths.{text_fits}
use Rattle.notice_laws.specs.Reading.{Said, said_frame, said_notice, IsSaid, said_octets, stream_of, frames_in}
use Rattle.notice_laws.specs.Reading.{notices_in}

abbrev pub item_of : Said → Item
item_of (said_frame f) = sent_frame (content_octets f)
item_of (said_notice n) = sent_notice (notice_text n)

item_fits : (s : Said) → IsSaid s → IsItem (item_of s)
item_fits (said_frame f) h =
    let long = content_length f h in
    record { least = long.0; most = omega (arith, long.1) }
item_fits (said_notice n) h = text_fits n h

pub items_fit : (said : List Said) → AllByRecursion IsSaid said → AllByRecursion IsItem (map item_of said)
items_fit [] h = tt
items_fit (s ∷ said) h = (item_fits s h.0, items_fit said h.1)

pub frames_fit : (said : List Said) → AllByRecursion IsSaid said → AllByRecursion IsFrame (frames_in said)
frames_fit [] h = tt
frames_fit (said_frame f ∷ said) h = (h.0, frames_fit said h.1)
frames_fit (said_notice n ∷ said) h = frames_fit said h.1

-- ---- their octets

frame_is : (f : Frame) → content_frame (content_octets f) ≡ frame_octets f
unfolding content_frame number_octets
frame_is f = refl

item_is : (s : Said) → item_octets (item_of s) ≡ said_octets s
item_is (said_frame f) = frame_is f
item_is (said_notice n) = refl

pub same_stream : (said : List Said) → items_stream (map item_of said) ≡ stream_of said
same_stream [] = refl
same_stream (s ∷ said) = flat_map-cons item_octets (item_of s) (map item_of said)
    ∙ ap (λ (w : List ℕ). w ++ items_stream (map item_of said)) (item_is s)
    ∙ ap (λ (w : List ℕ). said_octets s ++ w) (same_stream said)
    ∙ sym (flat_map-cons said_octets s said)

pub same_frames : (said : List Said)
    → flat_map content_frame (contents_in (map item_of said)) ≡ flat_map frame_octets (frames_in said)
same_frames [] = refl
same_frames (said_frame f ∷ said) =
    flat_map-cons content_frame (content_octets f) (contents_in (map item_of said))
    ∙ ap (λ (w : List ℕ). w ++ flat_map content_frame (contents_in (map item_of said))) (frame_is f)
    ∙ ap (λ (w : List ℕ). frame_octets f ++ w) (same_frames said)
    ∙ sym (flat_map-cons frame_octets f (frames_in said))
same_frames (said_notice n ∷ said) = same_frames said

pub same_texts : (said : List Said) → texts_in (map item_of said) ≡ map notice_text (notices_in said)
same_texts [] = refl
same_texts (said_frame f ∷ said) = same_texts said
same_texts (said_notice n ∷ said) = ap (λ (texts : List (List ℕ)). notice_text n ∷ texts) (same_texts said)
