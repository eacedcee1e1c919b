-- Frames and notices one behind another, and chunks.
use Rattle.std.proofs.Common.{◌≡◌, ◌∙◌, List, [], ◌∷◌, ◌++◌, refl, sym, ap}
use Rattle.std.specs.List.{AllByRecursion}
use Rattle.std.proofs.lemmas.List.Concat.{flat_map-append, flat_map-cons}
use Rattle.link_notices.specs.Parting.{Token, part_tokens, tokens_of, Place, start, Parted, behind_tokens, parted}
use Rattle.link_notices.specs.Items.{Item, sent_frame, sent_notice, IsItem, item_octets, item_tokens, stream_of}
use Rattle.link_notices.specs.Items.{sent_tokens}
use Rattle.link_notices.specs.Laws.{Fed, Feeds, chunks_of, parts_of}
use Rattle.link_notices.proofs.Runs.{goes_on, frame_whole, notice_whole}

item_given : (item : Item) → IsItem item
    → parted start (item_octets item) ≡ record { place = start; tokens = item_tokens item }
item_given (sent_frame content) h = frame_whole content h
item_given (sent_notice text) h = notice_whole text h

abbrev led_to : Place → List Token → Parted
led_to p tokens = record { place = p; tokens = tokens }

led : (p : Place) (s t : List Token) → s ≡ t → led_to p s ≡ led_to p t
led p s t e = ap (led_to p) e

pub written_is_given : (items : List Item) → AllByRecursion IsItem items
    → parted start (stream_of items) ≡ record { place = start; tokens = sent_tokens items }
unfolding parted
written_is_given [] h = refl
written_is_given (item ∷ items) h =
    ap (parted start) (flat_map-cons item_octets item items)
    ∙ goes_on start start (item_octets item) (stream_of items) (item_tokens item) (item_given item h.0)
    ∙ ap (behind_tokens (item_tokens item)) (written_is_given items h.1)
    ∙ led start _ _ (sym (flat_map-cons item_tokens item items))

parts_cons : (fed : Fed) (feds : List Fed)
    → tokens_of fed.parts ++ tokens_of (parts_of feds) ≡ tokens_of (parts_of (fed ∷ feds))
parts_cons fed feds =
    sym (flat_map-append part_tokens fed.parts (parts_of feds))
    ∙ ap tokens_of (sym (flat_map-cons (λ (x : Fed). x.parts) fed feds))

pub chunks_join : (before after : Place) (feds : List Fed) → Feeds before feds after
    → parted before (chunks_of feds) ≡ record { place = after; tokens = tokens_of (parts_of feds) }
unfolding parted
chunks_join before after [] h = ap (λ (p : Place). record { place = p; tokens = [] }) (sym h)
chunks_join before after (fed ∷ feds) h =
    ap (parted before) (flat_map-cons (λ (x : Fed). x.chunk) fed feds)
    ∙ goes_on before h.0 fed.chunk (chunks_of feds) (tokens_of fed.parts) h.1
    ∙ ap (behind_tokens (tokens_of fed.parts)) (chunks_join h.0 after feds h.2)
    ∙ led after _ _ (parts_cons fed feds)
