-- What holds of all streams of frames and notices, of the chunks in which they come, and of the texts of notices.
use Rattle.std.specs.Prelude.{◌≡◌, ℕ, List, [], ◌∷◌, ◌++◌}
use Rattle.std.specs.List.{flat_map, AllByRecursion}
use Rattle.link_notices.specs.declared.stream_part.StreamPart.{StreamPart}
use Rattle.link_notices.specs.declared.stream_part.StreamPart.TheVariants.{Frames, Notice}
use Rattle.link_notices.specs.Parting.{Place, start, parted, tokens_of}
use Rattle.link_notices.specs.Items.{Item, IsItem, stream_of, sent_tokens, frame_octets, contents_in, notices_in}
use Rattle.link_notices.specs.Items.{IsNoticeText}
use Rattle.link_notices.specs.Spelling.{notice_text, IsNotice}
use Rattle.link_notices.specs.declared.notice.Notice.{Notice as NoticeValue}

-- ---- chunks

-- a chunk, and the parts that were given for it
pub record Fed : Type 0 where
  pub chunk : List ℕ
  pub parts : List StreamPart

-- chunks fed one after another; a refused chunk gave nothing and changed nothing
abbrev pub Feeds : Place → List Fed → Place → Type 0
Feeds before [] after = after ≡ before
Feeds before (fed ∷ feds) after =
    (next : Place) × (parted before fed.chunk ≡ record { place = next; tokens = tokens_of fed.parts })
    × Feeds next feds after

abbrev pub chunks_of : List Fed → List ℕ
chunks_of feds = flat_map (λ fed. fed.chunk) feds

abbrev pub parts_of : List Fed → List StreamPart
parts_of feds = flat_map (λ fed. fed.parts) feds

-- what was given for the chunks is what the stream of the chunks gives
abbrev pub ChunksJoin : Type 0
ChunksJoin = (before after : Place) (feds : List Fed) → Feeds before feds after
    → parted before (chunks_of feds) ≡ record { place = after; tokens = tokens_of (parts_of feds) }

-- ---- what was written is given back

-- frames and notices that were written are given in their order, and nothing else is
abbrev pub WrittenIsGiven : Type 0
WrittenIsGiven = (items : List Item) → AllByRecursion IsItem items
    → parted start (stream_of items) ≡ record { place = start; tokens = sent_tokens items }

-- the octets that go to the frames, and the texts of the notices
abbrev pub octets_in : List StreamPart → List ℕ
octets_in [] = []
octets_in (Frames octets ∷ parts) = octets ++ octets_in parts
octets_in (Notice text ∷ parts) = octets_in parts

abbrev pub texts_in : List StreamPart → List (List ℕ)
texts_in [] = []
texts_in (Frames octets ∷ parts) = texts_in parts
texts_in (Notice text ∷ parts) = text ∷ texts_in parts

-- however the stream was cut: the frames' octets are those that were sent, and the notices are
pub record IsGivenBack (items : List Item) (feds : List Fed) (after : Place) : Type 0 where
  pub order : tokens_of (parts_of feds) ≡ sent_tokens items
  pub frames : octets_in (parts_of feds) ≡ flat_map frame_octets (contents_in items)
  pub notices : texts_in (parts_of feds) ≡ notices_in items
  pub ends : after ≡ start

abbrev pub CutIsGiven : Type 0
CutIsGiven = (items : List Item) (feds : List Fed) (after : Place) → AllByRecursion IsItem items
    → chunks_of feds ≡ stream_of items → Feeds start feds after → IsGivenBack items feds after

-- ---- texts

-- each notice has a text that may go over a link
abbrev pub TextsFit : Type 0
TextsFit = (n : NoticeValue) → IsNotice n → IsNoticeText (notice_text n)
