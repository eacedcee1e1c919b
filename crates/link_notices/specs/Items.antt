-- What an end writes: frames and notices.
use Rattle.std.specs.Prelude.{ℕ, ◌/◌, ◌%◌, ◌≤◌, List, [], ◌∷◌, ◌++◌, length, map}
use Rattle.std.specs.List.{flat_map}
use Rattle.std.specs.Int.{w32, to_be_bytes}
use Rattle.link_notices.specs.Parting.{Token, frame_octet, whole_notice}

-- a frame by what stands behind its length field, or a notice by its text
pub data Item : Type 0 where
  sent_frame : List ℕ → Item
  sent_notice : List ℕ → Item

-- what may stand behind a frame's length field
pub record IsContent (content : List ℕ) : Type 0 where
  pub least : 13 ≤ length content
  pub most : length content ≤ 512

-- 4 octets in network order say how many follow
unfoldable pub frame_octets : List ℕ → List ℕ
frame_octets content = to_be_bytes w32 (length content) ++ content

-- the texts that a notice may have
pub record IsNoticeText (text : List ℕ) : Type 0 where
  pub some : 1 ≤ length text
  pub few : length text ≤ 4096

-- octet 1, how many octets follow as 2 octets in network order, and these
abbrev pub notice_octets : List ℕ → List ℕ
notice_octets text = 1 ∷ length text / 256 ∷ length text % 256 ∷ text

abbrev pub IsItem : Item → Type 0
IsItem (sent_frame content) = IsContent content
IsItem (sent_notice text) = IsNoticeText text

abbrev pub item_octets : Item → List ℕ
item_octets (sent_frame content) = frame_octets content
item_octets (sent_notice text) = notice_octets text

-- what the other end is to be given of it
abbrev pub item_tokens : Item → List Token
item_tokens (sent_frame content) = map frame_octet (frame_octets content)
item_tokens (sent_notice text) = whole_notice text ∷ []

abbrev pub stream_of : List Item → List ℕ
stream_of items = flat_map item_octets items

abbrev pub sent_tokens : List Item → List Token
sent_tokens items = flat_map item_tokens items

-- ---- the frames alone, and the notices alone

abbrev pub contents_in : List Item → List (List ℕ)
contents_in [] = []
contents_in (sent_frame content ∷ items) = content ∷ contents_in items
contents_in (sent_notice text ∷ items) = contents_in items

abbrev pub notices_in : List Item → List (List ℕ)
notices_in [] = []
notices_in (sent_frame content ∷ items) = notices_in items
notices_in (sent_notice text ∷ items) = text ∷ notices_in items
