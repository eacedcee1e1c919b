-- A stream of frames and notices, parted octet by octet. A frame begins with octet 0, a notice with octet 1. What
-- begins otherwise is for the frames to refuse, and so is all that follows it.
use Rattle.std.specs.Prelude.{ℕ, ◌+◌, ◌-◌, ◌*◌, ◌==◌, ◌&&◌, Bool, nat_le, if◌then◌else◌, List, [], ◌∷◌, ◌++◌, map}
use Rattle.std.specs.List.{flat_map}
use Rattle.link_notices.specs.declared.stage.Stage.{Stage}
use Rattle.link_notices.specs.declared.stage.Stage.TheVariants.{Between, SecondOfLength, ThirdOfLength, FourthOfLength}
use Rattle.link_notices.specs.declared.stage.Stage.TheVariants.{InFrame, NoticeLength, NoticeLengthEnd, InNotice}
use Rattle.link_notices.specs.declared.stage.Stage.TheVariants.{Foreign}
use Rattle.link_notices.specs.declared.stream_part.StreamPart.{StreamPart}
use Rattle.link_notices.specs.declared.stream_part.StreamPart.TheVariants.{Frames, Notice}

-- what is given of a stream, in order: each octet of the frames, and each notice once it is whole
pub data Token : Type 0 where
  frame_octet : ℕ → Token
  whole_notice : List ℕ → Token

abbrev pub part_tokens : StreamPart → List Token
part_tokens (Frames octets) = map frame_octet octets
part_tokens (Notice text) = whole_notice text ∷ []

abbrev pub tokens_of : List StreamPart → List Token
tokens_of parts = flat_map part_tokens parts

-- ---- one octet

-- how many octets may stand behind a frame's length field
abbrev pub is_frame_length : ℕ → Bool
is_frame_length n = nat_le 13 n && nat_le n 512

-- how many octets a notice may have
abbrev pub is_notice_length : ℕ → Bool
is_notice_length n = nat_le 1 n && nat_le n 4096

abbrev pub first_stage : ℕ → Stage
first_stage b = if b == 0 then SecondOfLength else if b == 1 then NoticeLength else Foreign

-- behind a frame's length field
abbrev pub frame_stage : ℕ → Stage
frame_stage n = if is_frame_length n then InFrame n else Foreign

-- behind a notice's
abbrev pub notice_stage : ℕ → Stage
notice_stage n = if is_notice_length n then InNotice n else Foreign

-- where the next octet stands, when this one stood here
abbrev pub next_stage : Stage → ℕ → Stage
next_stage Between b = first_stage b
next_stage SecondOfLength b = if b == 0 then ThirdOfLength else Foreign
next_stage ThirdOfLength b = FourthOfLength b
next_stage (FourthOfLength third) b = frame_stage (256 * third + b)
next_stage (InFrame left) b = if nat_le left 1 then Between else InFrame (left - 1)
next_stage NoticeLength b = NoticeLengthEnd b
next_stage (NoticeLengthEnd high) b = notice_stage (256 * high + b)
next_stage (InNotice left) b = if nat_le left 1 then Between else InNotice (left - 1)
next_stage Foreign b = Foreign

-- what has come of the text of a notice that isn't whole
abbrev pub next_text : Stage → List ℕ → ℕ → List ℕ
next_text (InNotice left) text b = if nat_le left 1 then [] else text ++ b ∷ []
next_text _ text b = text

-- what is given with the octet: nothing of a notice before it is whole
abbrev pub given : Stage → List ℕ → ℕ → List Token
given Between text b = if b == 1 then [] else frame_octet b ∷ []
given NoticeLength text b = []
given (NoticeLengthEnd high) text b =
    if is_notice_length (256 * high + b) then [] else frame_octet 1 ∷ frame_octet high ∷ frame_octet b ∷ []
given (InNotice left) text b = if nat_le left 1 then whole_notice (text ++ b ∷ []) ∷ [] else []
given _ text b = frame_octet b ∷ []

-- ---- many

-- where a stream is, and what has come of a notice
pub record Place : Type 0 where
  pub stage : Stage
  pub text : List ℕ

abbrev pub start : Place
start = record { stage = Between; text = [] }

abbrev pub next_place : Place → ℕ → Place
next_place p b = record { stage = next_stage p.stage b; text = next_text p.stage p.text b }

-- what octets gave, and where they led to
pub record Parted : Type 0 where
  pub place : Place
  pub tokens : List Token

abbrev pub behind_tokens : List Token → Parted → Parted
behind_tokens tokens p = record { place = p.place; tokens = tokens ++ p.tokens }

unfoldable pub parted : Place → List ℕ → Parted
parted p [] = record { place = p; tokens = [] }
parted p (b ∷ octets) = behind_tokens (given p.stage p.text b) (parted (next_place p b) octets)
