-- What an end says over a link, and what the other reads of it.
use Rattle.std.specs.Prelude.{◌≡◌, ℕ, List, [], ◌∷◌, ◌++◌, map}
use Rattle.std.specs.List.{flat_map, AllByRecursion}
use Rattle.failover_message.specs.declared.frame.Frame.{Frame}
use Rattle.failover_message.specs.Frames.{frame_octets, IsFrame}
use Rattle.failover_message.specs.Stream.{Fed as FedChunk, Feeds, chunks_of as chunks_fed, frames_of}
use Rattle.link_notices.specs.declared.notice.Notice.{Notice}
use Rattle.link_notices.specs.Spelling.{notice_text, IsNotice}
use Rattle.link_notices.specs.Items.{notice_octets}
use Rattle.link_notices.specs.Parting.{Place, start}
use Rattle.link_notices.specs.Laws.{Fed as PartedChunk, Feeds as Parts, chunks_of as chunks_parted, parts_of}
use Rattle.link_notices.specs.Laws.{octets_in, texts_in}

-- ---- what is said

pub data Said : Type 0 where
  said_frame : Frame → Said
  said_notice : Notice → Said

abbrev pub IsSaid : Said → Type 0
IsSaid (said_frame f) = IsFrame f
IsSaid (said_notice n) = IsNotice n

abbrev pub said_octets : Said → List ℕ
said_octets (said_frame f) = frame_octets f
said_octets (said_notice n) = notice_octets (notice_text n)

abbrev pub stream_of : List Said → List ℕ
stream_of said = flat_map said_octets said

-- the frames alone, and the texts of the notices alone
abbrev pub frames_in : List Said → List Frame
frames_in [] = []
frames_in (said_frame f ∷ said) = f ∷ frames_in said
frames_in (said_notice n ∷ said) = frames_in said

abbrev pub notices_in : List Said → List Notice
notices_in [] = []
notices_in (said_frame f ∷ said) = notices_in said
notices_in (said_notice n ∷ said) = n ∷ notices_in said

-- ---- what is read

-- chunks that were parted one after another, and those in which what they gave for frames was fed
pub record Hearing : Type 0 where
  pub parting : List PartedChunk
  pub place : Place
  pub feeding : List FedChunk
  pub rest : List ℕ

-- The octets for frames are fed in their order, in chunks of any length.
pub record IsHearing (h : Hearing) : Type 0 where
  pub parts : Parts start h.parting h.place
  pub hands_on : chunks_fed h.feeding ≡ octets_in (parts_of h.parting)
  pub feeds : Feeds [] h.feeding h.rest

-- what came, and what was read of it
abbrev pub stream_heard : Hearing → List ℕ
stream_heard h = chunks_parted h.parting

abbrev pub frames_read : Hearing → List Frame
frames_read h = frames_of h.feeding

abbrev pub texts_read : Hearing → List (List ℕ)
texts_read h = texts_in (parts_of h.parting)

-- ---- laws

-- all that was said was read, and nothing is left of it
pub record IsAllRead (said : List Said) (h : Hearing) : Type 0 where
  pub frames : frames_read h ≡ frames_in said
  pub notices : texts_read h ≡ map notice_text (notices_in said)
  pub held : h.rest ≡ []
  pub ends : h.place ≡ start

abbrev pub AllIsRead : Type 0
AllIsRead = (said : List Said) (h : Hearing) → AllByRecursion IsSaid said → IsHearing h
    → stream_heard h ≡ stream_of said → IsAllRead said h

-- what was read is a beginning of what was said
pub record IsBeginning (said : List Said) (h : Hearing) : Type 0 where
  pub later : List Frame
  pub frames : frames_in said ≡ frames_read h ++ later
  pub unread : List (List ℕ)
  pub notices : map notice_text (notices_in said) ≡ texts_read h ++ unread

abbrev pub ReadIsBeginning : Type 0
ReadIsBeginning = (said : List Said) (h : Hearing) (more : List ℕ) → AllByRecursion IsSaid said → IsHearing h
    → stream_heard h ++ more ≡ stream_of said → IsBeginning said h
