-- All that was said has come.
use Rattle.std.proofs.Common.{◌≡◌, ◌∙◌, List, [], sym, append-nil}
use Rattle.std.specs.Prelude.{map}
use Rattle.std.specs.List.{flat_map, AllByRecursion}
use Rattle.failover_message.specs.Frames.{frame_octets}
use Rattle.failover_message.specs.Stream.{stream_of as frames_stream, chunks_of as chunks_fed}
use Rattle.failover_message.specs.Laws.{FramesStandApart, ChunksJoin}
use Rattle.notice_laws.proofs.Beginnings.{all_are}
use Rattle.link_notices.proofs.GivenBack.{cut_is_given}
use Rattle.notice_laws.specs.Reading.{Said, IsSaid, stream_of, frames_in, Hearing, IsHearing, stream_heard, frames_read}
use Rattle.notice_laws.specs.Reading.{IsAllRead}
use Rattle.notice_laws.proofs.SaidItems.{item_of, items_fit, frames_fit, same_stream, same_frames, same_texts}

pub all_read : FramesStandApart → ChunksJoin → (said : List Said) (h : Hearing) → AllByRecursion IsSaid said → IsHearing h
    → stream_heard h ≡ stream_of said → IsAllRead said h
all_read apart join said h fit hearing same =
    let given = cut_is_given (map item_of said) h.parting h.place (items_fit said fit) (same ∙ sym (same_stream said))
    hearing.parts in
    let octets : chunks_fed h.feeding ≡ flat_map frame_octets (frames_in said) =
    hearing.hands_on ∙ given.frames ∙ same_frames said in
    let read = join h.feeding h.rest hearing.feeds in
    let begins : frames_stream (frames_read h) h.rest ≡ frames_stream (frames_in said) [] =
    sym read.whole ∙ octets ∙ sym (append-nil (flat_map frame_octets (frames_in said))) in
    let one = all_are apart (frames_read h) (frames_in said) h.rest begins read.each (frames_fit said fit) read.partial in
    record { frames = one.0; notices = given.notices ∙ same_texts said; held = one.1; ends = given.ends }
