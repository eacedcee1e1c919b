-- What octets carry, one behind another.
use Rattle.std.specs.Prelude.{◌≡◌, ℕ, List, [], ◌∷◌, ◌++◌, refl}
use Rattle.std.specs.List.{flat_map, AllByRecursion}
use Rattle.std.proofs.Common.{ap, sym, ◌∙◌, append_assoc, arith}
use Rattle.std.proofs.lemmas.List.Concat.{flat_map-append}
use Rattle.std.proofs.lemmas.List.Elements.{filter_map-append}
use Rattle.binding_rules.specs.declared.message.PartnerMessage.{PartnerMessage}
use Rattle.failover_message.specs.declared.frame.Frame.{Frame}
use Rattle.failover_message.specs.Frames.{frame_octets, IsFrame}
use Rattle.failover_message.specs.Stream.{stream_of}
use Rattle.failover_session.specs.Messages.{message_in}
use Rattle.failover_session.specs.Sessions.{messages_in}
use Rattle.failover_session.specs.Polling.{Carries}

-- nothing came
pub nothing_carries : Carries [] [] [] []
nothing_carries = record {
  frames = [];
  split = record {
    whole = refl;
    each = tt;
    partial = record { measured = λ le. absurd (omega arith); short = λ le. absurd (omega arith) };
  };
  carried = refl;
}

all_on : (fs gs : List Frame) → AllByRecursion IsFrame fs → AllByRecursion IsFrame gs
    → AllByRecursion IsFrame (fs ++ gs)
all_on [] gs a b = b
all_on (f ∷ fs) gs a b = (a.0, all_on fs gs a.1 b)

stream_on : (fs gs : List Frame) (rest : List ℕ)
    → stream_of (fs ++ gs) rest ≡ flat_map frame_octets fs ++ stream_of gs rest
stream_on fs gs rest =
    ap (λ s. s ++ rest) (flat_map-append frame_octets fs gs)
    ∙ append_assoc (flat_map frame_octets fs) (flat_map frame_octets gs) rest

pub carries_on : (held first second middle rest : List ℕ) (heard more : List PartnerMessage)
    → Carries held first middle heard → Carries middle second rest more
    → Carries held (first ++ second) rest (heard ++ more)
carries_on held first second middle rest heard more h k =
    let all : held ++ (first ++ second) ≡ stream_of (h.frames ++ k.frames) rest =
    sym (append_assoc held first second)
    ∙ (ap (λ s. s ++ second) h.split.whole
    ∙ (append_assoc (flat_map frame_octets h.frames) middle second
    ∙ (ap (λ s. flat_map frame_octets h.frames ++ s) k.split.whole
    ∙ sym (stream_on h.frames k.frames rest)))) in
    record {
      frames = h.frames ++ k.frames;
      split = record {
        whole = all;
        each = all_on h.frames k.frames h.split.each k.split.each;
        partial = k.split.partial;
      };
      carried =
          ap (λ ms. ms ++ more) h.carried
          ∙ (ap (λ ms. messages_in h.frames ++ ms) k.carried ∙ sym (filter_map-append message_in h.frames k.frames));
    }
