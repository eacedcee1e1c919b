-- Chunks one behind another are one stream.
use Rattle.std.proofs.Common.{◌≡◌, ℕ, List, [], ◌∷◌, ◌++◌, refl, sym, ap, subst, ◌∙◌, append_assoc, append-nil, arith}
use Rattle.std.specs.List.{flat_map, AllByRecursion}
use Rattle.std.proofs.lemmas.List.Concat.{flat_map-cons}
use Rattle.text_fields.specs.Octets.{AreOctets}
use Rattle.text_fields.proofs.OctetLaws.{octets_are_bytes}
use Rattle.failover_message.specs.declared.error.LinkError.{LinkError}
use Rattle.failover_message.specs.declared.frame.Frame.{Frame}
use Rattle.failover_message.specs.Frames.{frame_octets, IsFrame}
use Rattle.failover_message.specs.Parsing.{next_of}
use Rattle.failover_message.specs.Stream.{IsPartial, stream_of, Splits, Breaks, Fed, Feeds, chunks_of, frames_of}
use Rattle.failover_message.proofs.NextLaws.{frame_next}
use Rattle.failover_message.proofs.StreamLaws.{all_append, stream_append, IsEnd, fault_end, same_first, first_of}
use Rattle.failover_message.proofs.StreamLaws.{broken_bytes}

pub stand_apart : (f g : Frame) (after behind : List ℕ) → IsFrame f → IsFrame g
    → frame_octets f ++ after ≡ frame_octets g ++ behind → (f ≡ g) × (after ≡ behind)
stand_apart f g after behind h k e = same_first (next_of (frame_octets f ++ after)) f g after behind
    (frame_next f after h) (ap next_of e ∙ frame_next g behind k)

-- nothing is less than a frame
nothing_partial : IsPartial []
nothing_partial = record { measured = λ le. absurd (omega arith); short = λ le. absurd (omega arith) }

-- a stream whose frames are taken, and what comes behind its rest
behind_rest : (stream more : List ℕ) (frames others : List Frame) (rest end : List ℕ) → stream ≡ stream_of frames rest
    → rest ++ more ≡ stream_of others end → stream ++ more ≡ stream_of (frames ++ others) end
behind_rest stream more frames others rest end a b =
    ap (λ (w : List ℕ). w ++ more) a ∙ append_assoc (flat_map frame_octets frames) rest more
    ∙ ap (λ (w : List ℕ). flat_map frame_octets frames ++ w) b ∙ sym (stream_append frames others end)

joined : (held : List ℕ) (feds : List Fed) (rest : List ℕ) → IsPartial held → Feeds held feds rest
    → Splits (held ++ chunks_of feds) (frames_of feds) rest
joined held [] rest p h = record { whole = append-nil held ∙ sym h; each = tt; partial = subst IsPartial (sym h) p }
joined held (fed ∷ feds) rest p h =
    let s = h.1 in
    let more = joined h.0 feds rest s.partial h.2 in
    let stream : (held ++ fed.0) ++ chunks_of feds ≡ stream_of (fed.1 ++ frames_of feds) rest =
    behind_rest (held ++ fed.0) (chunks_of feds) fed.1 (frames_of feds) h.0 rest s.whole more.whole in
    let chunks : held ++ chunks_of (fed ∷ feds) ≡ (held ++ fed.0) ++ chunks_of feds =
    ap (λ (w : List ℕ). held ++ w) (flat_map-cons (λ (x : Fed). x.0) fed feds)
    ∙ sym (append_assoc held fed.0 (chunks_of feds)) in
    let frames : frames_of (fed ∷ feds) ≡ fed.1 ++ frames_of feds = flat_map-cons (λ (x : Fed). x.1) fed feds in
    let all : Splits (held ++ chunks_of (fed ∷ feds)) (fed.1 ++ frames_of feds) rest =
    record {
      whole = chunks ∙ stream;
      each = all_append IsFrame fed.1 (frames_of feds) s.each more.each;
      partial =
          more.partial;
    } in
    subst (λ (fs : List Frame). Splits (held ++ chunks_of (fed ∷ feds)) fs rest) (sym frames) all

pub chunks_are_one : (feds : List Fed) (rest : List ℕ) → Feeds [] feds rest
    → Splits (chunks_of feds) (frames_of feds) rest
chunks_are_one feds rest h = joined [] feds rest nothing_partial h

-- ---- faults

last_of : (P : Frame → Type 0) (fs gs : List Frame) → AllByRecursion P (fs ++ gs) → AllByRecursion P gs
last_of P [] gs h = h
last_of P (f ∷ fs) gs h = last_of P fs gs h.1

-- frames in front of a stream are those that any reading of it begins with
peeled : (fs gs : List Frame) (t q : List ℕ) → stream_of fs t ≡ stream_of gs q → AllByRecursion IsFrame fs
    → AllByRecursion IsFrame gs → IsEnd q → (hs : List Frame) × (gs ≡ fs ++ hs) × (t ≡ stream_of hs q)
peeled [] gs t q e a b j = (gs, refl, e)
peeled (f ∷ fs) [] t q e a b j = absurd (j.none f (stream_of fs t) (ap next_of (sym e) ∙ first_of f fs t a.0))
peeled (f ∷ fs) (g ∷ gs) t q e a b j =
    let same = same_first (next_of (stream_of (f ∷ fs) t)) f g (stream_of fs t) (stream_of gs q) (first_of f fs t a.0)
    (ap next_of e ∙ first_of g gs q b.0) in
    let more = peeled fs gs t q same.1 a.1 b.1 j in
    (more.0, ap (λ (h : Frame). h ∷ gs) (sym same.0) ∙ ap (λ (hs : List Frame). f ∷ hs) more.1, more.2)

pub fault_of_stream : (stream chunk rest : List ℕ) (frames : List Frame) (fault : LinkError)
    → Splits stream frames rest → Breaks (rest ++ chunk) fault → Breaks (stream ++ chunk) fault
fault_of_stream stream chunk rest frames fault s b = record {
  frames = frames ++ b.frames;
  rest = b.rest;
  whole = behind_rest stream chunk frames b.frames rest b.rest s.whole b.whole;
  each = all_append IsFrame frames b.frames s.each b.each;
  faulty = b.faulty;
}

pub fault_of_rest : (stream chunk rest : List ℕ) (frames : List Frame) (fault : LinkError)
    → AreOctets (stream ++ chunk) → Splits stream frames rest → Breaks (stream ++ chunk) fault
    → Breaks (rest ++ chunk) fault
fault_of_rest stream chunk rest frames fault octets s b =
    let bytes = broken_bytes (stream ++ chunk) fault (octets_are_bytes (stream ++ chunk) octets) b in
    let cut : stream_of frames (rest ++ chunk) ≡ stream_of b.frames b.rest =
    sym (append_assoc (flat_map frame_octets frames) rest chunk) ∙ ap (λ (w : List ℕ). w ++ chunk) (sym s.whole)
    ∙ b.whole in
    let p = peeled frames b.frames (rest ++ chunk) b.rest cut s.each b.each (fault_end b.rest fault bytes b.faulty) in
    record {
      frames = p.0;
      rest = b.rest;
      whole = p.2;
      each =
          last_of IsFrame frames p.0 (subst (AllByRecursion IsFrame) p.1 b.each);
      faulty = b.faulty;
    }
