-- A stream has one reading, however it is cut into chunks.
use Rattle.std.proofs.Common.{◌≡◌, ◌≢◌, ℕ, suc, ◌+◌, ◌-◌, ◌<◌, ◌≤◌, List, [], ◌∷◌, ◌++◌, length, drop, Option, Some}
use Rattle.std.proofs.Common.{None, Result, Ok, Err, refl, sym, ap, subst, ◌∙◌, append_assoc, arith, inl, inr}
use Rattle.std.specs.List.{flat_map, AllByRecursion}
use Rattle.std.proofs.lemmas.List.{length-append, drop_at}
use Rattle.std.proofs.lemmas.List.Concat.{flat_map-cons}
use Rattle.std.proofs.lemmas.Grind.{flat_map-append}
use Rattle.failover_message.specs.declared.error.LinkError.{LinkError}
use Rattle.failover_message.specs.declared.frame.Frame.{Frame}
use Rattle.failover_message.specs.Frames.{frame_octets, IsFrame}
use Rattle.failover_message.specs.Parsing.{next_of, Next}
use Rattle.failover_message.specs.Stream.{IsPartial, stream_of, Splits, IsFaulty, Breaks}
use Rattle.failover_message.proofs.FieldLaws.{IsBytes}
use Rattle.failover_message.proofs.NextLaws.{comes, frame_next, partial_next, fault_next}

-- ---- lists

pub all_append : (P : Frame → Type 0) (fs gs : List Frame) → AllByRecursion P fs → AllByRecursion P gs
    → AllByRecursion P (fs ++ gs)
all_append P [] gs a b = b
all_append P (f ∷ fs) gs a b = (a.0, all_append P fs gs a.1 b)

pub IsBytes-behind : (front rest : List ℕ) → IsBytes (front ++ rest) → IsBytes rest
IsBytes-behind [] rest h i = h i
IsBytes-behind (x ∷ front) rest h i = IsBytes-behind front rest (λ k. h (suc k)) i

pub stream_cons : (f : Frame) (fs : List Frame) (rest : List ℕ)
    → stream_of (f ∷ fs) rest ≡ frame_octets f ++ stream_of fs rest
stream_cons f fs rest = ap (λ (w : List ℕ). w ++ rest) (flat_map-cons frame_octets f fs)
    ∙ append_assoc (frame_octets f) (flat_map frame_octets fs) rest

pub stream_append : (fs gs : List Frame) (rest : List ℕ) → stream_of (fs ++ gs) rest ≡ stream_of fs (stream_of gs rest)
stream_append fs gs rest = ap (λ (w : List ℕ). w ++ rest) (flat_map-append frame_octets fs gs)
    ∙ append_assoc (flat_map frame_octets fs) (flat_map frame_octets gs) rest

-- ---- one reading

abbrev found : Frame × List ℕ → Result (Option (Frame × List ℕ)) LinkError
found x = Ok (Some x)

found_is : (x y : Frame × List ℕ) → found x ≡ found y → x ≡ y
found_is x y e = cc

-- what is found first is one frame, and so is what stands behind it
pub same_first : (r : Result (Option (Frame × List ℕ)) LinkError) (f g : Frame) (a b : List ℕ) → r ≡ Ok (Some (f, a))
    → r ≡ Ok (Some (g, b)) → (f ≡ g) × (a ≡ b)
same_first r f g a b x y =
    let pair = found_is (f, a) (g, b) (sym x ∙ y) in
    (ap (λ (p : Frame × List ℕ). p.0) pair, ap (λ (p : Frame × List ℕ). p.1) pair)

-- no whole frame stands first
pub record IsEnd (rest : List ℕ) : Type 0 where
  pub none : (f : Frame) (after : List ℕ) → next_of rest ≢ Ok (Some (f, after))

pub partial_end : (rest : List ℕ) → IsPartial rest → IsEnd rest
partial_end rest p = record { none = λ f after e. (let x = sym (partial_next rest p) ∙ e in absurd cc) }

pub fault_end : (rest : List ℕ) (fault : LinkError) → IsBytes rest → IsFaulty rest fault → IsEnd rest
fault_end rest fault bytes h = record {
  none = λ f after e. (let x = sym (fault_next rest fault bytes h) ∙ e in
      absurd cc);
}

pub first_of : (f : Frame) (fs : List Frame) (rest : List ℕ) → IsFrame f
    → next_of (stream_of (f ∷ fs) rest) ≡ Ok (Some (f, stream_of fs rest))
first_of f fs rest h = ap next_of (stream_cons f fs rest) ∙ frame_next f (stream_of fs rest) h

pub one_reading : (fs gs : List Frame) (r q : List ℕ) → stream_of fs r ≡ stream_of gs q → AllByRecursion IsFrame fs
    → AllByRecursion IsFrame gs → IsEnd r → IsEnd q → (fs ≡ gs) × (r ≡ q)
one_reading [] [] r q e a b i j = (refl, e)
one_reading [] (g ∷ gs) r q e a b i j = absurd (i.none g (stream_of gs q) (ap next_of e ∙ first_of g gs q b.0))
one_reading (f ∷ fs) [] r q e a b i j = absurd (j.none f (stream_of fs r) (ap next_of (sym e) ∙ first_of f fs r a.0))
one_reading (f ∷ fs) (g ∷ gs) r q e a b i j =
    let same = same_first (next_of (stream_of (f ∷ fs) r)) f g (stream_of fs r) (stream_of gs q) (first_of f fs r a.0)
    (ap next_of e ∙ first_of g gs q b.0) in
    let more = one_reading fs gs r q same.1 a.1 b.1 i j in
    (ap (λ (h : Frame). h ∷ fs) same.0 ∙ ap (λ (hs : List Frame). g ∷ hs) more.0, more.1)

pub one_split : (stream : List ℕ) (fs gs : List Frame) (r q : List ℕ) → Splits stream fs r → Splits stream gs q
    → (fs ≡ gs) × (r ≡ q)
one_split stream fs gs r q s t = one_reading fs gs r q (sym s.whole ∙ t.whole) s.each t.each (partial_end r s.partial)
    (partial_end q t.partial)

pub broken_bytes : (stream : List ℕ) (fault : LinkError) → IsBytes stream → (b : Breaks stream fault) → IsBytes b.rest
broken_bytes stream fault bytes b = IsBytes-behind (flat_map frame_octets b.frames) b.rest (subst IsBytes b.whole bytes)

-- a stream that breaks isn't whole frames and less than one
pub not_both : (stream : List ℕ) (fs : List Frame) (r : List ℕ) (fault : LinkError) → IsBytes stream
    → Splits stream fs r → Breaks stream fault → ⊥
not_both stream fs r fault bytes s b =
    let rest = broken_bytes stream fault bytes b in
    let same = one_reading fs b.frames r b.rest (sym s.whole ∙ b.whole) s.each b.each (partial_end r s.partial)
    (fault_end b.rest fault rest b.faulty) in
    let x = sym (partial_next r s.partial) ∙ (ap next_of same.1 ∙ fault_next b.rest fault rest b.faulty) in
    absurd cc

pub one_fault : (stream : List ℕ) (fault other : LinkError) → IsBytes stream → Breaks stream fault
    → Breaks stream other → fault ≡ other
one_fault stream fault other bytes b d =
    let rest = broken_bytes stream fault bytes b in
    let rest-too = broken_bytes stream other bytes d in
    let same = one_reading b.frames d.frames b.rest d.rest (sym b.whole ∙ d.whole) b.each d.each
    (fault_end b.rest fault rest b.faulty) (fault_end d.rest other rest-too d.faulty) in
    let x = sym (fault_next b.rest fault rest b.faulty)
    ∙ (ap next_of same.1 ∙ fault_next d.rest other rest-too d.faulty) in
    cc

-- ---- frame by frame

-- the frames so far, and what is left of the stream
pub record Going (stream : List ℕ) (frames : List Frame) (rest : List ℕ) : Type 0 where
  pub whole : stream ≡ stream_of frames rest
  pub each : AllByRecursion IsFrame frames
  pub bytes : IsBytes rest

pub starts : (frames : List Frame) (stream : List ℕ) → AllByRecursion IsFrame frames → IsBytes stream
    → Going (stream_of frames stream) frames stream
starts frames stream each bytes = record { whole = refl; each = each; bytes = bytes }

pub goes_on : (stream : List ℕ) (frames : List Frame) (rest : List ℕ) (f : Frame) (after : List ℕ)
    → Going stream frames rest → next_of rest ≡ Ok (Some (f, after))
    → Going stream (frames ++ f ∷ []) after × (length after < length rest)
goes_on stream frames rest f after g e =
    elim (comes rest g.bytes) [
      | inl v ↦ (let x = sym v.is ∙ e in absurd cc)
      | inr (inl v) ↦ (let x = sym v.is ∙ e in absurd cc)
      | inr (inr v) ↦ (
          let is = same_first (next_of rest) v.frame f v.after after v.is e in
          let same = is.0 in
          let left = is.1 in
          let parts : rest ≡ frame_octets f ++ after = v.parts ∙ ap (λ (h : Frame). frame_octets h ++ v.after) same
          ∙ ap (λ (w : List ℕ). frame_octets f ++ w) left in
          let one : stream_of (f ∷ []) after ≡ frame_octets f ++ after = stream_cons f [] after in
          let moved : rest ≡ stream_of (f ∷ []) after = parts ∙ sym one in
          let fits : IsFrame f = subst IsFrame same v.fits in
          let all : stream ≡ stream_of (frames ++ f ∷ []) after = g.whole ∙ ap (stream_of frames) moved
          ∙ sym (stream_append frames (f ∷ []) after) in (
            record {
              whole = all;
              each = all_append IsFrame frames (f ∷ []) g.each (fits, tt);
              bytes =
                  subst IsBytes left v.bytes;
            },
            omega (arith, v.shorter, ap length left),
          ))
    ]

pub ends : (stream : List ℕ) (frames : List Frame) (rest : List ℕ) → Going stream frames rest → next_of rest ≡ Ok None
    → Splits stream frames rest
ends stream frames rest g e =
    elim (comes rest g.bytes) [
      | inl v ↦ record { whole = g.whole; each = g.each; partial = v.partial }
      | inr (inl v) ↦ (let x = sym v.is ∙ e in absurd cc)
      | inr (inr v) ↦ (let x = sym v.is ∙ e in absurd cc)
    ]

pub breaks : (stream : List ℕ) (frames : List Frame) (rest : List ℕ) (fault : LinkError) → Going stream frames rest
    → next_of rest ≡ Err fault → Breaks stream fault
breaks stream frames rest fault g e =
    elim (comes rest g.bytes) [
      | inl v ↦ (let x = sym v.is ∙ e in absurd cc)
      | inr (inl v) ↦ (
          let x = sym v.is ∙ e in
          let same : v.fault ≡ fault = cc in
          record {
            frames = frames;
            rest = rest;
            whole = g.whole;
            each = g.each;
            faulty =
                subst (IsFaulty rest) same v.faulty;
          })
      | inr (inr v) ↦ (let x = sym v.is ∙ e in absurd cc)
    ]

-- what is left stands behind as many octets as were read
pub left_behind : (stream front rest : List ℕ) → stream ≡ front ++ rest
    → (length stream - length rest ≤ length stream) × (drop (length stream - length rest) stream ≡ rest)
    × (length rest ≤ length stream)
left_behind stream front rest e =
    let n : length stream ≡ length front + length rest = ap length e ∙ length-append front rest in
    let k : length front ≡ length stream - length rest = omega (arith, n) in (
      omega arith,
      ap (drop (length stream - length rest)) e ∙ drop_at front rest (length stream - length rest) k,
      omega (arith, n),
    )

-- ---- what the reader of one frame says

pub some_next : (o : Option Frame) (f : Frame) (left stream : List ℕ)
    (read : Result (Option (Frame × List ℕ)) LinkError) → o ≡ Some f → Next (Ok o) left stream read
    → read ≡ Ok (Some (f, left))
some_next o f left stream read is h = subst (λ (p : Option Frame). Next (Ok p) left stream read) is h

pub none_next : (o : Option Frame) (left stream : List ℕ) (read : Result (Option (Frame × List ℕ)) LinkError)
    → o ≡ None → Next (Ok o) left stream read → (read ≡ Ok None) × (left ≡ stream)
none_next o left stream read is h = subst (λ (p : Option Frame). Next (Ok p) left stream read) is h

-- ---- the octets that are read

-- what is left of a stream from some place on
pub record IsBehind (stream rest : List ℕ) : Type 0 where
  pub front : List ℕ
  pub parts : stream ≡ front ++ rest

pub all_behind : (stream : List ℕ) → IsBehind stream stream
all_behind stream = record { front = []; parts = refl }

pub moves_on : (stream rest : List ℕ) (f : Frame) (after : List ℕ) → IsBehind stream rest → IsBytes rest
    → next_of rest ≡ Ok (Some (f, after)) → IsBehind stream after
moves_on stream rest f after b bytes e =
    elim (comes rest bytes) [
      | inl v ↦ (let x = sym v.is ∙ e in absurd cc)
      | inr (inl v) ↦ (let x = sym v.is ∙ e in absurd cc)
      | inr (inr v) ↦ (
          let is = same_first (next_of rest) v.frame f v.after after v.is e in
          record {
            front = b.front ++ frame_octets v.frame;
            parts = b.parts
                ∙ ap (λ (w : List ℕ). b.front ++ w) (v.parts ∙ ap (λ (w : List ℕ). frame_octets v.frame ++ w) is.1)
                ∙ sym (append_assoc b.front (frame_octets v.frame) after);
          })
    ]

-- the frames pushed behind those before, and what is left of the octets
pub record Pushed (before : List Frame) (stream : List ℕ) (frames : List Frame) (rest : List ℕ) : Type 0 where
  pub going : Going (stream_of before stream) frames rest
  pub behind : IsBehind stream rest

pub pushed_first : (before : List Frame) (stream : List ℕ) → AllByRecursion IsFrame before → IsBytes stream
    → Pushed before stream before stream
pushed_first before stream each bytes = record { going = starts before stream each bytes; behind = all_behind stream }

pub pushed_next : (before : List Frame) (stream : List ℕ) (frames : List Frame) (rest : List ℕ) (f : Frame)
    (after : List ℕ) → Pushed before stream frames rest → next_of rest ≡ Ok (Some (f, after))
    → Pushed before stream (frames ++ f ∷ []) after × (length after < length rest)
pushed_next before stream frames rest f after p e =
    let g = goes_on (stream_of before stream) frames rest f after p.going e in
    (record { going = g.0; behind = moves_on stream rest f after p.behind p.going.bytes e }, g.1)
