-- The first frame of a stream, or why there is none.
use Rattle.std.proofs.Common.{◌≡◌, ℕ, ◌+◌, ◌^◌, ◌<◌, ◌≤◌, Bool, true, false, eqb, List, ◌++◌, length, get_or, take}
use Rattle.std.proofs.Common.{drop, Option, Some, None, Result, Ok, Err, refl, sym, ap, ◌∙◌, append_assoc, arith, inl}
use Rattle.std.proofs.Common.{inr, ◌⊎◌}
use Rattle.std.specs.Int.{w32, from_be_bytes}
use Rattle.std.proofs.lemmas.Bool.{cases_lt, lt-ltb, le-ltb, eq-eqb}
use Rattle.std.proofs.lemmas.List.{length-drop, length-take, take-append-drop, drop-take, drop-drop, take-take}
use Rattle.std.proofs.lemmas.List.{get_or-take}
use Rattle.failover_message.specs.declared.error.LinkError.{LinkError}
use Rattle.failover_message.specs.declared.error.LinkError.TheVariants as errors
use Rattle.failover_message.specs.declared.frame.Frame.{Frame}
use Rattle.failover_message.specs.Frames.{number_octets, content_octets, frame_octets, is_length, IsFrame}
use Rattle.failover_message.specs.Parsing.{octets_at, content_of, behind_length, frame_of, frame_then, content_then}
use Rattle.failover_message.specs.Parsing.{next_behind, next_of}
use Rattle.failover_message.specs.Faults.{length_of, IsMeasured, HasLength, HasKind}
use Rattle.failover_message.specs.Stream.{IsPartial, HasFrame, IsFaulty}
use Rattle.failover_message.proofs.FieldLaws.{IsBytes, IsBytes-drop, IsBytes-take, wide32, number_again, octets_again}
use Rattle.failover_message.proofs.Lengths.{content_length}
use Rattle.failover_message.proofs.FrameLaws.{length_fits, content_again}
use Rattle.failover_message.proofs.FaultLaws.{number_is, number_none, is_measured, measured, IsOfFrame, frame_found}
use Rattle.failover_message.proofs.FaultLaws.{kind_fault, field_fault}

-- ---- a frame that has come whole

abbrev pub size_of : List ℕ → ℕ
size_of stream = 4 + length_of stream

-- the octets of the frame that comes
abbrev pub front : List ℕ → List ℕ
front stream = take (size_of stream) stream

front_length : (stream : List ℕ) → length_of (front stream) ≡ length_of stream
front_length stream = ap (from_be_bytes w32) (take-take 4 (size_of stream) stream (omega arith))

front_measured : (stream : List ℕ) → HasFrame stream → IsMeasured (front stream)
front_measured stream h =
    let n = front_length stream in
    let l = length-take (size_of stream) stream in
    record {
      field = omega (arith, l, h.long);
      least = omega (arith, n, h.measured.least);
      most =
          omega (arith, n, h.measured.most);
    }

pub front_whole : (stream : List ℕ) → HasFrame stream → HasLength (front stream)
front_whole stream h =
    let n = front_length stream in
    let l = length-take (size_of stream) stream in
    record { measured = front_measured stream h; counts = omega (arith, n, l, h.long) }

kind_octet : (stream : List ℕ) → HasFrame stream → get_or (front stream) 4 0 ≡ get_or stream 4 0
kind_octet stream h = get_or-take (size_of stream) stream 4 0 (omega (arith, h.measured.least))

pub front_kind : (stream : List ℕ) → HasFrame stream → HasKind stream → HasKind (front stream)
front_kind stream h k = let e = kind_octet stream h in
    record { least = omega (arith, e, k.least); most = omega (arith, e, k.most) }

pub stream_kind : (stream : List ℕ) → HasFrame stream → HasKind (front stream) → HasKind stream
stream_kind stream h k = let e = kind_octet stream h in
    record { least = omega (arith, e, k.least); most = omega (arith, e, k.most) }

octets_are : (n : ℕ) (octets : List ℕ) → n ≤ length octets → octets_at n octets ≡ Some (take n octets, drop n octets)
unfolding octets_at
octets_are n octets le = rw (le-ltb (length octets) n le) refl

octets_lack : (n : ℕ) (octets : List ℕ) → length octets < n → octets_at n octets ≡ None
unfolding octets_at
octets_lack n octets lt = rw (lt-ltb (length octets) n lt) refl

whole_is : (bytes : List ℕ) → HasLength bytes → frame_of bytes ≡ content_of (drop 4 bytes)
whole_is bytes h = ap behind_length (number_is bytes h.measured.field) ∙ rw (is_measured bytes h.measured, counted) refl
  where
    counted : eqb (length (drop 4 bytes)) (length_of bytes) ≡ true
    counted = eq-eqb (length (drop 4 bytes)) (length_of bytes) (omega (arith, h.counts, length-drop 4 bytes))

-- the first frame is that of its octets
pub next_whole : (stream : List ℕ) → HasFrame stream → next_of stream
    ≡ frame_then (frame_of (front stream)) (drop (size_of stream) stream)
next_whole stream h =
    let n = length_of stream in
    let there : octets_at n (drop 4 stream) ≡ Some (take n (drop 4 stream), drop n (drop 4 stream)) =
    octets_are n (drop 4 stream) (omega (arith, h.long, length-drop 4 stream)) in
    let begun : next_of stream ≡ content_then (octets_at n (drop 4 stream)) =
    ap next_behind (number_is stream h.measured.field) ∙ rw (is_measured stream h.measured) refl in
    let inner : content_of (take n (drop 4 stream)) ≡ frame_of (front stream) =
    ap content_of (sym (drop-take 4 n stream)) ∙ sym (whole_is (front stream) (front_whole stream h)) in
    begun ∙ ap content_then there ∙ ap (λ (r : Result Frame LinkError). frame_then r (drop n (drop 4 stream))) inner
    ∙ ap (λ (t : List ℕ). frame_then (frame_of (front stream)) t) (drop-drop n 4 stream)

-- ---- what comes first in a stream

pub record IsLacking (stream : List ℕ) (found : Result (Option (Frame × List ℕ)) LinkError) : Type 0 where
  pub partial : IsPartial stream
  pub is : found ≡ Ok None

pub record IsAtFault (stream : List ℕ) (found : Result (Option (Frame × List ℕ)) LinkError) : Type 0 where
  pub fault : LinkError
  pub faulty : IsFaulty stream fault
  pub is : found ≡ Err fault

pub record IsFrameFirst (stream : List ℕ) (found : Result (Option (Frame × List ℕ)) LinkError) : Type 0 where
  pub frame : Frame
  pub after : List ℕ
  pub fits : IsFrame frame
  pub parts : stream ≡ frame_octets frame ++ after
  pub bytes : IsBytes after
  pub shorter : length after < length stream
  pub is : found ≡ Ok (Some (frame, after))

abbrev pub Coming : List ℕ → Result (Option (Frame × List ℕ)) LinkError → Type 0
Coming stream found = IsLacking stream found ⊎ (IsAtFault stream found ⊎ IsFrameFirst stream found)

frame_first : (stream : List ℕ) → IsBytes stream → HasFrame stream → IsOfFrame (front stream) (frame_of (front stream))
    → Coming stream (next_of stream)
frame_first stream bytes h v =
    let split : front stream ++ drop (size_of stream) stream ≡ stream = take-append-drop (size_of stream) stream in
    inr (inr (record {
      frame = v.frame;
      after = drop (size_of stream) stream;
      fits = v.fits;
      parts = sym split ∙ ap (λ (w : List ℕ). w ++ drop (size_of stream) stream) v.parts;
      bytes = IsBytes-drop (size_of stream) stream bytes;
      shorter = omega (arith, length-drop (size_of stream) stream, h.long);
      is = next_whole stream h ∙ ap (λ (r : Result Frame LinkError). frame_then r (drop (size_of stream) stream)) v.is;
    }))

whole_comes : (stream : List ℕ) → IsBytes stream → HasFrame stream → Coming stream (next_of stream)
whole_comes stream bytes h =
    let is = next_whole stream h in
    elim (frame_found (front stream) (IsBytes-take (size_of stream) stream bytes)) [
      | inl v ↦ absurd (v.no_length (front_whole stream h))
      | inr (inl v) ↦
          inr (inl (record {
            fault = errors.Kind;
            faulty = (h, λ k. v.no_kind (front_kind stream h k));
            is =
                is ∙ ap (λ (r : Result Frame LinkError). frame_then r (drop (size_of stream) stream)) v.is;
          }))
      | inr (inr (inl v)) ↦
          inr (inl (record {
            fault = errors.Field;
            faulty = (h, stream_kind stream h v.has_kind, v.none);
            is =
                is ∙ ap (λ (r : Result Frame LinkError). frame_then r (drop (size_of stream) stream)) v.is;
          }))
      | inr (inr (inr v)) ↦ frame_first stream bytes h v
    ]

lacks_octets : (stream : List ℕ) → IsMeasured stream → length stream < size_of stream → next_of stream ≡ Ok None
lacks_octets stream m lt =
    ap next_behind (number_is stream m.field)
    ∙ rw (
      is_measured stream m,
      octets_lack (length_of stream) (drop 4 stream)
          (omega (arith, length-drop 4 stream, m.field)),
    ) refl

out_of_range : (stream : List ℕ) → 4 ≤ length stream → is_length (length_of stream) ≡ false
    → next_of stream ≡ Err errors.Length
out_of_range stream le e = ap next_behind (number_is stream le) ∙ rw e refl

measured_comes : (stream : List ℕ) → IsBytes stream → 4 ≤ length stream → (b : Bool) → is_length (length_of stream) ≡ b
    → Coming stream (next_of stream)
measured_comes stream bytes le true e =
    let m = measured stream le e in
    elim (cases_lt (length stream) (size_of stream)) [
      | inl lt ↦ inl (record {
        partial = record { measured = λ four. m; short = λ four. lt };
        is =
            lacks_octets stream m lt;
      })
      | inr enough ↦ whole_comes stream bytes (record { measured = m; long = enough })
    ]
measured_comes stream bytes le false e =
    inr (inl (record {
      fault = errors.Length;
      faulty =
          (le, λ m. (let no = sym (is_measured stream m) ∙ e in absurd cc));
      is = out_of_range stream le e;
    }))

pub comes : (stream : List ℕ) → IsBytes stream → Coming stream (next_of stream)
comes stream bytes =
    elim (cases_lt (length stream) 4) [
      | inl lt ↦ inl (record {
        partial = record {
          measured = λ four. absurd (omega arith);
          short =
              λ four. absurd (omega arith);
        };
        is = ap next_behind (number_none stream lt);
      })
      | inr le ↦ measured_comes stream bytes le (is_length (length_of stream)) refl
    ]

-- ---- and the other way

-- a frame that stands first is found, whatever stands behind it
pub frame_next : (f : Frame) (after : List ℕ) → IsFrame f → next_of (frame_octets f ++ after) ≡ Ok (Some (f, after))
frame_next f after h =
    let l = content_length f h in
    let content = content_octets f in
    ap next_of (append_assoc (number_octets w32 (length content)) content after)
    ∙ rw (
      number_again w32 (2 ^ 32) wide32 (length content) (content ++ after) (omega (arith, l.1)),
      length_fits f h,
      octets_again content after,
      content_again f h,
    ) refl

pub partial_next : (stream : List ℕ) → IsPartial stream → next_of stream ≡ Ok None
partial_next stream p =
    elim (cases_lt (length stream) 4) [
      | inl lt ↦ ap next_behind (number_none stream lt)
      | inr le ↦ lacks_octets stream (p.measured le) (p.short le)
    ]

unmeasured : (stream : List ℕ) → (IsMeasured stream → ⊥) → 4 ≤ length stream → (b : Bool)
    → is_length (length_of stream) ≡ b → next_of stream ≡ Err errors.Length
unmeasured stream missed le true e = absurd (missed (measured stream le e))
unmeasured stream missed le false e = out_of_range stream le e

pub fault_next : (stream : List ℕ) (fault : LinkError) → IsBytes stream → IsFaulty stream fault
    → next_of stream ≡ Err fault
fault_next stream errors.Length bytes h = unmeasured stream h.1 h.0 (is_length (length_of stream)) refl
fault_next stream errors.Kind bytes h =
    let k = kind_fault (front stream) (frame_of (front stream))
    (frame_found (front stream) (IsBytes-take (size_of stream) stream bytes)) in
    next_whole stream h.0 ∙ ap (λ (r : Result Frame LinkError). frame_then r (drop (size_of stream) stream))
    (k.1 (front_whole stream h.0, λ q. h.1 (stream_kind stream h.0 q)))
fault_next stream errors.Field bytes h =
    let k = field_fault (front stream) (frame_of (front stream))
    (frame_found (front stream) (IsBytes-take (size_of stream) stream bytes)) in
    next_whole stream h.0 ∙ ap (λ (r : Result Frame LinkError). frame_then r (drop (size_of stream) stream))
    (k.1 (front_whole stream h.0, front_kind stream h.0 h.1, h.2))
fault_next stream errors.Memory bytes h = absurd h
