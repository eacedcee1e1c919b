-- The octets held and a chunk, as one stream.
use Rattle.std.proofs.Common.{◌≡◌, ℕ, zero, suc, ◌+◌, ◌-◌, ◌<◌, ◌≤◌, List, [], ◌∷◌, ◌++◌, length, get_or, take, drop}
use Rattle.std.proofs.Common.{Option, Some, None, Result, Ok, Err, refl, sym, ap, subst, ◌∙◌, append_assoc, arith, inl}
use Rattle.std.proofs.Common.{inr, ◌⊎◌, min}
use Rattle.std.specs.Int.{from_be_bytes, w32}
use Rattle.std.proofs.lemmas.Bool.{cases_lt}
use Rattle.std.proofs.lemmas.List.{length-append, length-take, length-drop, take-append-drop, take-append-le, drop_at}
use Rattle.std.proofs.Math.Seq.{drop-append-add}
use Rattle.std.proofs.Math.ListN.{get_or-append}
use Rattle.text_fields.specs.Octets.{AreOctets}
use Rattle.text_fields.proofs.OctetLaws.{octets_are_bytes}
use Rattle.client_id.proofs.Filling.{bytes_are_octets}
use Rattle.failover_message.specs.declared.error.LinkError.{LinkError}
use Rattle.failover_message.specs.declared.error.LinkError.TheVariants as errors
use Rattle.failover_message.specs.declared.frame.Frame.{Frame}
use Rattle.failover_message.specs.Frames.{frame_octets, IsFrame}
use Rattle.failover_message.specs.Parsing.{next_of, First}
use Rattle.failover_message.specs.Faults.{length_of, IsMeasured, IsNoFrame}
use Rattle.failover_message.specs.Stream.{IsPartial, IsHeldBack, stream_of, Splits, HasFrame, IsFaulty, Breaks}
use Rattle.failover_message.proofs.FieldLaws.{IsBytes}
use Rattle.failover_message.proofs.NextLaws.{comes, frame_next, partial_next, size_of, front}
use Rattle.failover_message.proofs.StreamLaws.{stream_cons, same_first}

-- ---- octets

pub octets_append : (xs ys : List ℕ) → AreOctets xs → AreOctets ys → AreOctets (xs ++ ys)
octets_append [] ys a b = b
octets_append (x ∷ xs) ys a b = (a.0, octets_append xs ys a.1 b)

pub octets_take : (n : ℕ) (xs : List ℕ) → AreOctets xs → AreOctets (take n xs)
octets_take zero xs a = tt
octets_take (suc n) [] a = tt
octets_take (suc n) (x ∷ xs) a = (a.0, octets_take n xs a.1)

pub octets_drop : (n : ℕ) (xs : List ℕ) → AreOctets xs → AreOctets (drop n xs)
octets_drop zero xs a = a
octets_drop (suc n) [] a = tt
octets_drop (suc n) (x ∷ xs) a = octets_drop n xs a.1

-- ---- a fault stays, whatever comes behind it

length_stays : (octets more : List ℕ) → 4 ≤ length octets → length_of (octets ++ more) ≡ length_of octets
length_stays octets more le = ap (from_be_bytes w32) (take-append-le 4 octets more le)

measured_stays : (octets more : List ℕ) → IsMeasured octets → IsMeasured (octets ++ more)
measured_stays octets more m = let n = length_stays octets more m.field in
    record {
      field = omega (arith, m.field, length-append octets more);
      least = omega (arith, n, m.least);
      most =
          omega (arith, n, m.most);
    }

measured_before : (octets more : List ℕ) → 4 ≤ length octets → IsMeasured (octets ++ more) → IsMeasured octets
measured_before octets more le m = let n = length_stays octets more le in
    record { field = le; least = omega (arith, n, m.least); most = omega (arith, n, m.most) }

frame_stays : (octets more : List ℕ) → HasFrame octets → HasFrame (octets ++ more)
frame_stays octets more h = let n = length_stays octets more h.measured.field in
    record {
      measured = measured_stays octets more h.measured;
      long =
          omega (arith, n, h.long, length-append octets more);
    }

kind_octet_stays : (octets more : List ℕ) → HasFrame octets → get_or (octets ++ more) 4 0 ≡ get_or octets 4 0
kind_octet_stays octets more h = get_or-append octets more 0 4 (omega (arith, h.long, h.measured.least))

front_stays : (octets more : List ℕ) → HasFrame octets → front (octets ++ more) ≡ front octets
front_stays octets more h =
    let n = length_stays octets more h.measured.field in
    ap (λ (k : ℕ). take (4 + k) (octets ++ more)) n ∙ take-append-le (size_of octets) octets more h.long

pub fault_stays : (octets more : List ℕ) (fault : LinkError) → IsFaulty octets fault → IsFaulty (octets ++ more) fault
fault_stays octets more errors.Length h =
    (omega (arith, h.0, length-append octets more), λ m. h.1 (measured_before octets more h.0 m))
fault_stays octets more errors.Kind h = (
  frame_stays octets more h.0,
  λ k. (let e = kind_octet_stays octets more h.0 in
      h.1 (record { least = omega (arith, e, k.least); most = omega (arith, e, k.most) })),
)
fault_stays octets more errors.Field h =
    let e = kind_octet_stays octets more h.0 in (
      frame_stays octets more h.0,
      record { least = omega (arith, e, h.1.least); most = omega (arith, e, h.1.most) },
      subst IsNoFrame (sym (front_stays octets more h.0)) h.2,
    )
fault_stays octets more errors.Memory h = absurd h

-- ---- the front of a chunk behind the octets held

-- less than a frame is fewer than 516 octets
pub partial_few : (octets : List ℕ) → IsPartial octets → length octets < 516
partial_few octets p =
    elim (cases_lt (length octets) 4) [
      | inl lt ↦ omega arith
      | inr le ↦ omega (arith, p.short le, (p.measured le).most)
    ]

-- the octets held, with as many of the chunk as complete any frame
abbrev pub begun : List ℕ → ℕ → List ℕ → List ℕ
begun held taken chunk = held ++ take taken chunk

begun_whole : (held : List ℕ) (taken : ℕ) (chunk : List ℕ) → held ++ chunk ≡ begun held taken chunk ++ drop taken chunk
begun_whole held taken chunk = ap (λ (p : List ℕ). held ++ p) (sym (take-append-drop taken chunk))
    ∙ sym (append_assoc held (take taken chunk) (drop taken chunk))

-- no frame among these: all of the chunk is taken, and is held
pub waits : (held : List ℕ) (taken : ℕ) (chunk : List ℕ) → IsBytes (begun held taken chunk)
    → ((taken ≡ length chunk) ⊎ (length held + taken ≡ 516)) → taken ≤ length chunk
    → next_of (begun held taken chunk) ≡ Ok None
    → Splits (held ++ chunk) [] (begun held taken chunk)
waits held taken chunk bytes part le e =
    elim (comes (begun held taken chunk) bytes) [
      | inl v ↦ (
          let few = partial_few (begun held taken chunk) v.partial in
          let all : taken ≡ length chunk =
          (elim part [
            | inl is ↦ is
            | inr full ↦ absurd
                (omega (arith, few, full, le, length-append held (take taken chunk), length-take taken chunk))
          ]) in
          let same : begun held taken chunk ≡ held ++ chunk =
          ap (λ (p : List ℕ). held ++ p) (ap (λ (n : ℕ). take n chunk) all ∙ whole chunk) in
          record { whole = sym same; each = tt; partial = v.partial })
      | inr (inl v) ↦ (let x = sym v.is ∙ e in absurd cc)
      | inr (inr v) ↦ (let x = sym v.is ∙ e in absurd cc)
    ]
  where
    whole : (xs : List ℕ) → take (length xs) xs ≡ xs
    whole [] = refl
    whole (x ∷ xs) = ap (λ (ys : List ℕ). x ∷ ys) (whole xs)

-- a fault among these is one of the stream
pub faults : (held : List ℕ) (taken : ℕ) (chunk : List ℕ) (fault : LinkError) → IsBytes (begun held taken chunk)
    → next_of (begun held taken chunk) ≡ Err fault → Breaks (held ++ chunk) fault
faults held taken chunk fault bytes e =
    elim (comes (begun held taken chunk) bytes) [
      | inl v ↦ (let x = sym v.is ∙ e in absurd cc)
      | inr (inl v) ↦ (
          let x = sym v.is ∙ e in
          let same : v.fault ≡ fault = cc in
          let faulty = fault_stays (begun held taken chunk) (drop taken chunk) fault
          (subst (IsFaulty (begun held taken chunk)) same v.faulty) in
          record {
            frames = [];
            rest = held ++ chunk;
            whole = refl;
            each = tt;
            faulty =
                subst (λ (w : List ℕ). IsFaulty w fault) (sym (begun_whole held taken chunk)) faulty;
          })
      | inr (inr v) ↦ (let x = sym v.is ∙ e in absurd cc)
    ]

-- the first frame among these, and the octets of the chunk behind it
pub record IsBegun (held : List ℕ) (chunk : List ℕ) (f : Frame) (used : ℕ) : Type 0 where
  pub fits : IsFrame f
  pub whole : held ++ chunk ≡ stream_of (f ∷ []) (drop used chunk)

-- a frame is longer than the octets held
longer : (held more after : List ℕ) (f : Frame) → IsPartial held → IsFrame f → held ++ more ≡ frame_octets f ++ after
    → length held < length (frame_octets f)
longer held more after f p h same =
    elim (cases_lt (length held) (length (frame_octets f))) [
      | inl lt ↦ lt
      | inr le ↦ (
          let n = length (frame_octets f) in
          let part : take n held ≡ frame_octets f = sym (take-append-le n held more le) ∙ ap (take n) same
          ∙ take-append-le n (frame_octets f) after (omega arith) ∙ all (frame_octets f) in
          let split : held ≡ frame_octets f ++ drop n held = sym (take-append-drop n held)
          ∙ ap (λ (w : List ℕ). w ++ drop n held) part in
          let x = sym (partial_next held p) ∙ (ap next_of split ∙ frame_next f (drop n held) h) in
          absurd cc)
    ]
  where
    all : (xs : List ℕ) → take (length xs) xs ≡ xs
    all [] = refl
    all (x ∷ xs) = ap (λ (ys : List ℕ). x ∷ ys) (all xs)

pub begins : (held : List ℕ) (taken : ℕ) (chunk : List ℕ) (f : Frame) (after : List ℕ) → IsPartial held
    → taken ≤ length chunk → IsBytes (begun held taken chunk) → next_of (begun held taken chunk) ≡ Ok (Some (f, after))
    → (length after ≤ taken) × IsBegun held chunk f (taken - length after)
begins held taken chunk f after p le bytes e =
    elim (comes (begun held taken chunk) bytes) [
      | inl v ↦ (let x = sym v.is ∙ e in absurd cc)
      | inr (inl v) ↦ (let x = sym v.is ∙ e in absurd cc)
      | inr (inr v) ↦ (
          let is = same_first (next_of (begun held taken chunk)) v.frame f v.after after v.is e in
          let fits : IsFrame f = subst IsFrame is.0 v.fits in
          let parts : begun held taken chunk ≡ frame_octets f ++ after =
          v.parts ∙ ap (λ (g : Frame). frame_octets g ++ v.after) is.0
          ∙ ap (λ (w : List ℕ). frame_octets f ++ w) is.1 in
          let long = longer held (take taken chunk) after f p fits parts in
          let n : length held + taken ≡ length (frame_octets f) + length after =
          omega (
            arith,
            ap length parts,
            length-append held (take taken chunk),
            length-append (frame_octets f) after,
            length-take taken chunk,
          ) in
          placed held taken chunk f after fits parts (omega (arith, n, long)) (omega (arith, n, long)))
    ]
  where
    placed : (held : List ℕ) (taken : ℕ) (chunk : List ℕ) (f : Frame) (after : List ℕ) → IsFrame f
        → begun held taken chunk ≡ frame_octets f ++ after → length after ≤ taken
        → length (frame_octets f) ≡ length held + (taken - length after)
        → (length after ≤ taken) × IsBegun held chunk f (taken - length after)
    placed held taken chunk f after fits parts le n =
        let behind = after ++ drop taken chunk in
        let whole : held ++ chunk ≡ frame_octets f ++ behind = begun_whole held taken chunk
        ∙ ap (λ (w : List ℕ). w ++ drop taken chunk) parts
        ∙ append_assoc (frame_octets f) after (drop taken chunk) in
        let used = taken - length after in
        let rest : drop used chunk ≡ behind = sym (drop-append-add held chunk used)
        ∙ ap (λ (k : ℕ). drop k (held ++ chunk)) (sym n) ∙ ap (drop (length (frame_octets f))) whole
        ∙ drop_at (frame_octets f) behind (length (frame_octets f)) refl in (
          le,
          record {
            fits = fits;
            whole = whole ∙ ap (λ (w : List ℕ). frame_octets f ++ w) (sym rest)
                ∙ sym (stream_cons f [] (drop used chunk));
          },
        )

pub begun_octets : (held : List ℕ) (taken : ℕ) (chunk : List ℕ) → AreOctets held → IsBytes chunk
    → AreOctets (begun held taken chunk)
begun_octets held taken chunk a b = octets_append held (take taken chunk) a
    (octets_take taken chunk (bytes_are_octets chunk b))

pub begun_bytes : (held : List ℕ) (taken : ℕ) (chunk : List ℕ) → AreOctets held → IsBytes chunk
    → IsBytes (begun held taken chunk)
begun_bytes held taken chunk a b = octets_are_bytes (begun held taken chunk) (begun_octets held taken chunk a b)

-- the most of the chunk that is looked at beside the octets held
pub part_taken : (held chunk taken : ℕ) → held < 516 → taken ≡ min (516 - held) chunk
    → (taken ≤ chunk) × ((taken ≡ chunk) ⊎ (held + taken ≡ 516))
part_taken held chunk taken few is =
    elim (cases_lt chunk (516 - held)) [
      | inl lt ↦ (omega arith, inl (omega arith))
      | inr le ↦ (omega arith, inr (omega arith))
    ]

-- what the reader of the first frame says
pub none_first : (o : Option (Frame × ℕ)) (read : Result (Option (Frame × List ℕ)) LinkError) → o ≡ None
    → First (Ok o) read → read ≡ Ok None
none_first o read is h = subst (λ (p : Option (Frame × ℕ)). First (Ok p) read) is h

pub some_first : (o : Option (Frame × ℕ)) (x : Frame × ℕ) (read : Result (Option (Frame × List ℕ)) LinkError)
    → o ≡ Some x → First (Ok o) read → (after : List ℕ) × (read ≡ Ok (Some (x.0, after))) × (length after ≡ x.1)
some_first o x read is h = subst (λ (p : Option (Frame × ℕ)). First (Ok p) read) is h

-- ---- the first frame, as it is looked for

part_is : (held chunk : List ℕ) (taken size : ℕ) → size ≡ length held → taken ≡ min (516 - size) (length chunk)
    → taken ≡ min (516 - length held) (length chunk)
part_is held chunk taken size s is = is ∙ ap (λ (n : ℕ). min (516 - n) (length chunk)) s

take_rest : (n : ℕ) (xs : List ℕ) → take (length xs - n) (drop n xs) ≡ drop n xs
take_rest n xs = ap (λ (k : ℕ). take k (drop n xs)) (sym (length-drop n xs)) ∙ all (drop n xs)
  where
    all : (xs : List ℕ) → take (length xs) xs ≡ xs
    all [] = refl
    all (x ∷ xs) = ap (λ (ys : List ℕ). x ∷ ys) (all xs)

-- what is known where the front of a chunk stands behind the octets held
pub record IsJoined (held chunk joined : List ℕ) (taken : ℕ) : Type 0 where
  pub back : IsHeldBack held
  pub bytes : IsBytes chunk
  pub part : taken ≡ min (516 - length held) (length chunk)
  pub is : joined ≡ begun held taken chunk

pub joins : (held chunk joined : List ℕ) (taken size : ℕ) → IsHeldBack held → IsBytes chunk → size ≡ length held
    → taken ≡ min (516 - size) (length chunk) → joined ≡ begun held taken chunk → IsJoined held chunk joined taken
joins held chunk joined taken size back bytes s part is =
    record { back = back; bytes = bytes; part = part_is held chunk taken size s part; is = is }

pub first_found : (held chunk joined : List ℕ) (taken : ℕ) (o : Option (Frame × ℕ)) (f : Frame) (behind : ℕ)
    → IsJoined held chunk joined taken → o ≡ Some (f, behind) → First (Ok o) (next_of joined)
    → (behind ≤ taken) × IsBegun held chunk f (taken - behind)
first_found held chunk joined taken o f behind j some h =
    let s = some_first o (f, behind) (next_of joined) some h in
    let p = part_taken (length held) (length chunk) taken (partial_few held j.back.partial) j.part in
    let b = begins held taken chunk f s.0 j.back.partial p.0 (begun_bytes held taken chunk j.back.fits j.bytes)
    (ap next_of (sym j.is) ∙ s.1) in
    (omega (arith, b.0, s.2), subst (λ (n : ℕ). IsBegun held chunk f (taken - n)) s.2 b.1)

-- the stream goes on behind the first frame
pub goes_behind : (held chunk : List ℕ) (f : Frame) (used : ℕ) → IsBegun held chunk f used
    → stream_of (f ∷ []) (take (length chunk - used) (drop used chunk)) ≡ held ++ chunk
goes_behind held chunk f used b = ap (stream_of (f ∷ [])) (take_rest used chunk) ∙ sym b.whole

pub none_found : (held chunk joined : List ℕ) (taken : ℕ) (o : Option (Frame × ℕ)) → IsJoined held chunk joined taken
    → o ≡ None → First (Ok o) (next_of joined) → Splits (held ++ chunk) [] joined × AreOctets joined
none_found held chunk joined taken o j none h =
    let p = part_taken (length held) (length chunk) taken (partial_few held j.back.partial) j.part in
    let w = waits held taken chunk (begun_bytes held taken chunk j.back.fits j.bytes) p.1 p.0 (ap next_of (sym j.is)
    ∙ none_first o (next_of joined) none h) in (
      subst (Splits (held ++ chunk) []) (sym j.is) w,
      subst AreOctets (sym j.is) (begun_octets held taken chunk j.back.fits j.bytes),
    )

pub fault_found : (held chunk joined : List ℕ) (taken : ℕ) (fault : LinkError) → IsJoined held chunk joined taken
    → next_of joined ≡ Err fault → Breaks (held ++ chunk) fault
fault_found held chunk joined taken fault j e =
    faults held taken chunk fault (begun_bytes held taken chunk j.back.fits j.bytes) (ap next_of (sym j.is) ∙ e)
