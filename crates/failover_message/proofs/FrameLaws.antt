-- A frame that is read is spelled so, and a frame that is spelled is read again.
use Rattle.std.proofs.Common.{◌≡◌, ℕ, ◌^◌, ◌≤◌, Bool, true, false, cond, eqb, ◌&&◌, List, [], ◌∷◌, ◌++◌, length, Option}
use Rattle.std.proofs.Common.{Some, None, Ok, Err, refl, sym, ap, subst, ◌∙◌, append-nil, arith}
use Rattle.std.specs.Int.{w32}
use Rattle.std.proofs.lemmas.Bool.{eqb-true, eq-eqb, leb-true, le-leb}
use Rattle.std.proofs.lemmas.List.{nil_from_length}
use Rattle.text_fields.proofs.Steps.{bind_some, some_is, chosen, both}
use Rattle.failover_message.specs.declared.error.LinkError.TheVariants as errors
use Rattle.failover_message.specs.declared.frame.FrameKind.{FrameKind}
use Rattle.failover_message.specs.declared.frame.FrameKind.TheVariants.{BindingUpdate, BindingReply, PoolRequest}
use Rattle.failover_message.specs.declared.frame.FrameKind.TheVariants.{PoolResponse, UpdateRequest, UpdateRequestAll}
use Rattle.failover_message.specs.declared.frame.FrameKind.TheVariants.{UpdateDone, Connect, ConnectReply, Disconnect}
use Rattle.failover_message.specs.declared.frame.FrameKind.TheVariants.{State, Contact}
use Rattle.failover_message.specs.declared.frame.Frame.{Frame}
use Rattle.failover_message.specs.Frames.{number_octets, count_octets, kind_code, body_octets, content_octets}
use Rattle.failover_message.specs.Frames.{frame_octets, is_numbered, is_length, IsSerial, IsFrame}
use Rattle.failover_message.specs.Parsing.{number_at, kind_at, is_serial, is_kind, fields_of, or_field, content_of}
use Rattle.failover_message.specs.Parsing.{is_whole, behind_length, frame_of}
use Rattle.failover_message.proofs.FieldLaws.{IsBytes, IsBytes-rest, Takes, Takes-then, wide32, number_takes}
use Rattle.failover_message.proofs.FieldLaws.{number_again}
use Rattle.failover_message.proofs.BodyLaws.{limited_then, count_again}
use Rattle.failover_message.proofs.KindLaws.{kind_takes, kind_again}
use Rattle.failover_message.proofs.Lengths.{content_length}

-- ---- serials

serial_takes : (numbered : Bool) (serial : ℕ) → serial ≤ 2 ^ 49 → is_serial numbered serial ≡ true
    → IsSerial numbered serial
serial_takes true serial le e = (leb-true 1 serial e, le)
serial_takes false serial le e = eqb-true serial 0 e

serial_again : (numbered : Bool) (serial : ℕ) → IsSerial numbered serial → is_serial numbered serial ≡ true
serial_again true serial h = le-leb 1 serial h.0
serial_again false serial h = eq-eqb serial 0 h

serial_most : (numbered : Bool) (serial : ℕ) → IsSerial numbered serial → serial ≤ 2 ^ 49
serial_most true serial h = h.1
serial_most false serial h = omega (arith, h)

-- ---- what stands behind the length field

abbrev pub IsContent : List ℕ → Frame → Type 0
IsContent bytes f = (bytes ≡ content_octets f) × IsFrame f

pub fields_take : (code : ℕ) (bytes : List ℕ) (f : Frame) → IsBytes bytes → fields_of code bytes ≡ Some f
    → IsContent (code ∷ bytes) f
unfolding fields_of
fields_take code bytes f fits e =
    let term = bind_some (number_at w32 bytes) _ f e in
    let t = number_takes w32 (2 ^ 32) wide32 bytes term.0 fits term.1 in
    let serial = limited_then (2 ^ 49) term.0.1 _ f t.0.fits term.2 in
    let kind = bind_some (kind_at code serial.0.1) _ f serial.3 in
    let k = kind_takes code serial.0.1 kind.0 serial.1.fits kind.1 in
    let c = chosen (is_serial (is_numbered kind.0.0) serial.0.0 && eqb (length kind.0.1) 0)
    (Some (record { term = term.0.0; serial = serial.0.0; kind = kind.0.0 })) f kind.2 in
    let b = both (is_serial (is_numbered kind.0.0) serial.0.0) (eqb (length kind.0.1) 0) c.0 in
    let nothing : kind.0.1 ≡ [] = nil_from_length kind.0.1 (eqb-true _ _ b.1) in
    let all = (Takes-then t.0 (Takes-then serial.1 k.takes)).parts in
    let text = number_octets w32 term.0.0 ++ (count_octets serial.0.0 ++ body_octets kind.0.0) in
    let whole : bytes ≡ text = all ∙ ap (λ (r : List ℕ). text ++ r) nothing ∙ append-nil text in
    let named : code ∷ bytes ≡ kind_code kind.0.0 ∷ text = ap (λ (w : List ℕ). code ∷ w) whole
    ∙ ap (λ (n : ℕ). n ∷ text) k.named in
    subst (IsContent (code ∷ bytes)) (some_is _ _ c.1) (
      named,
      record {
        term = t.1;
        serial =
            serial_takes (is_numbered kind.0.0) serial.0.0 serial.2 b.0;
        body = k.body;
      },
    )

fields_again : (f : Frame) → IsFrame f → fields_of (kind_code f.kind) (number_octets w32 f.term
    ++ (count_octets f.serial ++ body_octets f.kind)) ≡ Some f
unfolding fields_of
fields_again f h =
    let body : kind_at (kind_code f.kind) (body_octets f.kind) ≡ Some (f.kind, []) =
    ap (kind_at (kind_code f.kind)) (sym (append-nil (body_octets f.kind))) ∙ kind_again f.kind [] h.body in
    rw (
      number_again w32 (2 ^ 32) wide32 f.term (count_octets f.serial ++ body_octets f.kind) h.term,
      count_again f.serial (body_octets f.kind) (serial_most (is_numbered f.kind) f.serial h.serial),
      body,
      serial_again (is_numbered f.kind) f.serial h.serial,
    ) refl

code_fits : (k : FrameKind) → is_kind (kind_code k) ≡ true
code_fits (BindingUpdate u) = refl
code_fits (BindingReply r) = refl
code_fits PoolRequest = refl
code_fits (PoolResponse moved) = refl
code_fits UpdateRequest = refl
code_fits UpdateRequestAll = refl
code_fits UpdateDone = refl
code_fits (Connect role last) = refl
code_fits (ConnectReply role last) = refl
code_fits Disconnect = refl
code_fits (State state) = refl
code_fits (Contact ask answer) = refl

pub content_again : (f : Frame) → IsFrame f → content_of (content_octets f) ≡ Ok f
content_again f h = rw (code_fits f.kind, fields_again f h) refl

field_some : (o : Option Frame) (f : Frame) → or_field o ≡ Ok f → o ≡ Some f
field_some None f e = absurd cc
field_some (Some g) f e = cc

pub content_takes : (bytes : List ℕ) (f : Frame) → IsBytes bytes → content_of bytes ≡ Ok f → IsContent bytes f
content_takes [] f fits e = absurd cc
content_takes (code ∷ bytes) f fits e = by (is_kind code) e
  where
    by : (b : Bool) → cond b (or_field (fields_of code bytes)) (Err errors.Kind) ≡ Ok f → IsContent (code ∷ bytes) f
    by true e = fields_take code bytes f (IsBytes-rest code bytes fits) (field_some (fields_of code bytes) f e)
    by false e = absurd cc

-- ---- frames

pub length_fits : (f : Frame) → IsFrame f → is_length (length (content_octets f)) ≡ true
length_fits f h = let l = content_length f h in
    rw (le-leb 13 (length (content_octets f)) l.0, le-leb (length (content_octets f)) 512 (omega (arith, l.1))) refl

-- octets that are this frame
abbrev pub IsFrameIn : List ℕ → Frame → Type 0
IsFrameIn bytes f = (bytes ≡ frame_octets f) × IsFrame f

behind_takes : (bytes : List ℕ) (o : Option (ℕ × List ℕ)) (f : Frame)
    → ((x : ℕ × List ℕ) → o ≡ Some x → Takes bytes (number_octets w32 x.0) x.1) → behind_length o ≡ Ok f
    → IsFrameIn bytes f
behind_takes bytes None f takes e = absurd cc
behind_takes bytes (Some x) f takes e = by (is_whole x) refl e
  where
    by : (b : Bool) → is_whole x ≡ b → cond b (content_of x.1) (Err errors.Length) ≡ Ok f → IsFrameIn bytes f
    by true is e =
        let t = takes x refl in
        let w = both (is_length x.0) (eqb (length x.1) x.0) is in
        let c = content_takes x.1 f t.fits e in
        let n : x.0 ≡ length (content_octets f) = sym (eqb-true (length x.1) x.0 w.1) ∙ ap length c.0 in (
          t.parts ∙ ap (λ (k : ℕ). number_octets w32 k ++ x.1) n
              ∙ ap (λ (r : List ℕ). number_octets w32 (length (content_octets f)) ++ r) c.0,
          c.1,
        )
    by false is e = absurd cc

pub frame_takes : (bytes : List ℕ) (f : Frame) → IsBytes bytes → frame_of bytes ≡ Ok f → IsFrameIn bytes f
frame_takes bytes f fits e = behind_takes bytes (number_at w32 bytes) f
    (λ x is. (number_takes w32 (2 ^ 32) wide32 bytes x fits is).0) e

pub frame_again : (f : Frame) → IsFrame f → frame_of (frame_octets f) ≡ Ok f
frame_again f h =
    let l = content_length f h in
    rw (
      number_again w32 (2 ^ 32) wide32 (length (content_octets f)) (content_octets f) (omega (arith, l.1)),
      length_fits f h,
      eq-eqb (length (content_octets f)) (length (content_octets f)) refl,
    ) (content_again f h)
