-- Frames at the beginning of a stream.
use Rattle.std.proofs.Common.{◌≡◌, ◌∙◌, ℕ, ◌+◌, ◌<◌, ◌≤◌, ◌^◌, Bool, true, false, List, [], ◌∷◌, ◌++◌, length}
use Rattle.std.proofs.Common.{Option, Some, None, refl, sym, ap, subst, arith, append_assoc, append-nil}
use Rattle.std.specs.Int.{w32, from_be_bytes}
use Rattle.std.specs.List.{flat_map, AllByRecursion}
use Rattle.std.proofs.lemmas.List.{length-append, take_at}
use Rattle.std.proofs.lemmas.List.Concat.{flat_map-cons}
use Rattle.std.proofs.lemmas.Nat.{from_be_bytes-to_be_bytes_4}
use Rattle.failover_message.specs.declared.frame.FrameKind.{FrameKind}
use Rattle.failover_message.specs.declared.frame.FrameKind.TheVariants.{BindingUpdate, BindingReply, PoolRequest}
use Rattle.failover_message.specs.declared.frame.FrameKind.TheVariants.{PoolResponse, UpdateRequest, UpdateRequestAll}
use Rattle.failover_message.specs.declared.frame.FrameKind.TheVariants.{UpdateDone, Connect, ConnectReply, Disconnect}
use Rattle.failover_message.specs.declared.frame.FrameKind.TheVariants.{State, Contact}
use Rattle.failover_message.specs.declared.frame.Frame.{Frame}
use Rattle.failover_message.specs.Frames.{number_octets, count_octets, client_octets, body_octets, content_octets}
use Rattle.failover_message.specs.Frames.{frame_octets, IsBody, IsFrame}
use Rattle.failover_message.specs.Faults.{length_of}
use Rattle.failover_message.specs.Stream.{IsPartial, stream_of}
use Rattle.failover_message.specs.Laws.{FramesStandApart}
use Rattle.binding_rules.specs.Messages.{has_client, IsHeld}

-- ---- how many octets a frame has

client_length : (held : Bool) (iaid : ℕ) (client : Option (List ℕ)) → IsHeld held iaid client
    → length (client_octets client) ≤ 131
client_length true iaid (Some client) h = omega (arith, h.1.most)
client_length true iaid None h = absurd h
client_length false iaid (Some client) h = absurd h
client_length false iaid None h = omega arith

body_length : (k : FrameKind) → IsBody k → length (body_octets k) ≤ 177
unfolding number_octets
body_length (BindingUpdate u) h = omega (arith, client_length (has_client u.status) u.iaid u.client h.holder)
body_length (BindingReply r) h = omega arith
body_length PoolRequest h = omega arith
body_length (PoolResponse moved) h = omega arith
body_length UpdateRequest h = omega arith
body_length UpdateRequestAll h = omega arith
body_length UpdateDone h = omega arith
body_length (Connect role last) h = omega arith
body_length (ConnectReply role last) h = omega arith
body_length Disconnect h = omega arith
body_length (State state) h = omega arith
body_length (Contact ask answer) h = omega arith

headed : (term serial : ℕ) (body : List ℕ) → length (number_octets w32 term ++ (count_octets serial ++ body))
    ≡ 12 + length body
unfolding number_octets
headed term serial body = omega arith

pub content_length : (f : Frame) → IsFrame f → (13 ≤ length (content_octets f)) × (length (content_octets f) ≤ 190)
content_length f h =
    let head = headed f.term f.serial (body_octets f.kind) in
    let body = body_length f.kind h.body in
    (omega arith, omega arith)

field_length : (n : ℕ) → length (number_octets w32 n) ≡ 4
unfolding number_octets
field_length n = refl

field_says : (n : ℕ) → n < 2 ^ 32 → from_be_bytes w32 (number_octets w32 n) ≡ n
unfolding number_octets
field_says n lt = from_be_bytes-to_be_bytes_4 n lt

-- ---- a frame, and what stands behind it

abbrev field_of : Frame → List ℕ
field_of f = number_octets w32 (length (content_octets f))

parts : (f : Frame) (after : List ℕ) → frame_octets f ++ after ≡ field_of f ++ (content_octets f ++ after)
parts f after = append_assoc (field_of f) (content_octets f) after

says : (f : Frame) (after : List ℕ) → IsFrame f → length_of (frame_octets f ++ after) ≡ length (content_octets f)
says f after h =
    let long = content_length f h in
    ap length_of (parts f after)
    ∙ ap (from_be_bytes w32) (take_at (field_of f) (content_octets f ++ after) 4 (field_length (length (content_octets f))))
    ∙ field_says (length (content_octets f)) (omega (arith, long.1))

counts : (f : Frame) (after : List ℕ)
    → length (frame_octets f ++ after) ≡ 4 + length (content_octets f) + length after
counts f after = ap length (parts f after)
    ∙ omega (
      arith,
      length-append (field_of f) (content_octets f ++ after),
      length-append (content_octets f) after,
      field_length (length (content_octets f)),
    )

not_partial : (f : Frame) (after : List ℕ) → IsFrame f → IsPartial (frame_octets f ++ after) → ⊥
not_partial f after h p =
    let c = counts f after in
    let few = p.short (omega (arith, c)) in
    absurd (omega (arith, c, few, says f after h))

not_nothing : (f : Frame) (after : List ℕ) → frame_octets f ++ after ≡ [] → ⊥
not_nothing f after e = absurd (omega (arith, counts f after, ap length e))

-- ---- frames that a stream begins with

stream_cons : (f : Frame) (fs : List Frame) (rest : List ℕ)
    → stream_of (f ∷ fs) rest ≡ frame_octets f ++ stream_of fs rest
stream_cons f fs rest = ap (λ (w : List ℕ). w ++ rest) (flat_map-cons frame_octets f fs)
    ∙ append_assoc (frame_octets f) (flat_map frame_octets fs) rest

-- they are the first of those that it is, and the others stand behind them
pub first_are : FramesStandApart → (fs gs : List Frame) (rest : List ℕ) → stream_of fs rest ≡ stream_of gs []
    → AllByRecursion IsFrame fs → AllByRecursion IsFrame gs
    → (hs : List Frame) × (gs ≡ fs ++ hs) × (rest ≡ stream_of hs [])
first_are apart [] gs rest e a b = (gs, refl, e)
first_are apart (f ∷ fs) [] rest e a b =
    absurd (not_nothing f (stream_of fs rest) (sym (stream_cons f fs rest) ∙ e))
first_are apart (f ∷ fs) (g ∷ gs) rest e a b =
    let same = apart f g (stream_of fs rest) (stream_of gs []) a.0 b.0
    (sym (stream_cons f fs rest) ∙ e ∙ stream_cons g gs []) in
    let more = first_are apart fs gs rest same.1 a.1 b.1 in
    (more.0, ap (λ (h : Frame). h ∷ gs) (sym same.0) ∙ ap (λ (hs : List Frame). f ∷ hs) more.1, more.2)

last_of : (fs gs : List Frame) → AllByRecursion IsFrame (fs ++ gs) → AllByRecursion IsFrame gs
last_of [] gs h = h
last_of (f ∷ fs) gs h = last_of fs gs h.1

none_behind : (fs gs hs : List Frame) (rest : List ℕ) → gs ≡ fs ++ hs → rest ≡ stream_of hs []
    → AllByRecursion IsFrame gs → IsPartial rest → (fs ≡ gs) × (rest ≡ [])
none_behind fs gs [] rest same left b p = (sym (same ∙ append-nil fs), left)
none_behind fs gs (h ∷ hs) rest same left b p =
    let each = last_of fs (h ∷ hs) (subst (λ (xs : List Frame). AllByRecursion IsFrame xs) same b) in
    absurd (not_partial h (stream_of hs []) each.0
    (subst (λ (w : List ℕ). IsPartial w) (left ∙ stream_cons h hs []) p))

-- and they are all of them where less than a frame stands behind
pub all_are : FramesStandApart → (fs gs : List Frame) (rest : List ℕ) → stream_of fs rest ≡ stream_of gs []
    → AllByRecursion IsFrame fs → AllByRecursion IsFrame gs → IsPartial rest → (fs ≡ gs) × (rest ≡ [])
all_are apart fs gs rest e a b p =
    let first = first_are apart fs gs rest e a b in
    none_behind fs gs first.0 rest first.1 first.2 b p
