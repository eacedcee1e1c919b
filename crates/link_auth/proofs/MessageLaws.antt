-- What proofs and keys are made of.
use Rattle.std.proofs.Common.{◌≡◌, ◌∙◌, ℕ, ◌+◌, List, [], ◌∷◌, ◌++◌, length, take, drop, get_or, refl, arith, sym, ap}
use Rattle.std.proofs.lemmas.List.{length-append, take_at, drop_at}
use Rattle.link_auth.specs.declared.derived.Purpose.{Purpose}
use Rattle.link_auth.specs.declared.derived.Purpose.TheVariants.{Proof, Records}
use Rattle.link_auth.specs.declared.handshake_role.HandshakeRole.{HandshakeRole}
use Rattle.link_auth.specs.declared.handshake_role.HandshakeRole.TheVariants.{Initiator, Responder}
use Rattle.link_auth.specs.Handshake.{own_for, other_for, other_side, message_of, label_of, side_octet}

-- lists whose fronts have one length are the same only where both parts are
parts_same : (n : ℕ) (front other back behind : List ℕ) → length front ≡ n → length other ≡ n
    → front ++ back ≡ other ++ behind → (front ≡ other) × (back ≡ behind)
parts_same n front other back behind a b e = (
  sym (take_at front back n a) ∙ ap (λ (w : List ℕ). take n w) e ∙ take_at other behind n b,
  sym (drop_at front back n a) ∙ ap (λ (w : List ℕ). drop n w) e ∙ drop_at other behind n b,
)

sides_same : (s t : HandshakeRole) → side_octet s ≡ side_octet t → s ≡ t
sides_same Initiator Initiator e = refl
sides_same Initiator Responder e = absurd (omega arith)
sides_same Responder Initiator e = absurd (omega arith)
sides_same Responder Responder e = refl

one_purpose : (label own other mine theirs : List ℕ) (n : ℕ) (s t : HandshakeRole) → length label ≡ n → length own ≡ 32
    → length mine ≡ 32
    → ((label ++ side_octet s ∷ []) ++ own) ++ other ≡ ((label ++ side_octet t ∷ []) ++ mine) ++ theirs
    → (s ≡ t) × (own ≡ mine) × (other ≡ theirs)
one_purpose label own other mine theirs n s t long a b e =
    let whole = parts_same (n + 33) ((label ++ side_octet s ∷ []) ++ own) ((label ++ side_octet t ∷ []) ++ mine) other
    theirs (omega (arith, length-append (label ++ side_octet s ∷ []) own, length-append label (side_octet s ∷ [])))
    (omega (arith, length-append (label ++ side_octet t ∷ []) mine, length-append label (side_octet t ∷ []))) e in
    let head = parts_same (n + 1) (label ++ side_octet s ∷ []) (label ++ side_octet t ∷ []) own mine
    (omega (arith, length-append label (side_octet s ∷ []))) (omega (arith, length-append label (side_octet t ∷ [])))
    whole.0 in
    let side = parts_same n label label (side_octet s ∷ []) (side_octet t ∷ []) long long head.0 in
    (sides_same s t (ap (λ (w : List ℕ). get_or w 0 0) side.1), head.1, whole.1)

message_length : (p : Purpose) (s : HandshakeRole) (own other : List ℕ) → length own ≡ 32 → length other ≡ 32
    → length (message_of p s own other) ≡ length (label_of p) + 65
message_length p s own other a b = omega (
  arith,
  length-append ((label_of p ++ side_octet s ∷ []) ++ own) other,
  length-append (label_of p ++ side_octet s ∷ []) own,
  length-append (label_of p) (side_octet s ∷ []),
)

two_purposes : (p q : Purpose) (s t : HandshakeRole) (own other mine theirs : List ℕ) → length own ≡ 32
    → length other ≡ 32 → length mine ≡ 32 → length theirs ≡ 32
    → message_of p s own other ≡ message_of q t mine theirs → length (label_of p) ≡ length (label_of q)
two_purposes p q s t own other mine theirs a b c d e = omega (
  arith,
  ap (λ (w : List ℕ). length w) e,
  message_length p s own other a b,
  message_length q t mine theirs c d,
)

pub messages_apart : (p q : Purpose) (s t : HandshakeRole) (own other mine theirs : List ℕ) → length own ≡ 32
    → length other ≡ 32 → length mine ≡ 32 → length theirs ≡ 32
    → message_of p s own other ≡ message_of q t mine theirs
    → (p ≡ q) × (s ≡ t) × (own ≡ mine) × (other ≡ theirs)
messages_apart Proof Proof s t own other mine theirs a b c d e =
    let same = one_purpose (label_of Proof) own other mine theirs 21 s t refl a c e in
    (refl, same.0, same.1, same.2)
messages_apart Records Records s t own other mine theirs a b c d e =
    let same = one_purpose (label_of Records) own other mine theirs 23 s t refl a c e in
    (refl, same.0, same.1, same.2)
messages_apart Proof Records s t own other mine theirs a b c d e =
    let lengths = two_purposes Proof Records s t own other mine theirs a b c d e in absurd (omega arith)
messages_apart Records Proof s t own other mine theirs a b c d e =
    let lengths = two_purposes Records Proof s t own other mine theirs a b c d e in absurd (omega arith)

pub ends_are_one : (key own other : List ℕ) (side : HandshakeRole) (purpose : Purpose)
    → other_for (record { party = record { key = key; side = side; nonce = own }; other = other }) purpose
    ≡ own_for (record { party = record { key = key; side = other_side side; nonce = other }; other = own }) purpose
ends_are_one key own other side purpose = refl
