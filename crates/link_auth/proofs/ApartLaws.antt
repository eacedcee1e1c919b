-- Records stand apart: what is in front of a stream is one thing only.
use Rattle.std.proofs.Common.{◌≡◌, ◌∙◌, ℕ, ◌+◌, ◌<◌, ◌≤◌, ◌^◌, List, [], ◌∷◌, ◌++◌, length, take, drop, refl, arith}
use Rattle.std.proofs.Common.{sym, ap, subst, inl, inr}
use Rattle.std.proofs.Common.{append_assoc}
use Rattle.std.specs.Int.{w16, w64, to_be_bytes}
use Rattle.std.proofs.lemmas.Nat.{from_be_bytes-to_be_bytes_2}
use Rattle.std.proofs.lemmas.List.{length-append, length-take, take_at, drop_at, append_cancel_left}
use Rattle.sha2.specs.Sha256.{sha256}
use Rattle.sha2.proofs.Facts256.{length-sha256}
use Rattle.link_auth.specs.declared.fault.LinkFault.{LinkFault}
use Rattle.link_auth.specs.declared.fault.LinkFault.TheVariants.{TooLong, Forged, Spent, Memory}
use Rattle.link_auth.specs.Hmac.{hmac, with_pad, block_of}
use Rattle.link_auth.specs.Records.{code_of, record_of, records_of, length_of, piece_in, code_in, IsPartial}
use Rattle.link_auth.specs.Records.{HasFault, AreFit, Splits, Breaks}

hmac_length : (key message : List ℕ) → length (hmac key message) ≡ 32
unfolding hmac
hmac_length key message =
    length-sha256 (with_pad 0x5C (block_of key) ++ sha256 (with_pad 0x36 (block_of key) ++ message))

code_length : (key : List ℕ) (number : ℕ) (piece : List ℕ) → length (code_of key number piece) ≡ 16
unfolding code_of
code_length key number piece =
    let m = (to_be_bytes w64 number ++ to_be_bytes w16 (length piece)) ++ piece in
    omega (arith, length-take 16 (hmac key m), hmac_length key m)

-- ---- what a record in front spells

front_length : (n : ℕ) (rest : List ℕ) → n ≤ 16384 → length_of (to_be_bytes w16 n ++ rest) ≡ n
front_length n rest small = from_be_bytes-to_be_bytes_2 n (omega arith)

record_length : (key : List ℕ) (number : ℕ) (piece rest : List ℕ) → length piece ≤ 16384
    → length_of (record_of key number piece ++ rest) ≡ length piece
unfolding record_of
record_length key number piece rest fits =
    front_length (length piece) ((piece ++ code_of key number piece) ++ rest) fits

record_drop : (key : List ℕ) (number : ℕ) (piece rest : List ℕ)
    → drop 2 (record_of key number piece ++ rest) ≡ piece ++ (code_of key number piece ++ rest)
unfolding record_of
record_drop key number piece rest = append_assoc piece (code_of key number piece) rest

record_piece : (key : List ℕ) (number : ℕ) (piece rest : List ℕ) → length piece ≤ 16384
    → piece_in (record_of key number piece ++ rest) ≡ piece
record_piece key number piece rest fits = ap (λ n. take n (drop 2 (record_of key number piece ++ rest)))
    (record_length key number piece rest fits) ∙ ap (λ (w : List ℕ). take (length piece) w)
    (record_drop key number piece rest) ∙ take_at piece (code_of key number piece ++ rest) (length piece) refl

record_code : (key : List ℕ) (number : ℕ) (piece rest : List ℕ) → length piece ≤ 16384
    → code_in (record_of key number piece ++ rest) ≡ code_of key number piece
record_code key number piece rest fits = ap (λ n. take 16 (drop n (drop 2 (record_of key number piece ++ rest))))
    (record_length key number piece rest fits) ∙ ap (λ (w : List ℕ). take 16 (drop (length piece) w))
    (record_drop key number piece rest) ∙ ap (λ (w : List ℕ). take 16 w)
    (drop_at piece (code_of key number piece ++ rest) (length piece) refl)
    ∙ take_at (code_of key number piece) rest 16 (code_length key number piece)

record_whole : (key : List ℕ) (number : ℕ) (piece rest : List ℕ)
    → length piece + 18 ≤ length (record_of key number piece ++ rest)
unfolding record_of
record_whole key number piece rest = omega (
  arith,
  length-append (to_be_bytes w16 (length piece) ++ (piece ++ code_of key number piece)) rest,
  length-append (to_be_bytes w16 (length piece)) (piece ++ code_of key number piece),
  length-append piece (code_of key number piece),
  code_length key number piece,
)

-- ---- a stream that begins with a record

-- two records in front are one
record_apart : (key : List ℕ) (number : ℕ) (p q a b : List ℕ) → length p ≤ 16384 → length q ≤ 16384
    → record_of key number p ++ a ≡ record_of key number q ++ b → (p ≡ q) × (a ≡ b)
record_apart key number p q a b f g e =
    let same : p ≡ q = sym (record_piece key number p a f) ∙ ap piece_in e ∙ record_piece key number q b g in (
      same,
      append_cancel_left (record_of key number p) a b
          (e ∙ ap (λ (w : List ℕ). record_of key number w ++ b) (sym same)),
    )

not_partial : (key : List ℕ) (number : ℕ) (piece rest : List ℕ) → length piece ≤ 16384
    → IsPartial (record_of key number piece ++ rest) → ⊥
not_partial key number piece rest fits (inl short) = omega (arith, record_whole key number piece rest)
not_partial key number piece rest fits (inr long) = let l = long.1 in
    omega (arith, record_whole key number piece rest, record_length key number piece rest fits)

not_faulty : (key : List ℕ) (number : ℕ) (piece rest : List ℕ) (fault : LinkFault) → length piece ≤ 16384
    → number + 1 < 2 ^ 64 → HasFault key number (record_of key number piece ++ rest) fault → ⊥
not_faulty key number piece rest TooLong fits below h = let l = h.1 in
    omega (arith, record_length key number piece rest fits)
not_faulty key number piece rest Forged fits below h = h.differs (record_code key number piece rest fits
    ∙ ap (λ (w : List ℕ). code_of key number w) (sym (record_piece key number piece rest fits)))
not_faulty key number piece rest Spent fits below h = let l = h.last in omega arith
not_faulty key number piece rest Memory fits below h = h

partial_is_right : (key : List ℕ) (number : ℕ) (stream : List ℕ) (fault : LinkFault) → IsPartial stream
    → HasFault key number stream fault → ⊥
partial_is_right key number stream TooLong (inl short) h = let l = h.0 in omega arith
partial_is_right key number stream TooLong (inr long) h = let l = h.1 in let m = long.0 in omega arith
partial_is_right key number stream Forged (inl short) h = let l = h.whole in omega arith
partial_is_right key number stream Forged (inr long) h = let l = h.whole in let m = long.1 in omega arith
partial_is_right key number stream Spent p h = not_partial key number h.piece h.rest h.stands.fits
    (subst (λ (w : List ℕ). IsPartial w) h.stands.parts p)
partial_is_right key number stream Memory p h = h

-- ---- whole streams

apart : (key : List ℕ) (number : ℕ) (ps qs : List (List ℕ)) (rest left : List ℕ) → AreFit ps → AreFit qs
    → IsPartial rest → IsPartial left → records_of key number ps ++ rest ≡ records_of key number qs ++ left
    → (ps ≡ qs) × (rest ≡ left)
apart key number [] [] rest left f g p q e = (refl, e)
apart key number [] (y ∷ qs) rest left f g p q e =
    absurd (not_partial key number y (records_of key (number + 1) qs ++ left)
    g.0 (subst (λ (w : List ℕ). IsPartial w) (e ∙ append_assoc (record_of key number y) _ left) p))
apart key number (x ∷ ps) [] rest left f g p q e =
    absurd (not_partial key number x (records_of key (number + 1) ps ++ rest)
    f.0 (subst (λ (w : List ℕ). IsPartial w) (sym e ∙ append_assoc (record_of key number x) _ rest) q))
apart key number (x ∷ ps) (y ∷ qs) rest left f g p q e =
    let first = record_apart key number x y (records_of key (number + 1) ps ++ rest)
    (records_of key (number + 1) qs ++ left) f.0 g.0 (sym (append_assoc (record_of key number x) _ rest) ∙ e
    ∙ append_assoc (record_of key number y) _ left) in
    let others = apart key (number + 1) ps qs rest left f.1 g.1 p q first.1 in
    (ap (λ w. w ∷ ps) first.0 ∙ ap (λ w. y ∷ w) others.0, others.1)

pub one_reading : (key : List ℕ) (number : ℕ) (stream : List ℕ) (ps qs : List (List ℕ)) (rest left : List ℕ)
    → Splits key number stream ps rest → Splits key number stream qs left → (ps ≡ qs) × (rest ≡ left)
one_reading key number stream ps qs rest left s t =
    apart key number ps qs rest left s.fit t.fit s.partial t.partial (sym s.parts ∙ t.parts)

never : (key : List ℕ) (number : ℕ) (ps qs : List (List ℕ)) (rest left : List ℕ) (fault : LinkFault) → AreFit ps
    → AreFit qs → number + length ps < 2 ^ 64 → IsPartial rest → HasFault key (number + length qs) left fault
    → records_of key number ps ++ rest ≡ records_of key number qs ++ left → ⊥
never key number [] [] rest left fault f g below p h e = partial_is_right key (number + 0) left fault
    (subst (λ (w : List ℕ). IsPartial w) e p) h
never key number [] (y ∷ qs) rest left fault f g below p h e =
    not_partial key number y (records_of key (number + 1) qs ++ left)
    g.0 (subst (λ (w : List ℕ). IsPartial w) (e ∙ append_assoc (record_of key number y) _ left) p)
never key number (x ∷ ps) [] rest left fault f g below p h e =
    let here : number + 0 ≡ number = omega arith in
    not_faulty key number x (records_of key (number + 1) ps ++ rest) fault f.0 (omega arith)
    (subst (λ n. HasFault key n (record_of key number x ++ (records_of key (number + 1) ps ++ rest)) fault) here
    (subst (λ (w : List ℕ). HasFault key (number + 0) w fault)
    (sym e ∙ append_assoc (record_of key number x) _ rest) h))
never key number (x ∷ ps) (y ∷ qs) rest left fault f g below p h e =
    let first = record_apart key number x y (records_of key (number + 1) ps ++ rest)
    (records_of key (number + 1) qs ++ left) f.0 g.0 (sym (append_assoc (record_of key number x) _ rest) ∙ e
    ∙ append_assoc (record_of key number y) _ left) in
    let later : number + length (y ∷ qs) ≡ number + 1 + length qs = omega arith in
    never key (number + 1) ps qs rest left fault f.1 g.1 (omega arith) p
    (subst (λ n. HasFault key n left fault) later h) first.1

pub never_both : (key : List ℕ) (number : ℕ) (stream : List ℕ) (ps : List (List ℕ)) (rest : List ℕ) (fault : LinkFault)
    → Splits key number stream ps rest → Breaks key number stream fault → ⊥
never_both key number stream ps rest fault s b =
    never key number ps b.pieces rest b.rest fault s.fit b.fit s.numbers s.partial b.has_fault (sym s.parts ∙ b.parts)
