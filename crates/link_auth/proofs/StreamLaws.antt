-- Streams that come in chunks, and streams in which nobody else made a record.
use Rattle.std.proofs.Common.{◌≡◌, ◌∙◌, ℕ, ◌+◌, ◌<◌, ◌^◌, zero, suc, List, [], ◌∷◌, ◌++◌, length, refl, arith, sym}
use Rattle.std.proofs.Common.{ap, subst, inl}
use Rattle.std.proofs.Common.{append_assoc, slice_get, Some}
use Rattle.std.specs.List.{concat}
use Rattle.std.proofs.lemmas.List.{append-nil, length-append}
use Rattle.std.proofs.lemmas.List.Folds.{concat-append}
use Rattle.link_auth.specs.Records.{record_of, records_of, AreFit, IsPartial, Splits, Receiver}
use Rattle.link_auth.specs.Laws.{Fed, Feeds, chunks_of, pieces_of, fresh, OnlyWritten}
use Rattle.link_auth.proofs.RecordLaws.{records_append, fit_append}

-- a stream that goes on behind what was left of it
join_parts : (held chunk chunks ps_octets left qs_octets rest : List ℕ) → held ++ chunk ≡ ps_octets ++ left
    → left ++ chunks ≡ qs_octets ++ rest → held ++ (chunk ++ chunks) ≡ (ps_octets ++ qs_octets) ++ rest
join_parts held chunk chunks ps left qs rest one two =
    sym (append_assoc held chunk chunks) ∙ ap (λ (w : List ℕ). w ++ chunks) one ∙ append_assoc ps left chunks
    ∙ ap (λ (w : List ℕ). ps ++ w) two ∙ sym (append_assoc ps qs rest)

splits_on : (key : List ℕ) (number : ℕ) (held chunk chunks : List ℕ) (ps qs : List (List ℕ)) (left rest : List ℕ)
    → Splits key number (held ++ chunk) ps left → Splits key (number + length ps) (left ++ chunks) qs rest
    → Splits key number (held ++ (chunk ++ chunks)) (ps ++ qs) rest
splits_on key number held chunk chunks ps qs left rest s t = record {
  fit = fit_append ps qs s.fit t.fit;
  numbers = let n = t.numbers in omega (arith, length-append ps qs);
  parts = join_parts held chunk chunks (records_of key number ps) left (records_of key (number + length ps) qs) rest
      s.parts t.parts ∙ ap (λ (w : List ℕ). w ++ rest) (sym (records_append key number ps qs));
  partial = t.partial;
}

feeds_split : (before : Receiver) (feds : List Fed) (after : Receiver) → before.number < 2 ^ 64 → IsPartial before.held
    → Feeds before feds after
    → Splits before.key before.number (before.held ++ chunks_of feds) (pieces_of feds) after.held
feeds_split before [] after below partial h = record {
  fit = tt;
  numbers = omega arith;
  parts = append-nil before.held ∙ sym (ap (λ (r : Receiver). r.held) h);
  partial = rw h partial;
}
feeds_split before (fed ∷ feds) after below partial h =
    let next = h.0 in
    let r = h.1 in
    let later = feeds_split next feds after (omega (arith, r.splits.numbers, r.number)) r.splits.partial h.2 in
    splits_on before.key before.number before.held fed.chunk (chunks_of feds) fed.pieces (pieces_of feds) next.held
    after.held r.splits (subst (λ (k : List ℕ). Splits k (before.number + length fed.pieces)
    (next.held ++ chunks_of feds) (pieces_of feds) after.held) r.key (subst (λ n. Splits next.key n
    (next.held ++ chunks_of feds) (pieces_of feds) after.held) r.number later))

pub chunks_are_one : (key : List ℕ) (feds : List Fed) (after : Receiver) → Feeds (fresh key) feds after
    → Splits key 0 (chunks_of feds) (pieces_of feds) after.held
chunks_are_one key feds after h = feeds_split (fresh key) feds after (omega arith) (inl (omega arith)) h

pub written_is_read : (key : List ℕ) (number : ℕ) (pieces : List (List ℕ)) → AreFit pieces
    → number + length pieces < 2 ^ 64 → Splits key number (records_of key number pieces) pieces []
written_is_read key number pieces fit numbers = record {
  fit = fit;
  numbers = numbers;
  parts = sym (append-nil (records_of key number pieces));
  partial = inl (omega arith);
}

-- ---- pieces by their numbers

first_stands : (stream front one records rest : List ℕ) → stream ≡ front ++ ((one ++ records) ++ rest)
    → stream ≡ front ++ (one ++ (records ++ rest))
first_stands stream front one records rest e = e ∙ ap (λ (w : List ℕ). front ++ w) (append_assoc one records rest)

others_stand : (stream front one records rest : List ℕ) → stream ≡ front ++ ((one ++ records) ++ rest)
    → stream ≡ (front ++ one) ++ (records ++ rest)
others_stand stream front one records rest e = first_stands stream front one records rest e
    ∙ sym (append_assoc front one (records ++ rest))

-- each piece that was read is the writer's of its number
each_written : (key : List ℕ) (written : List (List ℕ)) (stream : List ℕ) → OnlyWritten key written stream
    → (number : ℕ) (ps : List (List ℕ)) (front rest : List ℕ) → AreFit ps → number + length ps < 2 ^ 64
    → stream ≡ front ++ (records_of key number ps ++ rest) → (k : ℕ) (p : List ℕ) → slice_get ps k ≡ Some p
    → slice_get written (number + k) ≡ Some p
each_written key written stream only number [] front rest fit few parts k p e = absurd cc
each_written key written stream only number (q ∷ ps) front rest fit few parts zero p e =
    let here : number + 0 ≡ number = omega arith in
    rw here (only.each number q front (records_of key (number + 1) ps ++ rest) (omega arith) fit.0
    (first_stands stream front (record_of key number q) (records_of key (number + 1) ps) rest parts) ∙ e)
each_written key written stream only number (q ∷ ps) front rest fit few parts (suc k) p e =
    let later : number + suc k ≡ number + 1 + k = omega arith in
    rw later (each_written key written stream only (number + 1) ps (front ++ record_of key number q) rest fit.1
    (omega arith)
    (others_stand stream front (record_of key number q) (records_of key (number + 1) ps) rest parts) k p e)

some_same : {X : Type 0} (x y : X) → Some x ≡ Some y → x ≡ y
some_same x y e = cc

-- a list that has each element of another at its place begins with it
begins : {X : Type 0} (xs ys : List X) → ((k : ℕ) (x : X) → slice_get xs k ≡ Some x → slice_get ys k ≡ Some x)
    → (zs : List X) × (ys ≡ xs ++ zs)
begins [] ys h = (ys, refl)
begins (x ∷ xs) [] h = let none = h 0 x refl in absurd cc
begins (x ∷ xs) (y ∷ ys) h =
    let later = begins xs ys (λ k z e. h (suc k) z e) in
    (later.0, ap (λ w. w ∷ ys) (some_same y x (h 0 x refl)) ∙ ap (λ w. x ∷ w) later.1)

at_place : (key : List ℕ) (written : List (List ℕ)) (stream : List ℕ) (ps : List (List ℕ)) (rest : List ℕ)
    → OnlyWritten key written stream → Splits key 0 stream ps rest → (k : ℕ) (p : List ℕ) → slice_get ps k ≡ Some p
    → slice_get written k ≡ Some p
at_place key written stream ps rest only s k p e =
    let at : 0 + k ≡ k = omega arith in
    subst (λ n. slice_get written n ≡ Some p) at
    (each_written key written stream only 0 ps [] rest s.fit s.numbers s.parts k p e)

pub read_is_beginning : (key : List ℕ) (written : List (List ℕ)) (feds : List Fed) (after : Receiver)
    → Feeds (fresh key) feds after → OnlyWritten key written (chunks_of feds)
    → (behind : List (List ℕ)) × (written ≡ pieces_of feds ++ behind)
    × (concat written ≡ concat (pieces_of feds) ++ concat behind)
read_is_beginning key written feds after h only =
    let s = chunks_are_one key feds after h in
    let b = begins (pieces_of feds) written
    (λ k p e. at_place key written (chunks_of feds) (pieces_of feds) after.held only
    s k p e) in
    (b.0, b.1, ap concat b.1 ∙ concat-append (pieces_of feds) b.0)
