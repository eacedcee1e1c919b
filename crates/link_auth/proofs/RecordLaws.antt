-- Records and what is in front of a stream.
use Rattle.std.proofs.Common.{◌≡◌, ◌∙◌, ℕ, ◌+◌, ◌<◌, ◌≤◌, List, [], ◌∷◌, ◌++◌, length, take, drop, refl, arith, sym}
use Rattle.std.proofs.Common.{ap, subst}
use Rattle.std.proofs.Common.{append_assoc}
use Rattle.std.specs.Int.{w16, to_be_bytes}
use Rattle.std.proofs.lemmas.List.{take-append-drop}
use Rattle.std.specs.List.{concat}
use Rattle.std.proofs.lemmas.List.{append-nil, length-append}
use Rattle.std.proofs.lemmas.List.Folds.{concat-append}
use Rattle.std.specs.Prelude.{Option, Some, None, Ok}
use Rattle.std.specs.Borrow.{Bor}
use Rattle.link_auth.specs.declared.fault.LinkFault.{LinkFault}
use Rattle.link_auth.specs.Parsing.{Ahead, Taken, Goes, Written}
use Rattle.link_auth.specs.Records.{code_of, record_of, records_of, Stands, AreFit, IsPartial}
use Rattle.link_auth.specs.Records.{HasFault, Breaks}

-- a list is its two parts
pub two_parts : (n : ℕ) (whole front back : List ℕ) → front ≡ take n whole → back ≡ drop n whole → whole ≡ front ++ back
two_parts n whole front back f b = rw (f, b) (sym (take-append-drop n whole))

join : (stream head behind piece tail code rest h c : List ℕ) → stream ≡ head ++ behind → behind ≡ piece ++ tail
    → tail ≡ code ++ rest → head ≡ h → code ≡ c → stream ≡ (h ++ (piece ++ c)) ++ rest
join stream head behind piece tail code rest h c one two three eh ec =
    rw (one, two, three, eh, ec, append_assoc h (piece ++ c) rest, append_assoc piece c rest) refl

-- a record that was taken apart
pub stands : (key : List ℕ) (number : ℕ) (stream head behind piece tail code rest : List ℕ) (n : ℕ)
    → stream ≡ head ++ behind → behind ≡ piece ++ tail → tail ≡ code ++ rest
    → to_be_bytes w16 n ≡ head → length piece ≡ n → n ≤ 16384 → code ≡ code_of key number piece
    → Stands key number piece stream rest
unfolding record_of
stands key number stream head behind piece tail code rest n one two three spelled long fits same = record {
  fits = omega arith;
  parts = join stream head behind piece tail code rest (to_be_bytes w16 (length piece)) (code_of key number piece) one
      two three (sym (ap (λ m. to_be_bytes w16 m) long ∙ spelled)) same;
}

-- ---- records one behind another

pub records_append : (key : List ℕ) (number : ℕ) (ps qs : List (List ℕ))
    → records_of key number (ps ++ qs) ≡ records_of key number ps ++ records_of key (number + length ps) qs
records_append key number [] qs =
    let none : number ≡ number + 0 = omega arith in ap (λ n. records_of key n qs) none
records_append key number (p ∷ ps) qs =
    let later : number + 1 + length ps ≡ number + length (p ∷ ps) = omega arith in
    ap (λ (w : List ℕ). record_of key number p ++ w) (records_append key (number + 1) ps qs
    ∙ ap (λ n. records_of key (number + 1) ps ++ records_of key n qs) later)
    ∙ sym (append_assoc (record_of key number p) (records_of key (number + 1) ps) _)

pub fit_append : (ps qs : List (List ℕ)) → AreFit ps → AreFit qs → AreFit (ps ++ qs)
fit_append [] qs f g = g
fit_append (p ∷ ps) qs f g = (f.0, fit_append ps qs f.1 g)

-- nothing is taken yet
pub taken_none : (key : List ℕ) (start : Ahead) → Taken key start [] start
taken_none key start = record {
  pieces = [];
  fit = tt;
  parts = refl;
  number = omega arith;
  whole = refl;
}

one_behind : (key : List ℕ) (number : ℕ) (ps : List (List ℕ)) (p : List ℕ)
    → records_of key number (ps ++ p ∷ []) ≡ records_of key number ps ++ record_of key (number + length ps) p
one_behind key number ps p = records_append key number ps (p ∷ [])
    ∙ ap (λ (w : List ℕ). records_of key number ps ++ w) (append-nil (record_of key (number + length ps) p))

-- one more record is taken
pub taken_more : (key : List ℕ) (start : Ahead) (octets : List ℕ) (before now : Ahead) (piece more : List ℕ)
    → Taken key start octets before → Stands key before.number piece before.rest now.rest
    → now.number ≡ before.number + 1 → more ≡ octets ++ piece → Taken key start more now
taken_more key start octets before now piece more t stands next longer = record {
  pieces = t.pieces ++ piece ∷ [];
  fit = fit_append t.pieces (piece ∷ []) t.fit (stands.fits, tt);
  parts = t.parts ∙ ap (λ (w : List ℕ). records_of key start.number t.pieces ++ w) (stands.parts
      ∙ ap (λ n. record_of key n piece ++ now.rest) t.number)
      ∙ sym (append_assoc (records_of key start.number t.pieces) (record_of key (start.number + length t.pieces) piece)
      now.rest) ∙ ap (λ (w : List ℕ). w ++ now.rest) (sym (one_behind key start.number t.pieces piece));
  number = next ∙ ap (λ n. n + 1) t.number ∙ omega (arith, length-append t.pieces (piece ∷ []));
  whole = longer ∙ ap (λ (w : List ℕ). w ++ piece) t.whole
      ∙ sym (concat-append t.pieces (piece ∷ []) ∙ ap (λ (w : List ℕ). concat t.pieces ++ w) (append-nil piece));
}

-- ---- what a step found

pub found_some : (key : List ℕ) (a b : Ahead) (found : Option (Bor (List ℕ))) (piece : Bor (List ℕ))
    → found ≡ Some piece → Goes key a (Ok found) b
    → Stands key a.number piece.now a.rest b.rest × (b.number ≡ a.number + 1)
found_some key a b found piece is g = subst (λ (f : Option (Bor (List ℕ))). Goes key a (Ok f) b) is g

pub found_none : (key : List ℕ) (a b : Ahead) (found : Option (Bor (List ℕ))) → found ≡ None → Goes key a (Ok found) b
    → IsPartial a.rest × (b ≡ a)
found_none key a b found is g = subst (λ (f : Option (Bor (List ℕ))). Goes key a (Ok f) b) is g

record_long : (key : List ℕ) (number : ℕ) (piece rest : List ℕ)
    → length rest < length (record_of key number piece ++ rest)
unfolding record_of
record_long key number piece rest = omega (
  arith,
  length-append (to_be_bytes w16 (length piece) ++ (piece ++ code_of key number piece)) rest,
  length-append (to_be_bytes w16 (length piece)) (piece ++ code_of key number piece),
)

pub shorter : (key : List ℕ) (number : ℕ) (piece stream rest : List ℕ) → Stands key number piece stream rest
    → length rest < length stream
shorter key number piece stream rest stands = rw stands.parts (record_long key number piece rest)

-- a fault behind the records that were taken
pub breaks : (key : List ℕ) (start : Ahead) (octets : List ℕ) (now : Ahead) (fault : LinkFault)
    → Taken key start octets now → HasFault key now.number now.rest fault → Breaks key start.number start.rest fault
breaks key start octets now fault t f = record {
  pieces = t.pieces;
  rest = now.rest;
  fit = t.fit;
  parts = t.parts;
  has_fault = subst (λ n. HasFault key n now.rest fault) t.number f;
}

-- ---- what was written

pub written_more : (key : List ℕ) (start : ℕ) (octets stream : List ℕ) (number : ℕ) (rest piece behind more : List ℕ)
    (next : ℕ) → Written key start octets stream number rest → 0 < length piece → length piece ≤ 16384
    → rest ≡ piece ++ behind → more ≡ stream ++ record_of key number piece → next ≡ number + 1
    → Written key start octets more next behind
written_more key start octets stream number rest piece behind more next w some fits parts longer one = record {
  pieces = w.pieces ++ piece ∷ [];
  fit = fit_append w.pieces (piece ∷ []) w.fit (fits, tt);
  whole = w.whole ∙ ap (λ (r : List ℕ). concat w.pieces ++ r) parts
      ∙ sym (append_assoc (concat w.pieces) piece behind)
      ∙ ap (λ (r : List ℕ). r ++ behind) (sym (concat-append w.pieces (piece ∷ [])
      ∙ ap (λ (r : List ℕ). concat w.pieces ++ r) (append-nil piece)));
  filled = omega (
    arith,
    w.filled,
    ap (λ (r : List ℕ). length r) parts,
    length-append piece behind,
    length-append w.pieces (piece ∷ []),
  );
  records = longer ∙ ap (λ n. stream ++ record_of key n piece) w.number
      ∙ ap (λ (r : List ℕ). r ++ record_of key (start + length w.pieces) piece) w.records
      ∙ sym (one_behind key start w.pieces piece);
  number = one ∙ ap (λ n. n + 1) w.number ∙ omega (arith, length-append w.pieces (piece ∷ []));
}
