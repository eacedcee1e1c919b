-- Lines, closed as the desk closes them, without the close line that it may have put there.
use Rattle.std.specs.Prelude.{◌≡◌, ℕ, ◌+◌, ◌-◌, ◌≤◌, ◌&&◌, ◌==◌, Bool, true, false, List, [], ◌∷◌, ◌++◌, length, take, if◌then◌else◌}
use Rattle.std.proofs.Common.{zero, suc, arith, slice_index_or, sym, ◌∙◌, ap, subst, refl}
use Rattle.std.proofs.lemmas.Bool.Decides.{Decides-eqb}
use Rattle.journal_lines.specs.Close.{is_close}
use Rattle.journal_lines.specs.declared.event.Event.{Event}
use Rattle.journal_lines.specs.declared.event.Event.TheVariants.{Close}
use Rattle.journal_lines.specs.declared.line.Line.{Line}
use Rattle.open_volume.specs.Spelling.{OnlyLastCloses}
use Rattle.attribution.specs.Snapshot.{close_behind, closed_from}
use Rattle.journal_copies.specs.Used.{is_put_behind, lines_before_put}

-- ---- as the lines are looked at

pub short : (ls : List Line) → (2 ≤ length ls → ⊥) → ls ≡ lines_before_put ls
short [] few = refl
short (l ∷ []) few = refl
short (l ∷ m ∷ ls) few = absurd (few (omega arith))

one_more : (x : Line) (ys : List Line) (n : ℕ) (t : Bool) → lines_before_put ys ≡ (if t then take (suc n) ys else ys)
    → x ∷ lines_before_put ys ≡ (if t then take (suc (suc n)) (x ∷ ys) else x ∷ ys)
one_more x ys n true h = ap (λ zs. x ∷ zs) h
one_more x ys n false h = ap (λ zs. x ∷ zs) h

two : (x y : Line) (t : Bool) → (if t then x ∷ [] else x ∷ y ∷ []) ≡ (if t then take 1 (x ∷ y ∷ []) else x ∷ y ∷ [])
two x y true = refl
two x y false = refl

at_last : (ls : List Line) (n : ℕ) (b l : Line) → length ls ≡ suc (suc n) → b ≡ slice_index_or ls n b
    → l ≡ slice_index_or ls (suc n) l → lines_before_put ls ≡ (if is_put_behind b l then take (suc n) ls else ls)
at_last [] n b l long at_b at_l = absurd (omega arith)
at_last (x ∷ []) n b l long at_b at_l = absurd (omega arith)
at_last (x ∷ y ∷ []) zero b l long at_b at_l = rw (at_b, at_l) (two x y (is_put_behind x y))
at_last (x ∷ y ∷ []) (suc n) b l long at_b at_l = absurd (omega arith)
at_last (x ∷ y ∷ z ∷ zs) zero b l long at_b at_l = absurd (omega arith)
at_last (x ∷ y ∷ z ∷ zs) (suc n) b l long at_b at_l =
    one_more x (y ∷ z ∷ zs) n (is_put_behind b l) (at_last (y ∷ z ∷ zs) n b l (omega arith) at_b at_l)

pub at_end : (ls : List Line) (n : ℕ) (b l : Line) (t : Bool) → 2 ≤ length ls → n ≡ length ls - 2
    → b ≡ slice_index_or ls n b → l ≡ slice_index_or ls (n + 1) l → t ≡ is_put_behind b l
    → (if t then take (n + 1) ls else ls) ≡ lines_before_put ls
at_end ls n b l t some is at_b at_l put =
    let long : length ls ≡ suc (suc n) = omega arith in
    let more : n + 1 ≡ suc n = omega arith in
    let next : l ≡ slice_index_or ls (suc n) l = subst (λ k. l ≡ slice_index_or ls k l) more at_l in
    ap (λ (b : Bool). if b then take (n + 1) ls else ls) put
    ∙ ap (λ k. if is_put_behind b l then take k ls else ls) more
    ∙ sym (at_last ls n b l long at_b next)

-- ---- of lines that the desk closed

close_is : (e : Event) → is_close e ≡ true → e ≡ Close
close_is Close is = refl
close_is e is = absurd (cc)

same_number : (n : ℕ) → (n == n) ≡ true
same_number n = (Decides-eqb n n).1 refl

both : (a b : Bool) → (a && b) ≡ true → (a ≡ true) × (b ≡ true)
both true true e = (refl, refl)
both true false e = absurd (cc)
both false b e = absurd (cc)

-- the desk's close line is one that it may have put there
put_so : (l : Line) → is_put_behind l (close_behind l) ≡ true
put_so l = rw (same_number (l.number + 1), same_number l.reading) refl

-- and any such line is the desk's
so_put : (l m : Line) → is_put_behind l m ≡ true → close_behind l ≡ m
so_put l m put =
    let p = both (is_close m.event) ((m.number == l.number + 1) && (m.reading == l.reading)) put in
    let q = both (m.number == l.number + 1) (m.reading == l.reading) p.1 in
    let n : m.number ≡ l.number + 1 = (Decides-eqb m.number (l.number + 1)).0 q.0 in
    let r : m.reading ≡ l.reading = (Decides-eqb m.reading l.reading).0 q.1 in
    let e : m.event ≡ Close = close_is m.event p.0 in
    sym (ap (λ k. record { number = k; reading = m.reading; event = m.event }) n
    ∙ ap (λ k. record { number = l.number + 1; reading = k; event = m.event }) r
    ∙ ap (λ k. record { number = l.number + 1; reading = l.reading; event = k }) e)

abbrev tail_of : Line → List Line → List Line
tail_of l [] = if is_close l.event then [] else close_behind l ∷ []
tail_of l (m ∷ ms) = closed_from m ms

shape : (l : Line) (ls : List Line) → closed_from l ls ≡ l ∷ tail_of l ls
shape l [] = refl
shape l (m ∷ ms) = refl

deeper : (l m n : Line) (xs t : List Line) → xs ≡ n ∷ t → lines_before_put (l ∷ m ∷ xs) ≡ l ∷ lines_before_put (m ∷ xs)
deeper l m n xs t is = rw is refl

-- the lines, closed, begin with the first of them, and with these the desk closes them the same
pub record IsBeforePut (l : Line) (ls : List Line) : Type 0 where
  pub mid : List Line
  pub rest : List Line
  pub before : lines_before_put (closed_from l ls) ≡ l ∷ mid
  pub front : ls ≡ mid ++ rest
  pub again : closed_from l mid ≡ closed_from l ls

lone : (l : Line) (t : Bool) → is_close l.event ≡ t → lines_before_put (l ∷ (if t then [] else close_behind l ∷ [])) ≡ l ∷ []
lone l true e = refl
lone l false e = rw (put_so l) refl

-- two lines, of which the first is none that closes
pair : (l m : Line) → is_close l.event ≡ false → (t put : Bool) → is_close m.event ≡ t → is_put_behind l m ≡ put
    → IsBeforePut l (m ∷ [])
pair l m still false put e p = record {
  mid = m ∷ [];
  rest = [];
  before = rw e (deeper l m (close_behind m) (close_behind m ∷ []) [] refl ∙ ap (λ xs. l ∷ xs) (lone_put m));
  front = refl;
  again = refl;
} where
  lone_put : (m : Line) → lines_before_put (m ∷ close_behind m ∷ []) ≡ m ∷ []
  lone_put m = rw (put_so m) refl
pair l m still true true e p = record {
  mid = [];
  rest = m ∷ [];
  before = rw (e, p) refl;
  front = refl;
  again = rw (still, e) (ap (λ x. l ∷ x ∷ []) (so_put l m p));
}
pair l m still true false e p = record {
  mid = m ∷ [];
  rest = [];
  before = rw (e, p) refl;
  front = refl;
  again = refl;
}

pub before_put : (l : Line) (ls : List Line) → OnlyLastCloses (l ∷ ls) → IsBeforePut l ls
before_put l [] only = record {
  mid = [];
  rest = [];
  before = lone l (is_close l.event) refl;
  front = refl;
  again = refl;
}
before_put l (m ∷ []) only = pair l m only.0 (is_close m.event) (is_put_behind l m) refl refl
before_put l (m ∷ n ∷ ns) only =
    let h = before_put m (n ∷ ns) only.1 in record {
      mid = m ∷ h.mid;
      rest = h.rest;
      before = deeper l m n (closed_from n ns) (tail_of n ns) (shape n ns) ∙ ap (λ xs. l ∷ xs) h.before;
      front = ap (λ xs. m ∷ xs) h.front;
      again = ap (λ xs. l ∷ xs) h.again;
    }

-- lines, closed, begin with them
pub closed_begins : (l : Line) (ls : List Line) → (more : List Line) × (closed_from l ls ≡ (l ∷ ls) ++ more)
closed_begins l [] = (if is_close l.event then [] else close_behind l ∷ [], refl)
closed_begins l (m ∷ ms) = let h = closed_begins m ms in (h.0, ap (λ xs. l ∷ xs) h.1)

pub only_first : (xs ys : List Line) → OnlyLastCloses (xs ++ ys) → OnlyLastCloses xs
only_first [] ys h = tt
only_first (x ∷ []) ys h = tt
only_first (x ∷ y ∷ xs) ys h = (h.0, only_first (y ∷ xs) ys h.1)
