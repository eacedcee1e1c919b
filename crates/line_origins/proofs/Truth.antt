-- That the line which an origin names is the joined one.
use Rattle.std.specs.Prelude.{◌≡◌, ℕ, ◌+◌, ◌-◌, ◌<◌, ◌≤◌, ◌&&◌, Bool, true, false, List, [], ◌∷◌, ◌++◌, length, map}
use Rattle.std.specs.Prelude.{Some, slice_get, nat_lt, if◌then◌else◌}
use Rattle.std.proofs.Common.{zero, suc, arith, sym, ◌∙◌, ap, subst, refl, inl, inr}
use Rattle.std.proofs.lemmas.Bool.{cases_lt, lt-ltb, le-leb, lt-leb}
use Rattle.std.proofs.lemmas.Option.{slice_get_within}
use Rattle.std.proofs.lemmas.List.Elements.{Contains-append_right}
use Rattle.journal_lines.specs.declared.line.Line.{Line}
use Rattle.journal_lines.specs.Close.{is_close}
use Rattle.book_rules.specs.NextHead.{head_lines}
use Rattle.volume_join.specs.Joined.{unclosed, behind_head, numbered, going_on}
use Rattle.volume_join.specs.Joining.{Joining, one, with_next}
use Rattle.volume_join.proofs.Counts.{length_going}
use Rattle.volume_join.proofs.Cuts.{head_and_behind}
use Rattle.joined_runs.specs.PutTogether.{with_all}
use Rattle.volume_spans.specs.declared.reading.ReadVolume.{ReadVolume}
use Rattle.volume_spans.specs.Reading.{journal_in}
use Rattle.line_origins.specs.declared.parts.VolumePart.{VolumePart}
use Rattle.line_origins.specs.declared.finding.LineOrigin.{LineOrigin}
use Rattle.line_origins.specs.Parts.{lines_in, whole_part, next_part, parts_from, has_line, origin_at, origin_in}
use Rattle.line_origins.specs.Laws.{IsOriginOf, OriginsAreTrue}
use Rattle.line_origins.proofs.Fitting.{open_going}
use Rattle.line_origins.proofs.Stepping.{has_first, has_later}

-- ---- lines by their places

get_before : (xs ys : List Line) (k : ℕ) → k < length xs → slice_get (xs ++ ys) k ≡ slice_get xs k
get_before [] ys k lt = absurd (omega arith)
get_before (x ∷ xs) ys zero lt = refl
get_before (x ∷ xs) ys (suc k) lt = get_before xs ys k (omega arith)

get_behind : (xs ys : List Line) (k : ℕ) → slice_get (xs ++ ys) (length xs + k) ≡ slice_get ys k
get_behind [] ys k = let e : k ≡ 0 + k = omega arith in
    subst (λ n. slice_get ys n ≡ slice_get ys k) e refl
get_behind (x ∷ xs) ys k =
    let e : suc (length xs + k) ≡ length (x ∷ xs) + k = omega arith in
    subst (λ n. slice_get (x ∷ (xs ++ ys)) n ≡ slice_get ys k) e (get_behind xs ys k)

get_open : (ls : List Line) (k : ℕ) → k < length (unclosed ls) → slice_get (unclosed ls) k ≡ slice_get ls k
get_open [] k lt = absurd (omega arith)
get_open (l ∷ ls) k lt = by_test (is_close l.event) k (get_open ls) lt where
  by_test : (t : Bool) (i : ℕ) → ((n : ℕ) → n < length (unclosed ls) → slice_get (unclosed ls) n ≡ slice_get ls n)
      → i < length (if t then [] else l ∷ unclosed ls)
      → slice_get (if t then [] else l ∷ unclosed ls) i ≡ slice_get (l ∷ ls) i
  by_test true i h lt = absurd (omega arith)
  by_test false zero h lt = refl
  by_test false (suc i) h lt = h i (omega arith)

get_head : (ls : List Line) (k : ℕ) → slice_get (behind_head ls) k ≡ slice_get ls (length (head_lines ls) + k)
get_head ls k =
    sym (get_behind (head_lines ls) (behind_head ls) k)
    ∙ ap (λ (xs : List Line). slice_get xs (length (head_lines ls) + k)) (sym (head_and_behind ls))

-- a line of a volume, and the joined one, which is the same but for its number
record IsNumberedOn (ls : List Line) (index : ℕ) (l : Line) : Type 0 where
  own : Line
  there : slice_get ls index ≡ Some own
  same : l ≡ record own { number = l.number }

get_numbered : (n : ℕ) (ls : List Line) (k : ℕ) (l : Line) → slice_get (numbered n ls) k ≡ Some l
    → IsNumberedOn ls k l
get_numbered n [] k l h = absurd (cc)
get_numbered n (x ∷ xs) zero l h =
    let e : record x { number = n } ≡ l = cc in record {
      own = x;
      there = refl;
      same = subst (λ (y : Line). y ≡ record x { number = y.number }) e refl;
    }
get_numbered n (x ∷ xs) (suc k) l h =
    let f = get_numbered (n + 1) xs k l h in record { own = f.own; there = f.there; same = f.same }

-- what stands before the close line stays where it is
stays_next : (j : Joining) (r : ReadVolume) (k : ℕ) → k < length (unclosed j.lines)
    → slice_get (going_on j.lines (lines_in r)) k ≡ slice_get j.lines k
stays_next j r k lt = get_before (unclosed j.lines) _ k lt ∙ get_open j.lines k lt

stays : (j : Joining) (rs : List ReadVolume) (k : ℕ) → k < length (unclosed j.lines)
    → slice_get (with_all j (map journal_in rs)).lines k ≡ slice_get j.lines k
stays j [] k lt = refl
stays j (r ∷ rs) k lt =
    let e = open_going j.lines (lines_in r) in
    stays (with_next j (journal_in r)) rs k (omega arith) ∙ stays_next j r k lt

-- ---- parts of volumes

has_it : (p : VolumePart) (k : ℕ) → p.before ≤ k → k < p.until → has_line p (k + 1) ≡ true
has_it p k from lt = rw (lt-ltb p.before (k + 1) (omega arith), le-leb (k + 1) p.until (omega arith)) refl

has_none : (p : VolumePart) (k : ℕ) → p.until ≤ k → has_line p (k + 1) ≡ false
has_none p k past = rw (lt-leb (k + 1) p.until (omega arith)) (none (nat_lt p.before (k + 1))) where
  none : (b : Bool) → (b && false) ≡ false
  none true = refl
  none false = refl

-- the joined lines from here on are this volume's
record IsPart (r : ReadVolume) (p : VolumePart) (lines : List Line) : Type 0 where
  volume : p.volume ≡ r.filed.outline.number
  end : p.until ≡ length lines
  each : (k : ℕ) (l : Line) → p.before ≤ k → slice_get lines k ≡ Some l
      → IsNumberedOn (lines_in r) (p.head + (k - p.before)) l

whole_is : (r : ReadVolume) → IsPart r (whole_part r) (lines_in r)
whole_is r = record {
  volume = refl;
  end = refl;
  each = λ k l from at. (let e : k ≡ 0 + (k - 0) = omega arith in record {
    own = l;
    there = subst (λ n. slice_get (lines_in r) n ≡ Some l) e at;
    same = refl;
  });
}

next_is : (j : Joining) (r : ReadVolume)
    → IsPart r (next_part (length (unclosed j.lines)) r) (going_on j.lines (lines_in r))
next_is j r = record {
  volume = refl;
  end = sym (length_going j.lines (lines_in r));
  each = λ k l from at. (
      let n = length (unclosed j.lines) in
      let e : k ≡ n + (k - n) = omega arith in
      let there : slice_get (going_on j.lines (lines_in r)) (n + (k - n)) ≡ Some l =
      subst (λ i. slice_get (going_on j.lines (lines_in r)) i ≡ Some l) e at in
      let on = get_numbered (n + 1) (behind_head (lines_in r)) (k - n) l
      (sym (get_behind (unclosed j.lines) (numbered (n + 1) (behind_head (lines_in r))) (k - n)) ∙ there) in
      record { own = on.own; there = sym (get_head (lines_in r) (k - n)) ∙ on.there; same = on.same });
}

-- a line has a true origin in these volumes
record IsFound (rs : List ReadVolume) (ps : List VolumePart) (k : ℕ) (l : Line) : Type 0 where
  origin : LineOrigin
  is : origin_in ps (k + 1) ≡ Some origin
  true_of : IsOriginOf rs l origin

-- in the first of them, up to where its part ends
found_here : (r : ReadVolume) (rs : List ReadVolume) (p : VolumePart) (n : ℕ) (ps : List VolumePart) (lines : List Line)
    → IsPart r p lines → (k : ℕ) (l : Line) → p.before ≤ k → k < n → slice_get lines k ≡ Some l
    → IsFound (r ∷ rs) (record p { until = n } ∷ ps) k l
found_here r rs p n ps lines part k l from lt at =
    let on = part.each k l from at in record {
      origin = origin_at (record p { until = n }) (k + 1);
      is = has_first (record p { until = n }) ps (k + 1) (has_it (record p { until = n }) k from lt);
      true_of = record {
        read = r;
        has = (0, omega arith, refl);
        volume = part.volume;
        index = p.head + (k - p.before);
        line = omega arith;
        own = on.own;
        there = on.there;
        same = on.same;
      };
    }

-- in a later one
found_later : (r : ReadVolume) (rs : List ReadVolume) (p : VolumePart) (ps : List VolumePart) (k : ℕ) (l : Line)
    → p.until ≤ k → IsFound rs ps k l → IsFound (r ∷ rs) (p ∷ ps) k l
found_later r rs p ps k l past f = record {
  origin = f.origin;
  is = has_later p ps (k + 1) (has_none p k past) ∙ f.is;
  true_of = record {
    read = f.true_of.read;
    has = Contains-append_right (r ∷ []) rs f.true_of.read f.true_of.has;
    volume = f.true_of.volume;
    index = f.true_of.index;
    line = f.true_of.line;
    own = f.true_of.own;
    there = f.true_of.there;
    same = f.true_of.same;
  };
}

found : (r : ReadVolume) (p : VolumePart) (j : Joining) (rs : List ReadVolume) → IsPart r p j.lines
    → (k : ℕ) (l : Line) → p.before ≤ k → slice_get (with_all j (map journal_in rs)).lines k ≡ Some l
    → IsFound (r ∷ rs) (parts_from p (length (unclosed j.lines)) rs) k l
found r p j [] part k l from at =
    let within = slice_get_within j.lines k l at in
    let end = part.end in
    found_here r [] p p.until [] j.lines part k l from (omega arith) at
found r p j (s ∷ rs) part k l from at = elim (cases_lt k (length (unclosed j.lines))) [
  | inl lt ↦ found_here r (s ∷ rs) p (length (unclosed j.lines)) _ j.lines part k l from lt
      (sym (stays j (s ∷ rs) k lt) ∙ at)
  | inr ge ↦ found_later r (s ∷ rs) (record p { until = length (unclosed j.lines) }) _ k l ge
      (subst (λ n. IsFound (s ∷ rs) (parts_from (next_part (length (unclosed j.lines)) s) n rs) k l)
      (open_going j.lines (lines_in s))
      (found s (next_part (length (unclosed j.lines)) s) (with_next j (journal_in s)) rs (next_is j s) k l ge at))
]

pub origins_are_true : OriginsAreTrue
origins_are_true [] j is index l at = absurd is
origins_are_true (r ∷ []) j is index l at =
    let f = found r (whole_part r) (one (journal_in r)) [] (whole_is r) index l (omega arith)
    (ap (λ i. slice_get i.lines index) (sym is) ∙ at) in
    (f.origin, f.is, f.true_of)
origins_are_true (r ∷ s ∷ rs) j is index l at =
    let f = found r (whole_part r) (one (journal_in r)) (s ∷ rs) (whole_is r) index l (omega arith)
    (ap (λ i. slice_get i.lines index) (sym is.1) ∙ at) in
    (f.origin, f.is, f.true_of)
