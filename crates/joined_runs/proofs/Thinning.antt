-- A run without the close lines between joined volumes and the head lines behind these.
use Rattle.std.specs.Prelude.{◌≡◌, ℕ, ◌+◌, Bool, true, false, List, [], ◌∷◌, ◌++◌, length, map, filter}
use Rattle.std.specs.Prelude.{if◌then◌else◌}
use Rattle.std.proofs.Common.{zero, suc, arith, sym, ◌∙◌, ap, subst, refl}
use Rattle.std.proofs.lemmas.List.{append_assoc}
use Rattle.binding_rules.specs.declared.role.Role.{Role}
use Rattle.binding_rules.specs.Role.{is_side}
use Rattle.journal_lines.specs.declared.event.Event.{Event}
use Rattle.journal_lines.specs.declared.event.Event.TheVariants.{Grant, Release, Send, Close}
use Rattle.journal_lines.specs.declared.line.Line.{Line}
use Rattle.journal_lines.specs.Close.{is_close, until_close}
use Rattle.book_rules.specs.NextHead.{is_head, head_lines}
use Rattle.volume_join.specs.Joined.{unclosed, behind_head, numbered, going_on, joined}
use Rattle.attribution.specs.Volumes.{past_close}
use Rattle.attribution.specs.Run.{Step, lines_of}
use Rattle.attribution.proofs.Places.{side_same}
use Rattle.joined_runs.proofs.Places.{tells, IsSame, same_step, Thins, itself, both, with_step, other_side, without}
use Rattle.joined_runs.proofs.Places.{without_close}
use Rattle.joined_runs.proofs.Lines.{Shut, Shuts, shuts_next, AreNext, beyond, changed_from, until_and_past}

-- a run made of another one, in which the side's lines are these, and its partner's are what they were
pub record Makes (side : Role) (shut less : ℕ) (run : List Step) (lines : List Line) : Type 0 where
  pub new : List Step
  pub thins : Thins side shut less run new
  pub here : lines_of side new ≡ lines
  pub there : (other : Role) → is_side side other ≡ false → lines_of other new ≡ lines_of other run

-- of each run in which a side begins with lines one is made in which it begins with others, and goes on as it did
pub record Can (side : Role) (shut less : ℕ) (old new : List Line) : Type 0 where
  pub fewer : length old ≡ length new + less
  pub make : (run : List Step) (more : List Line) → lines_of side run ≡ old ++ more
      → Makes side shut less run (new ++ more)

lines_mine : (side : Role) (t : Step) (ts : List Step) → is_side side t.side ≡ true
    → lines_of side (t ∷ ts) ≡ t.line ∷ lines_of side ts
lines_mine side t ts e = rw e refl

lines_theirs : (side : Role) (t : Step) (ts : List Step) → is_side side t.side ≡ false
    → lines_of side (t ∷ ts) ≡ lines_of side ts
lines_theirs side t ts e = rw e refl

lines_on : (x : Role) (t : Step) (ss ts : List Step) → lines_of x ss ≡ lines_of x ts
    → lines_of x (t ∷ ss) ≡ lines_of x (t ∷ ts)
lines_on x t ss ts h = by_test (is_side x t.side) where
  by_test : (b : Bool) → map (λ (z : Step). z.line) (if b then t ∷ filter (λ z. is_side x z.side) ss else filter
      (λ z. is_side x z.side) ss)
      ≡ map (λ (z : Step). z.line) (if b then t ∷ filter (λ z. is_side x z.side) ts else filter
      (λ z. is_side x z.side) ts)
  by_test true = ap (λ ls. t.line ∷ ls) h
  by_test false = h

-- a step of the partner in front stays
theirs : (side : Role) (shut less : ℕ) (t : Step) (ts : List Step) (lines : List Line) → is_side side t.side ≡ false
    → Makes side shut less ts lines → Makes side shut less (t ∷ ts) lines
theirs side shut less t ts lines e m = record {
  new = t ∷ m.new;
  thins = with_step side shut less ts m.new m.thins t t (same_step t);
  here = lines_theirs side t m.new e ∙ m.here;
  there = λ other not. lines_on other t m.new ts (m.there other not);
}

-- so what is done with the side's first line is done in each run
abbrev Does : (side : Role) (shut less shut' less' : ℕ) → Line → (lines lines' : List Line) → Type 0
Does side shut less shut' less' l lines lines' = (t : Step) (ts : List Step) → is_side side t.side ≡ true
    → t.line ≡ l → Makes side shut less ts lines → Makes side shut' less' (t ∷ ts) lines'

first : (side : Role) (shut less shut' less' : ℕ) (l : Line) (rest lines lines' : List Line)
    → Does side shut less shut' less' l lines lines'
    → ((ts : List Step) → lines_of side ts ≡ rest → Makes side shut less ts lines)
    → (run : List Step) → lines_of side run ≡ l ∷ rest → Makes side shut' less' run lines'
first side shut less shut' less' l rest lines lines' does on [] h = absurd (cc)
first side shut less shut' less' l rest lines lines' does on (t ∷ ts) h = by_test (is_side side t.side) refl
    (λ g. first side shut less shut' less' l rest lines lines' does on ts g)
  where
    by_test : (b : Bool) → is_side side t.side ≡ b
        → (lines_of side ts ≡ l ∷ rest → Makes side shut' less' ts lines')
        → Makes side shut' less' (t ∷ ts) lines'
    by_test true e later =
        let is : t.line ∷ lines_of side ts ≡ l ∷ rest = sym (lines_mine side t ts e) ∙ h in
        let one : t.line ≡ l = cc in
        let two : lines_of side ts ≡ rest = cc in
        does t ts e one (on ts two)
    by_test false e later = theirs side shut' less' t ts lines' e (later (sym (lines_theirs side t ts e) ∙ h))

module _ (side : Role) where
  pub can_stay : (ls : List Line) → Can side 0 0 ls ls
  can_stay ls = record {
    fewer = omega arith;
    make = λ run more h. record { new = run; thins = itself side run; here = h; there = λ other not. refl };
  }

  pub can_then : (shut less shut' less' : ℕ) (a b c : List Line) → Can side shut less a b → Can side shut' less' b c
      → Can side (shut' + shut) (less' + less) a c
  can_then shut less shut' less' a b c f g = record {
    fewer = (let x = f.fewer in let y = g.fewer in omega arith);
    make = λ run more h. (
        let m = f.make run more h in
        let n = g.make m.new more m.here in
        record {
          new = n.new;
          thins = both side shut less shut' less' run m.new n.new m.thins n.thins;
          here = n.here;
          there = λ other not. n.there other not ∙ m.there other not;
        });
  }

  module _ (shut less : ℕ) (old new : List Line) (can : Can side shut less old new) where
    -- a line stays, and may get another number
    keeps : (l m : Line) → m.reading ≡ l.reading → m.event ≡ l.event → (more : List Line)
        → Does side shut less shut less l (new ++ more) (m ∷ new ++ more)
    keeps l m reading event more t ts mine is r =
        let s = record t { line = m } in
        let same : IsSame s t = record {
          side = refl;
          moment = refl;
          reading = reading ∙ sym (ap (λ (z : Line). z.reading) is);
          event = event ∙ sym (ap (λ (z : Line). z.event) is);
        } in
        let not_there : (x : Role) → is_side side x ≡ false → is_side x t.side ≡ false =
        λ x not. ap (is_side x) (side_same side t.side mine) ∙ other_side side x not in
        record {
          new = s ∷ r.new;
          thins = with_step side shut less ts r.new r.thins s t same;
          here = lines_mine side s r.new mine ∙ ap (λ ls. m ∷ ls) r.here;
          there = λ other not. lines_theirs other s r.new (not_there other not)
              ∙ (r.there other not ∙ sym (lines_theirs other t ts (not_there other not)));
        }

    pub can_keep : (l m : Line) → m.reading ≡ l.reading → m.event ≡ l.event
        → Can side shut less (l ∷ old) (m ∷ new)
    can_keep l m reading event = record {
      fewer = (let x = can.fewer in omega arith);
      make = λ run more h. first side shut less shut less l (old ++ more) (new ++ more) (m ∷ new ++ more)
          (keeps l m reading event more) (λ ts g. can.make ts more g) run h;
    }

    -- a line that nothing stands on is left out
    leaves_out : (t : Step) (ts : List Step) → is_side side t.side ≡ true
        → (other : Role) → is_side side other ≡ false → lines_of other (t ∷ ts) ≡ lines_of other ts
    leaves_out t ts mine other not =
        lines_theirs other t ts (ap (is_side other) (side_same side t.side mine) ∙ other_side side other not)

    drops : (l : Line) → tells l.event ≡ false → is_close l.event ≡ false → (more : List Line)
        → Does side shut less shut (suc less) l (new ++ more) (new ++ more)
    drops l told open_on more t ts mine is r = record {
      new = r.new;
      thins = without side shut less ts r.new r.thins t mine
          (ap (λ (z : Line). tells z.event) is ∙ told) (ap (λ (z : Line). is_close z.event) is ∙ open_on);
      here = r.here;
      there = λ other not. r.there other not ∙ sym (leaves_out t ts mine other not);
    }

    pub can_drop : (l : Line) → tells l.event ≡ false → is_close l.event ≡ false
        → Can side shut (suc less) (l ∷ old) new
    can_drop l told open_on = record {
      fewer = (let x = can.fewer in omega arith);
      make = λ run more h. first side shut less shut (suc less) l (old ++ more) (new ++ more) (new ++ more)
          (drops l told open_on more) (λ ts g. can.make ts more g) run h;
    }

    drops_close : (l : Line) → tells l.event ≡ false → is_close l.event ≡ true → (more : List Line)
        → Does side shut less (suc shut) (suc less) l (new ++ more) (new ++ more)
    drops_close l told shut_on more t ts mine is r = record {
      new = r.new;
      thins = without_close side shut less ts r.new r.thins t mine
          (ap (λ (z : Line). tells z.event) is ∙ told) (ap (λ (z : Line). is_close z.event) is ∙ shut_on);
      here = r.here;
      there = λ other not. r.there other not ∙ sym (leaves_out t ts mine other not);
    }

    pub can_close : (l : Line) → tells l.event ≡ false → is_close l.event ≡ true
        → Can side (suc shut) (suc less) (l ∷ old) new
    can_close l told shut_on = record {
      fewer = (let x = can.fewer in omega arith);
      make = λ run more h. first side shut less (suc shut) (suc less) l (old ++ more) (new ++ more) (new ++ more)
          (drops_close l told shut_on more) (λ ts g. can.make ts more g) run h;
    }

-- ---- lines, one after the other

head_is_quiet : (e : Event) → is_head e ≡ true → (tells e ≡ false) × (is_close e ≡ false)
head_is_quiet (Grant g) h = absurd (cc)
head_is_quiet (Release c i p) h = absurd (cc)
head_is_quiet (Send m) h = absurd (cc)
head_is_quiet Close h = absurd (cc)
head_is_quiet _ h = (refl, refl)

close_is_quiet : (e : Event) → is_close e ≡ true → tells e ≡ false
close_is_quiet (Grant g) h = absurd (cc)
close_is_quiet (Release c i p) h = absurd (cc)
close_is_quiet (Send m) h = absurd (cc)
close_is_quiet _ h = refl

module _ (side : Role) where
  pub can_same : (shut less : ℕ) (front old new : List Line) → Can side shut less old new
      → Can side shut less (front ++ old) (front ++ new)
  can_same shut less [] old new c = c
  can_same shut less (l ∷ ls) old new c =
      can_keep side shut less (ls ++ old) (ls ++ new) (can_same shut less ls old new c) l l refl refl

  can_number : (n : ℕ) (xs rest : List Line) → Can side 0 0 (xs ++ rest) (numbered n xs ++ rest)
  can_number n [] rest = can_stay side rest
  can_number n (x ∷ xs) rest =
      can_keep side 0 0 (xs ++ rest) (numbered (n + 1) xs ++ rest) (can_number (n + 1) xs rest) x
      (record x { number = n }) refl refl

  can_behead : (n : ℕ) (w rest : List Line)
      → Can side 0 (length (head_lines w)) (w ++ rest) (numbered n (behind_head w) ++ rest)
  can_behead n [] rest = can_stay side rest
  can_behead n (l ∷ ls) rest = by_test (is_head l.event) refl (can_behead n ls rest) where
    by_test : (b : Bool) → is_head l.event ≡ b
        → Can side 0 (length (head_lines ls)) (ls ++ rest) (numbered n (behind_head ls) ++ rest)
        → Can side 0 (length (if b then l ∷ head_lines ls else [])) (l ∷ ls ++ rest)
        (numbered n (if b then behind_head ls else l ∷ ls) ++ rest)
    by_test true e c =
        let q = head_is_quiet l.event e in
        can_drop side 0 (length (head_lines ls)) (ls ++ rest) (numbered n (behind_head ls) ++ rest) c l q.0 q.1
    by_test false e c = can_number n (l ∷ ls) rest

  -- one volume more
  junction : (v w rest : List Line) → Shut v
      → Can side 1 (suc (length (head_lines w))) (v ++ (w ++ rest)) (going_on v w ++ rest)
  junction v w rest s =
      let n = length (unclosed v) + 1 in
      let tail = w ++ rest in
      let behind = numbered n (behind_head w) in
      let h = length (head_lines w) in
      let c = can_same 1 (suc h) (unclosed v) (s.close ∷ tail) (behind ++ rest)
      (can_close side 0 h tail (behind ++ rest) (can_behead n w rest) s.close
      (close_is_quiet s.close.event s.shuts) s.shuts) in
      let old : unclosed v ++ (s.close ∷ tail) ≡ v ++ tail =
      sym (ap (λ z. z ++ tail) s.are ∙ append_assoc (unclosed v) (s.close ∷ []) tail) in
      let new : unclosed v ++ (behind ++ rest) ≡ going_on v w ++ rest = sym (append_assoc (unclosed v) behind rest) in
      subst (λ z. Can side 1 (suc h) z (going_on v w ++ rest)) old
      (subst (λ z. Can side 1 (suc h) (unclosed v ++ (s.close ∷ tail)) z) new c)

  -- and all of them
  pub can_join : (ws : List (List Line)) (v ls : List Line) → Shuts v ws → AreNext ws ls
      → (less : ℕ) × Can side (length ws) less (v ++ ls) (joined v ws ++ beyond (length ws) ls)
  can_join [] v ls shuts next = (0, can_stay side (v ++ ls))
  can_join (w ∷ ws) v ls shuts next =
      let k = suc (length (head_lines w)) in
      let rest = past_close ls in
      let later = can_join ws (going_on v w) rest (shuts_next v w ws shuts) next.1 in
      let are : w ++ rest ≡ ls = ap (λ z. z ++ rest) next.0 ∙ until_and_past ls in
      let c = can_then side 1 k (length ws) later.0 (v ++ (w ++ rest)) (going_on v w ++ rest)
      (joined (going_on v w) ws ++ beyond (length ws) rest) (junction v w rest shuts.0) later.1 in
      let n : length ws + 1 ≡ suc (length ws) = omega arith in (
        later.0 + k,
        subst (λ z. Can side z (later.0 + k) (v ++ ls)
            (joined (going_on v w) ws ++ beyond (length ws) rest)) n
            (subst (λ z. Can side (length ws + 1) (later.0 + k) (v ++ z)
            (joined (going_on v w) ws ++ beyond (length ws) rest)) are c),
      )

  pub can_change : (shut less index : ℕ) (ls x : List Line) → Can side shut less (beyond index ls) x
      → Can side shut less ls (changed_from index x ls)
  can_change shut less zero ls x c = c
  can_change shut less (suc n) ls x c =
      subst (λ z. Can side shut less z (until_close ls ++ changed_from n x (past_close ls))) (until_and_past ls)
      (can_same shut less (until_close ls) (past_close ls) (changed_from n x (past_close ls))
      (can_change shut less n (past_close ls) x c))
