-- Volumes of one side as lines: where they close, and how what they are together closes and begins.
use Rattle.std.specs.Prelude.{◌≡◌, ℕ, ◌+◌, ◌⊎◌, ⊤, Bool, true, false, List, [], ◌∷◌, ◌++◌, length, if◌then◌else◌}
use Rattle.std.proofs.Common.{zero, suc, sym, ◌∙◌, ap, subst, inl, inr, refl}
use Rattle.std.proofs.lemmas.List.{append_assoc, append-nil}
use Rattle.journal_lines.specs.declared.event.Event.{Event}
use Rattle.journal_lines.specs.declared.event.Event.TheVariants.{Close}
use Rattle.journal_lines.specs.declared.line.Line.{Line}
use Rattle.journal_lines.specs.Close.{is_close, until_close}
use Rattle.book_rules.specs.NextHead.{is_head, head_lines}
use Rattle.volume_join.specs.Joined.{unclosed, behind_head, numbered, going_on, joined}
use Rattle.attribution.specs.Volumes.{past_close}

-- none of the lines closes
abbrev pub NoClose : List Line → Type 0
NoClose [] = ⊤
NoClose (l ∷ ls) = (is_close l.event ≡ false) × NoClose ls

pub none_unclosed : (ls : List Line) → NoClose (unclosed ls)
none_unclosed [] = tt
none_unclosed (l ∷ ls) = by_test (is_close l.event) refl (none_unclosed ls) where
  by_test : (b : Bool) → is_close l.event ≡ b → NoClose (unclosed ls) → NoClose (if b then [] else l ∷ unclosed ls)
  by_test true e h = tt
  by_test false e h = (e, h)

none_both : (xs ys : List Line) → NoClose xs → NoClose ys → NoClose (xs ++ ys)
none_both [] ys a b = b
none_both (x ∷ xs) ys a b = (a.0, none_both xs ys a.1 b)

none_numbered : (n : ℕ) (xs : List Line) → NoClose xs → NoClose (numbered n xs)
none_numbered n [] a = tt
none_numbered n (x ∷ xs) a = (a.0, none_numbered (n + 1) xs a.1)

none_behind : (xs : List Line) → NoClose xs → NoClose (behind_head xs)
none_behind [] a = tt
none_behind (x ∷ xs) a = by_test (is_head x.event) (none_behind xs a.1) where
  by_test : (b : Bool) → NoClose (behind_head xs) → NoClose (if b then behind_head xs else x ∷ xs)
  by_test true h = h
  by_test false h = a

pub unclosed_of : (xs : List Line) (c : Line) → NoClose xs → is_close c.event ≡ true → unclosed (xs ++ c ∷ []) ≡ xs
unclosed_of [] c a e = rw e refl
unclosed_of (x ∷ xs) c a e = let h = unclosed_of xs c a.1 e in rw a.0 (ap (λ ls. x ∷ ls) h)

unclosed_all : (xs : List Line) → NoClose xs → unclosed xs ≡ xs
unclosed_all [] a = refl
unclosed_all (x ∷ xs) a = let h = unclosed_all xs a.1 in rw a.0 (ap (λ ls. x ∷ ls) h)

pub until_of : (xs : List Line) (c : Line) (ys : List Line) → NoClose xs → is_close c.event ≡ true
    → until_close (xs ++ c ∷ ys) ≡ xs ++ c ∷ []
until_of [] c ys a e = rw e refl
until_of (x ∷ xs) c ys a e = let h = until_of xs c ys a.1 e in rw a.0 (ap (λ ls. x ∷ ls) h)

pub past_of : (xs : List Line) (c : Line) (ys : List Line) → NoClose xs → is_close c.event ≡ true
    → past_close (xs ++ c ∷ ys) ≡ ys
past_of [] c ys a e = rw e refl
past_of (x ∷ xs) c ys a e = let h = past_of xs c ys a.1 e in rw a.0 h

until_all : (xs : List Line) → NoClose xs → until_close xs ≡ xs
until_all [] a = refl
until_all (x ∷ xs) a = let h = until_all xs a.1 in rw a.0 (ap (λ ls. x ∷ ls) h)

pub until_and_past : (ls : List Line) → until_close ls ++ past_close ls ≡ ls
until_and_past [] = refl
until_and_past (l ∷ ls) = by_test (is_close l.event) (until_and_past ls) where
  by_test : (b : Bool) → until_close ls ++ past_close ls ≡ ls
      → (if b then l ∷ [] else l ∷ until_close ls) ++ (if b then ls else past_close ls) ≡ l ∷ ls
  by_test true h = refl
  by_test false h = ap (λ xs. l ∷ xs) h

pub close_is : (e : Event) → is_close e ≡ true → e ≡ Close
close_is Close h = refl
close_is _ h = absurd (cc)

close_no_head : (e : Event) → is_close e ≡ true → is_head e ≡ false
close_no_head e h = ap is_head (close_is e h)

-- ---- lines that end with a close line, their only one

pub record Shut (ls : List Line) : Type 0 where
  pub close : Line
  pub are : ls ≡ unclosed ls ++ close ∷ []
  pub shuts : is_close close.event ≡ true

shut_from : (ls xs : List Line) (c : Line) → ls ≡ xs ++ c ∷ [] → NoClose xs → is_close c.event ≡ true → Shut ls
shut_from ls xs c are none e = record {
  close = c;
  are =
      let u : unclosed ls ≡ xs = ap unclosed are ∙ unclosed_of xs c none e in
      are ∙ ap (λ z. z ++ c ∷ []) (sym u);
  shuts = e;
}

behind_last : (xs : List Line) (c : Line) → is_close c.event ≡ true → behind_head (xs ++ c ∷ [])
    ≡ behind_head xs ++ c ∷ []
behind_last [] c e = let h = close_no_head c.event e in rw h refl
behind_last (x ∷ xs) c e = by_test (is_head x.event) (behind_last xs c e) where
  by_test : (b : Bool) → behind_head (xs ++ c ∷ []) ≡ behind_head xs ++ c ∷ []
      → (if b then behind_head (xs ++ c ∷ []) else x ∷ xs ++ c ∷ [])
      ≡ (if b then behind_head xs else x ∷ xs) ++ c ∷ []
  by_test true h = h
  by_test false h = refl

numbered_last : (n : ℕ) (xs : List Line) (c : Line)
    → (k : ℕ) × (numbered n (xs ++ c ∷ []) ≡ numbered n xs ++ record c { number = k } ∷ [])
numbered_last n [] c = (n, refl)
numbered_last n (x ∷ xs) c = let h = numbered_last (n + 1) xs c in
    (h.0, ap (λ ls. record x { number = n } ∷ ls) h.1)

-- a journal that goes on with a volume closes as that does
pub shut_on : (v w : List Line) → Shut w → Shut (going_on v w)
shut_on v w s =
    let n = length (unclosed v) + 1 in
    let b = ap behind_head s.are ∙ behind_last (unclosed w) s.close s.shuts in
    let k = numbered_last n (behind_head (unclosed w)) s.close in
    let c = record s.close { number = k.0 } in
    let xs = unclosed v ++ numbered n (behind_head (unclosed w)) in
    let none = none_both (unclosed v) (numbered n (behind_head (unclosed w))) (none_unclosed v)
    (none_numbered n (behind_head (unclosed w)) (none_behind (unclosed w) (none_unclosed w))) in
    let are : going_on v w ≡ xs ++ c ∷ [] = ap (λ z. unclosed v ++ numbered n z) b
    ∙ (ap (λ z. unclosed v ++ z) k.1
    ∙ sym (append_assoc (unclosed v) (numbered n (behind_head (unclosed w))) (c ∷ []))) in
    shut_from (going_on v w) xs c are none s.shuts

-- lines end with their only close line, or have none and nothing stands behind them
abbrev pub Ends : List Line → List Line → Type 0
Ends ls rest = Shut ls ⊎ (NoClose ls × (rest ≡ []))

pub ends_until : (ls : List Line) → Ends (until_close ls) (past_close ls)
ends_until [] = inr (tt, refl)
ends_until (l ∷ ls) = by_test (is_close l.event) refl (ends_until ls) where
  more : is_close l.event ≡ false → Ends (until_close ls) (past_close ls) → Ends (l ∷ until_close ls) (past_close ls)
  more e (inl s) = inl (shut_from (l ∷ until_close ls) (l ∷ unclosed (until_close ls)) s.close
      (ap (λ z. l ∷ z) s.are) (e, none_unclosed (until_close ls)) s.shuts)
  more e (inr n) = inr ((e, n.0), n.1)

  by_test : (b : Bool) → is_close l.event ≡ b → Ends (until_close ls) (past_close ls)
      → Ends (if b then l ∷ [] else l ∷ until_close ls) (if b then ls else past_close ls)
  by_test true e h = inl (shut_from (l ∷ []) [] l refl tt e)
  by_test false e h = more e h

pub until_ends : (ls rest : List Line) → Ends ls rest → until_close (ls ++ rest) ≡ ls
until_ends ls rest (inl s) =
    ap (λ z. until_close (z ++ rest)) s.are
    ∙ (ap until_close (append_assoc (unclosed ls) (s.close ∷ []) rest)
    ∙ (until_of (unclosed ls) s.close rest (none_unclosed ls) s.shuts ∙ sym s.are))
until_ends ls rest (inr n) = ap (λ z. until_close (ls ++ z)) n.1
    ∙ (ap until_close (append-nil ls) ∙ until_all ls n.0)

ends_going : (v w rest : List Line) → Ends w rest → Ends (going_on v w) rest
ends_going v w rest (inl s) = inl (shut_on v w s)
ends_going v w rest (inr n) =
    inr (
      none_both (unclosed v) (numbered (length (unclosed v) + 1) (behind_head w)) (none_unclosed v)
          (none_numbered (length (unclosed v) + 1) (behind_head w) (none_behind w n.0)),
      n.1,
    )

-- ---- the first line of what stands behind a head is none of a head, nor is a close line

head_past : (n : ℕ) (w : List Line) → head_lines (numbered n (behind_head w)) ≡ []
head_past n [] = refl
head_past n (l ∷ ls) = by_test (is_head l.event) refl (head_past n ls) where
  by_test : (b : Bool) → is_head l.event ≡ b → head_lines (numbered n (behind_head ls)) ≡ []
      → head_lines (numbered n (if b then behind_head ls else l ∷ ls)) ≡ []
  by_test true e h = h
  by_test false e h = rw e refl

-- what stands behind lines is of their head only where all of these are
head_same : (xs ys zs : List Line) → head_lines ys ≡ [] → head_lines zs ≡ []
    → head_lines (xs ++ ys) ≡ head_lines (xs ++ zs)
head_same [] ys zs a b = a ∙ sym b
head_same (x ∷ xs) ys zs a b = by_test (is_head x.event) (head_same xs ys zs a b) where
  by_test : (t : Bool) → head_lines (xs ++ ys) ≡ head_lines (xs ++ zs)
      → (if t then x ∷ head_lines (xs ++ ys) else []) ≡ (if t then x ∷ head_lines (xs ++ zs) else [])
  by_test true h = ap (λ z. x ∷ z) h
  by_test false h = refl

head_going : (v w : List Line) → Shut v → head_lines (going_on v w) ≡ head_lines v
head_going v w s =
    let none : head_lines (s.close ∷ []) ≡ [] = (let h = close_no_head s.close.event s.shuts in rw h refl) in
    head_same (unclosed v) (numbered (length (unclosed v) + 1) (behind_head w)) (s.close ∷ [])
    (head_past (length (unclosed v) + 1) w) none
    ∙ ap head_lines (sym s.are)

-- ---- volumes, each behind the one before

-- all but the last end with a close line
abbrev pub Shuts : List Line → List (List Line) → Type 0
Shuts v [] = ⊤
Shuts v (w ∷ ws) = Shut v × Shuts w ws

-- these are the first volumes of a side's lines
abbrev pub AreNext : List (List Line) → List Line → Type 0
AreNext [] ls = ⊤
AreNext (w ∷ ws) ls = (w ≡ until_close ls) × AreNext ws (past_close ls)

-- the lines behind so many volumes
abbrev pub beyond : ℕ → List Line → List Line
beyond zero ls = ls
beyond (suc n) ls = beyond n (past_close ls)

shuts_on : (v w : List Line) (ws : List (List Line)) → Shuts w ws → Shuts (going_on v w) ws
shuts_on v w [] h = tt
shuts_on v w (x ∷ xs) h = (shut_on v w h.0, h.1)

pub shuts_next : (v w : List Line) (ws : List (List Line)) → Shuts v (w ∷ ws) → Shuts (going_on v w) ws
shuts_next v w ws h = shuts_on v w ws h.1

pub ends_joined : (ws : List (List Line)) (v ls : List Line) → AreNext ws ls → Ends v ls
    → Ends (joined v ws) (beyond (length ws) ls)
ends_joined [] v ls next h = h
ends_joined (w ∷ ws) v ls next h =
    ends_joined ws (going_on v w) (past_close ls) next.1
    (ends_going v w (past_close ls) (subst (λ z. Ends z (past_close ls)) (sym next.0) (ends_until ls)))

pub head_joined : (ws : List (List Line)) (v : List Line) → Shuts v ws → head_lines (joined v ws) ≡ head_lines v
head_joined [] v h = refl
head_joined (w ∷ ws) v h = head_joined ws (going_on v w) (shuts_on v w ws h.1) ∙ head_going v w h.0

-- lines whose volume at an index, and all behind it, is other lines
abbrev pub changed_from : ℕ → List Line → List Line → List Line
changed_from zero x ls = x
changed_from (suc n) x ls = until_close ls ++ changed_from n x (past_close ls)
