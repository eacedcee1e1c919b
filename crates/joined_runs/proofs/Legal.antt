-- A side's volumes up to the one that the joined ones are are legal, where the volumes were.
use Rattle.std.specs.Prelude.{◌≡◌, ℕ, ◌+◌, ◌≤◌, true, false, List, [], ◌∷◌, ◌++◌, Some, slice_get}
use Rattle.std.specs.Prelude.{length}
use Rattle.std.proofs.Common.{zero, suc, arith, sym, ◌∙◌, ap, subst, inl, inr, refl}
use Rattle.std.proofs.lemmas.List.{append_assoc}
use Rattle.binding_rules.specs.declared.role.Role.{Role}
use Rattle.journal_lines.specs.declared.event.Event.TheVariants.{Close}
use Rattle.journal_lines.specs.declared.line.Line.{Line}
use Rattle.journal_lines.specs.Close.{is_close, until_close}
use Rattle.book_state.specs.Book.{BookState, blank}
use Rattle.book_state.specs.Effects.{after}
use Rattle.book_rules.specs.Volumes.{IsVolume, book_after}
use Rattle.book_rules.specs.NextHead.{AreNextHead, Follows, AreVolumes, head_lines}
use Rattle.volume_join.specs.Joined.{unclosed, going_on, joined}
use Rattle.volume_join.specs.Laws.{HaveRoom, JoinedIsLegal}
use Rattle.attribution.specs.Volumes.{past_close, volume_at, volumes_in}
use Rattle.joined_runs.specs.Volumes.{SideVolumes, last_lines}
use Rattle.joined_runs.specs.Left.{AreVolumesFrom}
use Rattle.joined_runs.proofs.Lines.{close_is, NoClose, none_unclosed, past_of, Shut, shut_on, Ends, ends_until}
use Rattle.joined_runs.proofs.Lines.{until_ends}
use Rattle.joined_runs.proofs.Lines.{Shuts, AreNext, beyond, ends_joined, head_joined, changed_from}

-- ---- a volume that another follows is closed

closed_none : (ls : List Line) (b : BookState) → NoClose ls → b.closed ≡ false → (book_after b ls).closed ≡ false
closed_none [] b none h = h
closed_none (l ∷ ls) b none h = closed_none ls (after b l) none.1 none.0

shut_when : (side : Role) (number : ℕ) (ls : List Line)
    → (book_after (blank side number) (until_close ls)).closed ≡ true → Shut (until_close ls)
shut_when side number ls h = elim (ends_until ls) [
  | inl s ↦ s
  | inr n ↦ (let f = closed_none (until_close ls) (blank side number) n.0 refl in absurd (cc))
]

pub shuts_of : (side : Role) (number : ℕ) (ws : List (List Line)) (ls : List Line)
    → AreVolumes side number (volumes_in (suc (length ws)) ls) → AreNext ws (past_close ls)
    → Shuts (until_close ls) ws
shuts_of side number [] ls volumes next = tt
shuts_of side number (w ∷ ws) ls volumes next = (
  shut_when side number ls volumes.1.rolls.closed,
  subst (λ z. Shuts z ws) (sym next.0) (shuts_of side (number + 1) ws (past_close ls) volumes.2 next.1),
)

past_shut : (v rest : List Line) → Shut v → past_close (v ++ rest) ≡ rest
past_shut v rest s =
    ap (λ z. past_close (z ++ rest)) s.are
    ∙ (ap past_close (append_assoc (unclosed v) (s.close ∷ []) rest)
    ∙ past_of (unclosed v) s.close rest (none_unclosed v) s.shuts)

volumes_next : (ws : List (List Line)) (ls : List Line) → AreNext ws ls → volumes_in (length ws) ls ≡ ws
volumes_next [] ls next = refl
volumes_next (w ∷ ws) ls next =
    ap (λ z. z ∷ volumes_in (length ws) (past_close ls)) (sym next.0)
    ∙ ap (λ z. w ∷ z) (volumes_next ws (past_close ls) next.1)

-- ---- up to the joined one

-- Volumes up to the one at an index are legal, that one is the joined ones, and the first of them begins as it did; of
-- the joined ones all but the last are closed.
pub record AreChanged (side : Role) (number index : ℕ) (v : List Line) (ws : List (List Line)) (x ls : List Line) :
    Type 0 where
  pub legal : AreVolumes side number (volumes_in (suc index) (changed_from index x ls))
  pub heads : head_lines (until_close (changed_from index x ls)) ≡ head_lines (until_close ls)
  pub there : volume_at index (changed_from index x ls) ≡ joined v ws
  pub shuts : Shuts v ws

module _ (law : JoinedIsLegal) (side : Role) (v : List Line) (ws : List (List Line)) (room : HaveRoom v ws) where
  -- the lines that they are together, and what stands behind them
  abbrev pub from_joined : List Line → List Line
  from_joined ls = joined v ws ++ beyond (length ws) (past_close ls)

  first_changed : (number : ℕ) (ls : List Line) → 1 ≤ number → v ≡ until_close ls → AreNext ws (past_close ls)
      → AreVolumes side number (volumes_in (suc (length ws)) ls)
      → AreChanged side number zero v ws (from_joined ls) ls
  first_changed number ls some is next volumes =
      let ends : Ends v (past_close ls) = subst (λ z. Ends z (past_close ls)) (sym is) (ends_until ls) in
      let e : until_close (from_joined ls) ≡ joined v ws =
      until_ends (joined v ws) (beyond (length ws) (past_close ls)) (ends_joined ws v (past_close ls) next ends) in
      let are : until_close ls ∷ volumes_in (length ws) (past_close ls) ≡ v ∷ ws =
      ap (λ z. z ∷ volumes_in (length ws) (past_close ls)) (sym is)
      ∙ ap (λ z. v ∷ z) (volumes_next ws (past_close ls) next) in
      let legal = (law side number v ws some (subst (AreVolumes side number) are volumes) room).0 in
      let shuts : Shuts v ws = subst (λ z. Shuts z ws) (sym is) (shuts_of side number ws ls volumes next) in
      record {
        legal = subst (IsVolume side number) (sym e) legal;
        heads = ap head_lines e ∙ (head_joined ws v shuts ∙ ap head_lines is);
        there = e;
        shuts = shuts;
      }

  pub changed : (index number : ℕ) (ls : List Line) → 1 ≤ number → v ≡ until_close (beyond index ls)
      → AreNext ws (past_close (beyond index ls))
      → AreVolumes side number (volumes_in (suc (index + length ws)) ls)
      → AreChanged side number index v ws (from_joined (beyond index ls)) ls
  changed zero number ls some is next volumes =
      let n : 0 + length ws ≡ length ws = omega arith in
      first_changed number ls some is next
      (subst (λ z. AreVolumes side number (volumes_in (suc z) ls)) n volumes)
  changed (suc index) number ls some is next volumes =
      let n : suc index + length ws ≡ suc (index + length ws) = omega arith in
      let rest = past_close ls in
      let all = subst (λ z. AreVolumes side number (until_close ls ∷ volumes_in z rest)) n volumes in
      let x = from_joined (beyond index rest) in
      let r = changed index (number + 1) rest (omega arith) is next all.2 in
      let new = changed_from index x rest in
      let s : Shut (until_close ls) = shut_when side number ls all.1.rolls.closed in
      let u : until_close (until_close ls ++ new) ≡ until_close ls = until_ends (until_close ls) new (inl s) in
      let q : past_close (until_close ls ++ new) ≡ new = past_shut (until_close ls) new s in
      let f : Follows side number (until_close ls) (until_close new) =
      subst (λ head. AreNextHead (book_after (blank side number) (until_close ls)) (until_close ls) head)
      (sym r.heads) all.1 in
      let both : IsVolume side number (until_close ls) × Follows side number (until_close ls) (until_close new)
      × AreVolumes side (number + 1) (volumes_in (suc index) new) = (all.0, f, r.legal) in
      record {
        legal =
            subst (λ w. IsVolume side number w
            × Follows side number w (until_close (past_close (until_close ls ++ new)))
            × AreVolumes side (number + 1) (volumes_in (suc index) (past_close (until_close ls ++ new)))) (sym u)
            (subst (λ z. IsVolume side number (until_close ls)
            × Follows side number (until_close ls) (until_close z)
            × AreVolumes side (number + 1) (volumes_in (suc index) z)) (sym q) both);
        heads = ap head_lines u;
        there = ap (volume_at index) q ∙ r.there;
        shuts = r.shuts;
      }

-- ---- what a run leaves, cut at the same places

volume_beyond : (index n : ℕ) (ls : List Line) → volume_at (index + n) ls ≡ volume_at n (beyond index ls)
volume_beyond zero n ls = let e : 0 + n ≡ n = omega arith in ap (λ z. volume_at z ls) e
volume_beyond (suc index) n ls =
    let e : suc index + n ≡ suc (index + n) = omega arith in
    ap (λ z. volume_at z ls) e ∙ volume_beyond index n (past_close ls)

next_of : (ws : List (List Line)) (ls : List Line)
    → ((n : ℕ) (w : List Line) → slice_get ws n ≡ Some w → w ≡ volume_at n ls) → AreNext ws ls
next_of [] ls each = tt
next_of (w ∷ ws) ls each = (each 0 w refl, next_of ws (past_close ls) (λ n u h. each (suc n) u h))

pub cut_there : (index : ℕ) (ls : List Line) (v : SideVolumes) → AreVolumesFrom index ls v
    → (v.first ≡ until_close (beyond index ls)) × AreNext v.further (past_close (beyond index ls))
cut_there index ls v each =
    let all = next_of (v.first ∷ v.further) (beyond index ls)
    (λ n w h. each n w h ∙ volume_beyond index n ls) in
    (all.0, all.1)

-- ---- the close line of the last one

none_at : (ls : List Line) (k : ℕ) (l : Line) → NoClose ls → slice_get ls k ≡ Some l → l.event ≡ Close → ⊥
none_at [] k l none at is = absurd (cc)
none_at (x ∷ xs) zero l none at is =
    let e : x ≡ l = cc in
    let c : is_close x.event ≡ true = ap (λ (z : Line). is_close z.event) e ∙ ap is_close is in
    let o = none.0 in
    absurd (cc)
none_at (x ∷ xs) (suc k) l none at is = none_at xs k l none.1 at is

ends_last : (ws : List (List Line)) (v ls : List Line) → AreNext ws ls → Ends v ls
    → Ends (last_lines v ws) (beyond (length ws) ls)
ends_last [] v ls next h = h
ends_last (w ∷ ws) v ls next h =
    ends_last ws w (past_close ls) next.1 (subst (λ z. Ends z (past_close ls)) (sym next.0) (ends_until ls))

shut_last : (ws : List (List Line)) (v w : List Line) → Shut (last_lines w ws) → Shut (last_lines (going_on v w) ws)
shut_last [] v w s = shut_on v w s
shut_last (x ∷ xs) v w s = s

shut_joined : (ws : List (List Line)) (v : List Line) → Shut (last_lines v ws) → Shut (joined v ws)
shut_joined [] v s = s
shut_joined (w ∷ ws) v s = shut_joined ws (going_on v w) (shut_last ws v w s)

-- a line of these lines closes
abbrev pub Closes : List Line → Type 0
Closes ls = (k : ℕ) × (l : Line) × (slice_get ls k ≡ Some l) × (l.event ≡ Close)

behind_all : (xs : List Line) (c : Line) → slice_get (xs ++ c ∷ []) (length xs) ≡ Some c
behind_all [] c = refl
behind_all (x ∷ xs) c = behind_all xs c

shut_closes : (ls : List Line) → Shut ls → Closes ls
shut_closes ls s = (
  length (unclosed ls),
  s.close,
  subst (λ z. slice_get z (length (unclosed ls)) ≡ Some s.close) (sym s.are) (behind_all (unclosed ls) s.close),
  close_is s.close.event s.shuts,
)

pub joined_closes : (ws : List (List Line)) (v ls : List Line) → v ≡ until_close ls → AreNext ws (past_close ls)
    → Closes (last_lines v ws) → Closes (joined v ws)
joined_closes ws v ls is next c =
    let ends : Ends v (past_close ls) = subst (λ z. Ends z (past_close ls)) (sym is) (ends_until ls) in
    elim (ends_last ws v (past_close ls) next ends) [
      | inl s ↦ shut_closes (joined v ws) (shut_joined ws v s)
      | inr n ↦ absurd (none_at (last_lines v ws) c.0 c.1 n.0 c.2 c.3)
    ]
