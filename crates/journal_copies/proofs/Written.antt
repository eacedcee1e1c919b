-- The journal that volumes are together has a text, as `volume_spans` shows of what it puts together.
use Rattle.std.specs.Prelude.{◌≡◌, ℕ, ◌+◌, ◌≤◌, Bool, true, false, List, [], ◌∷◌, ◌++◌, length, map, if◌then◌else◌}
use Rattle.std.specs.List.{AllByRecursion}
use Rattle.std.proofs.Common.{arith, sym, ◌∙◌, ap, subst, refl}
use Rattle.binding_rules.specs.declared.role.Role.{Role}
use Rattle.journal_lines.specs.declared.line.Line.{Line}
use Rattle.journal_lines.specs.declared.line.Journal.{Journal}
use Rattle.journal_lines.specs.Head.{volume_number}
use Rattle.journal_lines.specs.declared.volume.Head.{Head}
use Rattle.journal_lines.specs.declared.volume.Head.TheVariants.{One, Two}
use Rattle.journal_lines.specs.Close.{is_close}
use Rattle.journal_text.specs.Position.{Position, start, behind_line}
use Rattle.journal_text.specs.Spelling.{IsHead, IsLine}
use Rattle.open_volume.specs.declared.volume.VolumeSoFar.{VolumeSoFar}
use Rattle.open_volume.specs.Spelling.{behind_all, phase_at, phase_of, IsPhaseAt, IsWrittenSoFar}
use Rattle.open_volume.proofs.LinesFrom.{AreNext}
use Rattle.open_volume.proofs.WrittenLaws.{written}
use Rattle.book_state.specs.Book.{BookState, blank}
use Rattle.book_state.specs.Effects.{after}
use Rattle.book_rules.specs.declared.rule.Rule.TheVariants.{Sequence}
use Rattle.book_rules.specs.Volumes.{AreSteps, IsVolume}
use Rattle.book_rules.specs.NextHead.{is_head, AreVolumes, Follows}
use Rattle.volume_join.specs.Joined.{unclosed, behind_head, numbered, going_on, joined}
use Rattle.volume_join.specs.Joining.{one, with_next, Joining}
use Rattle.volume_join.specs.Laws.{HaveRoom, JoinedIsLegal}
use Rattle.joined_runs.specs.PutTogether.{with_all, AreLetIn}
use Rattle.joined_runs.proofs.PutTogether.{put_together as together_is_joined}
use Rattle.volume_spans.specs.declared.reading.ReadVolume.{ReadVolume}
use Rattle.volume_spans.specs.Reading.{AreWritten, journal_in}
use Rattle.volume_spans.specs.Together.{put_together, AreOneJournal, IsTogether}

-- ---- lines within the ranges of a text

abbrev AreLines : List Line → Type 0
AreLines ls = AllByRecursion IsLine ls

open_lines : (ls : List Line) → AreLines ls → AreLines (unclosed ls)
open_lines [] are = tt
open_lines (l ∷ ls) are = by_test (is_close l.event) (open_lines ls are.1) where
  by_test : (t : Bool) → AreLines (unclosed ls) → AreLines (if t then [] else l ∷ unclosed ls)
  by_test true rest = tt
  by_test false rest = (are.0, rest)

later_lines : (ls : List Line) → AreLines ls → AreLines (behind_head ls)
later_lines [] are = tt
later_lines (l ∷ ls) are = by_test (is_head l.event) (later_lines ls are.1) where
  by_test : (t : Bool) → AreLines (behind_head ls) → AreLines (if t then behind_head ls else l ∷ ls)
  by_test true rest = rest
  by_test false rest = are

numbered_lines : (n : ℕ) (ls : List Line) → AreLines ls → AreLines (numbered n ls)
numbered_lines n [] are = tt
numbered_lines n (l ∷ ls) are = (are.0, numbered_lines (n + 1) ls are.1)

both_lines : (ls ms : List Line) → AreLines ls → AreLines ms → AreLines (ls ++ ms)
both_lines [] ms a b = b
both_lines (l ∷ ls) ms a b = (a.0, both_lines ls ms a.1 b)

going_lines : (ls next : List Line) → AreLines ls → AreLines next → AreLines (going_on ls next)
going_lines ls next a b = both_lines (unclosed ls) (numbered (length (unclosed ls) + 1) (behind_head next))
    (open_lines ls a) (numbered_lines (length (unclosed ls) + 1) (behind_head next) (later_lines next b))

abbrev AllLines : List (List Line) → Type 0
AllLines vs = AllByRecursion AreLines vs

joined_lines : (ws : List (List Line)) (ls : List Line) → AreLines ls → AllLines ws → AreLines (joined ls ws)
joined_lines [] ls a all = a
joined_lines (w ∷ ws) ls a all = joined_lines ws (going_on ls w) (going_lines ls w a all.0) all.1

-- ---- lines of a legal volume

are_next : (ls : List Line) (b : BookState) (at : Position) → at.count ≡ b.count → at.reading ≡ b.reading
    → at.is_closed ≡ b.closed → AreSteps b ls → AreLines ls → AreNext at ls
are_next [] b at count reading closed steps are = tt
are_next (l ∷ ls) b at count reading closed steps are =
    let s = steps.0 Sequence in
    let number = s.number in
    let later = s.later in (
      record {
        numbered = omega arith;
        few = s.few;
        rises = omega arith;
        goes_on = closed ∙ s.is_open;
        ranges = are.0;
      },
      are_next ls (after b l) (behind_line l) refl refl refl steps.1 are.1,
    )

phase_fits : (at : Position) → IsPhaseAt at (phase_at at)
phase_fits at = by_test at.is_closed refl where
  by_test : (t : Bool) → at.is_closed ≡ t → IsPhaseAt at (phase_at at)
  by_test true e = rw e refl
  by_test false e = rw e refl

-- ---- the journal that volumes are together

head_stays : (ws : List Journal) (j : Joining) → (with_all j ws).head ≡ j.head
head_stays [] j = refl
head_stays (w ∷ ws) j = head_stays ws (with_next j w)

-- the next volume begins with the lines that the one before it names, where that is of this side and number
abbrev FollowsAs : Journal → Journal → Role → ℕ → Type 0
FollowsAs last next role n = Follows role n last.lines next.lines

volumes_of : (ws : List Journal) (j : Joining) (role : Role) (n : ℕ) → j.last.role ≡ role
    → volume_number j.last.head ≡ n → IsVolume role n j.last.lines → AreLetIn j ws
    → AreVolumes role n (j.last.lines ∷ map (λ w. w.lines) ws)
volumes_of [] j role n its number legal let_in = legal
volumes_of (w ∷ ws) j role n its number legal let_in =
    let goes = let_in.0 in
    let w_role : w.role ≡ role = goes.is_next.role ∙ its in
    let w_number : volume_number w.head ≡ n + 1 = goes.is_next.number ∙ ap (λ k. k + 1) number in
    let w_legal : IsVolume role (n + 1) w.lines =
    subst (λ r. IsVolume r (n + 1) w.lines) w_role (subst (λ k. IsVolume w.role k w.lines) w_number goes.legal) in (
      legal,
      subst (λ r. FollowsAs j.last w r n) its (subst (λ k. FollowsAs j.last w j.last.role k) number goes.head),
      volumes_of ws (with_next j w) role (n + 1) w_role w_number w_legal let_in.2,
    )

number_of_some : (v : VolumeSoFar) → IsWrittenSoFar v → 1 ≤ volume_number v.journal.head
number_of_some v h = by_head v.journal.head h.head where
  by_head : (head : Head) → IsHead head → 1 ≤ volume_number head
  by_head One is = omega arith
  by_head (Two n) is = let low = is.0 in omega arith

-- the journal that they are together breaks no rule, and has no more lines than a journal may
module _ (law : JoinedIsLegal) (v : VolumeSoFar) (ws : List Journal) (fine : IsWrittenSoFar v)
    (are : AreOneJournal v.journal ws) where
  abbrev lines_of : List Line
  lines_of = joined v.journal.lines (map (λ w. w.lines) ws)

  room : HaveRoom v.journal.lines (map (λ w. w.lines) ws)
  room = (together_is_joined v.journal ws are.let_in).1

  is_joined : (with_all (one v.journal) ws).lines ≡ lines_of
  is_joined = (together_is_joined v.journal ws are.let_in).0

  legal : IsVolume v.journal.role (volume_number v.journal.head) lines_of
  legal = (law v.journal.role (volume_number v.journal.head) v.journal.lines (map (λ w. w.lines) ws)
      (number_of_some v fine)
      (volumes_of ws (one v.journal) v.journal.role (volume_number v.journal.head) refl refl are.legal are.let_in)
      room).0

  together_written : (u : VolumeSoFar) → AllLines (map (λ w. w.lines) ws)
      → u.journal ≡ put_together v.journal ws → u.phase ≡ phase_of u.journal.lines → IsWrittenSoFar u
  together_written u ranges is phase =
      let lines_are : u.journal.lines ≡ lines_of = ap (λ (j : Journal). j.lines) is ∙ is_joined in
      let head_is : u.journal.head ≡ v.journal.head = ap (λ (j : Journal). j.head) is ∙ head_stays ws (one v.journal) in
      written u (subst IsHead (sym head_is) fine.head)
      (are_next u.journal.lines (blank v.journal.role (volume_number v.journal.head)) start refl refl refl
      (subst (IsVolume v.journal.role (volume_number v.journal.head)) (sym lines_are) legal)
      (subst AreLines (sym lines_are)
      (joined_lines (map (λ w. w.lines) ws) v.journal.lines fine.ranges ranges)))
      (subst (IsPhaseAt (behind_all start u.journal.lines)) (sym phase)
      (phase_fits (behind_all start u.journal.lines)))

-- ---- of volumes that were read

ranges_of : (r : ReadVolume) (rs : List ReadVolume) → AreWritten (r ∷ rs)
    → AllLines (map (λ w. w.lines) (map journal_in (r ∷ rs)))
ranges_of r [] h = (h.ranges, tt)
ranges_of r (s ∷ rs) h = (h.0.ranges, ranges_of s rs h.1)

-- what volumes are together is a journal that has a text
pub written_together : JoinedIsLegal → (rs : List ReadVolume) (j : Journal) → AreWritten rs → IsTogether rs j
    → (v : VolumeSoFar) × IsWrittenSoFar v × (v.journal ≡ j)
written_together law [] j h is = absurd is
written_together law (r ∷ []) j h is = (r.volume, h, sym is)
written_together law (r ∷ s ∷ rs) j h is =
    let v : VolumeSoFar = record { journal = j; phase = phase_of j.lines } in (
      v,
      together_written law r.volume (map journal_in (s ∷ rs)) h.0 is.0 v (ranges_of s rs h.1) is.1 refl,
      refl,
    )
