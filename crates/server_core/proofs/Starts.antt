-- A start begins with the server's volumes.
use Rattle.std.proofs.Common.{◌≡◌, inl, inr, ℕ, zero, suc, ◌+◌, ◌≤◌, Bool, true, false, List, [], ◌∷◌, ◌++◌, length}
use Rattle.std.proofs.Common.{map, take, refl, sym, ◌∙◌, ap, subst, arith, append-nil}
use Rattle.std.specs.Prelude.{⊤, nat_le, if◌then◌else◌}
use Rattle.std.proofs.lemmas.Bool.{leb-true}
use Rattle.std.proofs.lemmas.List.{map_push, length-append, take_all}
use Rattle.binding_rules.specs.declared.role.Role.{Role}
use Rattle.journal_lines.specs.Head.{volume_number}
use Rattle.journal_lines.specs.declared.line.Line.{Line}
use Rattle.journal_lines.specs.declared.line.Journal.{Journal}
use Rattle.text_fields.specs.Cuts.{with_stops}
use Rattle.journal_text.specs.declared.layout.TheConstants.{LINE_FEED}
use Rattle.journal_text.specs.Position.{start}
use Rattle.disk_model.specs.Disk.{Call}
use Rattle.disk_model.specs.Later.{LeftAreFirst}
use Rattle.disk_model.specs.Names.{NameCall}
use Rattle.disk_model.specs.Volumes.{HasSettled}
use Rattle.book_rules.specs.NextHead.{AreLegal}
use Rattle.order_book.specs.NextBook.{MayRoll}
use Rattle.open_volume.specs.declared.volume.Phase.{Phase}
use Rattle.open_volume.specs.declared.volume.Phase.TheVariants.{GoingOn, Closed as BehindClose, Ended as HasEnded}
use Rattle.open_volume.specs.declared.volume.VolumeSoFar.{VolumeSoFar}
use Rattle.open_volume.specs.Spelling.{text_lines, behind_all, first_lines, IsWrittenSoFar}
use Rattle.open_volume.specs.Laws.{GivesTheVolumeItSpells, FirstLinesAreParsed}
use Rattle.open_volume.proofs.Phases.{phase_itself}
use Rattle.volume_store.specs.Finding.{left_of, found_book, book_at, is_published}
use Rattle.volume_store.specs.declared.finding.RecoveredBook.{RecoveredBook}
use Rattle.volume_store.specs.declared.finding.RecoveredBook.TheVariants.{Unpublished, Open, Closed, Ended}
use Rattle.volume_store.specs.Published.{told, LeftAreLegal}
use Rattle.volume_store.specs.Folder.{lines_of, IsVolumeAt, HaveEnded, AreVolumesSoFar, behind_ended, goes_on_with}
use Rattle.volume_store.specs.declared.step.RecoveredFolder.{RecoveredFolder}
use Rattle.volume_store.specs.declared.step.ResumeStep.{ResumeStep}
use Rattle.volume_store.specs.declared.step.ResumeStep.TheVariants.{BeginNext}
use Rattle.volume_store.specs.Volumes.{ended_volume}
use Rattle.volume_store.specs.Laws.{NextIsItsServers}
use Rattle.server_core.specs.VolumeWriters.{WriterState}
use Rattle.server_core.specs.Going.{so_far}
use Rattle.server_core.specs.Beginning.{HasBook, HasNextBook}
use Rattle.server_core.specs.Servers.{AllLeaveLines, IsServers}
use Rattle.server_core.specs.Starting.{HasStarted, StartsServers, begins, begins_behind, goes_on, follows, StartsKeep}
use Rattle.server_core.proofs.Front.{same_text}
use Rattle.server_core.proofs.Legal.{written_to_end}
use Rattle.server_core.proofs.Moments.{leaves_lines}
use Rattle.server_core.proofs.Keeping.{open_so_far, one_leaves_more}

-- ---- what is found of the last volume

-- the volume's first so many lines, of which somebody was told
record IsFound (v : VolumeSoFar) (j : Journal) : Type 0 where
  count : ℕ
  is : j ≡ record v.journal { lines = take count v.journal.lines }
  is_told : is_published j.lines ≡ true
  written : IsWrittenSoFar (so_far j)

abbrev FoundOf : VolumeSoFar → RecoveredBook → Type 0
FoundOf v Unpublished = ⊤
FoundOf v (Open j) = IsFound v j
FoundOf v (Closed j) = IsFound v j
FoundOf v (Ended j) = IsFound v j

at_phase : (v : VolumeSoFar) (j : Journal) (p : Phase) → IsFound v j → FoundOf v (book_at p j)
at_phase v j GoingOn found = found
at_phase v j BehindClose found = found
at_phase v j HasEnded found = found

book_found : (v w : VolumeSoFar) → (is_published w.journal.lines ≡ true → IsFound v w.journal) → FoundOf v (found_book w)
book_found v w found = by (is_published w.journal.lines) refl
  where
    by : (b : Bool) → is_published w.journal.lines ≡ b
        → FoundOf v (if b then book_at w.phase w.journal else Unpublished)
    by true e = at_phase v w.journal w.phase (found e)
    by false e = tt

module _ (spells : GivesTheVolumeItSpells) (parsed : FirstLinesAreParsed) where
  first_written : (v : VolumeSoFar) (n : ℕ) → IsWrittenSoFar v → n ≤ length v.journal.lines
      → IsWrittenSoFar (first_lines n v)
  first_written v n written within =
      ((spells (with_stops LINE_FEED (take (suc n) (text_lines v))) (first_lines n v)).0 (parsed v n written within)).0

  found_of : (count : ℕ) (v : VolumeSoFar) → IsWrittenSoFar v → FoundOf v (left_of count v)
  found_of zero v written = tt
  found_of (suc n) v written = by (nat_le n (length v.journal.lines)) (leb-true n (length v.journal.lines))
    where
      by : (b : Bool) → (b ≡ true → n ≤ length v.journal.lines)
          → FoundOf v (if b then found_book (first_lines n v) else found_book v)
      by true within = book_found v (first_lines n v) (λ e. record {
        count = n;
        is = refl;
        is_told = e;
        written = first_written v n written (within refl);
      })
      by false within = book_found v v (λ e. record {
        count = length v.journal.lines;
        is = ap (λ (ls : List Line). record v.journal { lines = ls })
            (sym (take_all (length v.journal.lines) v.journal.lines (omega arith)));
        is_told = e;
        written = record {
          head = written.head;
          few = written.few;
          numbers = written.numbers;
          readings = written.readings;
          closing = written.closing;
          phase = phase_itself (behind_all start v.journal.lines);
          ranges = written.ranges;
        };
      })

-- ---- the volumes

-- the last of those that have ended
record HasLast (ended : List VolumeSoFar) : Type 0 where
  front : List VolumeSoFar
  last : VolumeSoFar
  are : ended ≡ front ++ last ∷ []
  step : behind_ended ended ≡ BeginNext last.journal

last_of : (v : VolumeSoFar) (vs : List VolumeSoFar) → HasLast (v ∷ vs)
last_of v [] = record { front = []; last = v; are = refl; step = refl }
last_of v (w ∷ vs) =
    let more = last_of w vs in
    record {
      front = v ∷ more.front;
      last = more.last;
      are = ap (λ (ws : List VolumeSoFar). v ∷ ws) more.are;
      step = more.step;
    }

module _ (legal_law : LeftAreLegal) (role : Role) where
  -- with what is found of the last one
  with_found : (ended : List VolumeSoFar) (last : VolumeSoFar) (j : Journal) → AreVolumesSoFar role ended last
      → IsFound last j → AreVolumesSoFar role ended (so_far j)
  with_found ended last j vs found =
      let lines : j.lines ≡ take found.count last.journal.lines = ap (λ (i : Journal). i.lines) found.is in
      let legal : AreLegal role (map lines_of ended ++ told j.lines) =
      subst (λ (ls : List Line). AreLegal role (map lines_of ended ++ told ls)) (sym lines)
      (legal_law role (map lines_of ended) last.journal.lines found.count
      (subst (AreLegal role) (map_push lines_of ended last) vs.legal)) in
      let one : told j.lines ≡ j.lines ∷ [] = ap (λ (b : Bool). if b then j.lines ∷ [] else []) found.is_told in
      record {
        have_ended = vs.have_ended;
        more = record {
          its = ap (λ (i : Journal). i.role) found.is ∙ vs.more.its;
          numbered = ap (λ (i : Journal). volume_number i.head) found.is ∙ vs.more.numbered;
          written = found.written;
        };
        legal = subst (AreLegal role) (ap (λ (ls : List (List Line)). map lines_of ended ++ ls) one
            ∙ sym (map_push lines_of ended (so_far j))) legal;
      }

  -- with the end line of the last one
  to_end : (ended : List VolumeSoFar) (j : Journal) → AreVolumesSoFar role ended (so_far j) → MayRoll j
      → AreVolumesSoFar role ended (ended_volume j)
  to_end ended j vs may = record {
    have_ended = vs.have_ended;
    more = record {
      its = vs.more.its;
      numbered = vs.more.numbered;
      written = written_to_end j may.0 vs.more.written;
    };
    legal = subst (AreLegal role) (map_push lines_of ended (so_far j) ∙ sym (map_push lines_of ended (ended_volume j)))
        vs.legal;
  }

  record HaveLast (n : ℕ) (front : List VolumeSoFar) (v : VolumeSoFar) : Type 0 where
    have_ended : HaveEnded role n front
    at : IsVolumeAt role (length front + n) v
    phase : v.phase ≡ HasEnded

  have_last : (n : ℕ) (front : List VolumeSoFar) (v : VolumeSoFar) → HaveEnded role n (front ++ v ∷ [])
      → HaveLast n front v
  have_last n [] v have =
      record { have_ended = tt; at = subst (λ m. IsVolumeAt role m v) (omega arith) have.0; phase = have.1 }
  have_last n (w ∷ front) v have =
      let more = have_last (n + 1) front v have.2 in
      record {
        have_ended = (have.0, have.1, more.have_ended);
        at = subst (λ m. IsVolumeAt role m v) (omega arith) more.at;
        phase = more.phase;
      }

  -- they are a server's without what stands behind them
  without_last : (front : List VolumeSoFar) (v last : VolumeSoFar) → AreVolumesSoFar role (front ++ v ∷ []) last
      → AreVolumesSoFar role front (ended_volume v.journal)
  without_last front v last vs =
      let have = have_last 1 front v vs.have_ended in
      let same : v ≡ ended_volume v.journal =
      ap (λ (p : Phase). record { journal = v.journal; phase = p }) have.phase in
      let legal : AreLegal role (map lines_of (front ++ v ∷ [])) =
      subst (AreLegal role) (append-nil (map lines_of (front ++ v ∷ [])))
      (legal_law role (map lines_of (front ++ v ∷ [])) last.journal.lines 0
      (subst (AreLegal role) (map_push lines_of (front ++ v ∷ []) last) vs.legal)) in
      subst (λ w. AreVolumesSoFar role front w) same (record {
        have_ended = have.have_ended;
        more = have.at;
        legal = legal;
      })

-- ---- the start

module _ (spells : GivesTheVolumeItSpells) (parsed : FirstLinesAreParsed) (legal_law : LeftAreLegal)
    (left : LeftAreFirst) (next_law : NextIsItsServers) where
  -- a book that stands in its file is the server's open volume
  has_book : (role : Role) (ended : List VolumeSoFar) (files : List (List Call)) (j : Journal)
      (names : List NameCall) (v : WriterState) → AreVolumesSoFar role ended (so_far j)
      → AllLeaveLines files (map text_lines ended) → HasBook j names (length ended + 1) v
      → IsServers role ended files j names v
  has_book role ended files j names v are leave has = record {
    are = are;
    ended = leave;
    has = subst (λ (ls : List (List ℕ)). HasSettled v.calls ls) (sym (same_text j)) has.has;
    kept = has.kept;
    named = has.named;
    count = has.count_is;
  }

  -- and so is one that follows
  has_next : (role : Role) (front : List VolumeSoFar) (files : List (List Call)) (j : Journal) (volumes : ℕ)
      (names : List NameCall) (v : WriterState) → AreVolumesSoFar role front (ended_volume j)
      → AllLeaveLines files (map text_lines (front ++ ended_volume j ∷ []))
      → volumes ≡ length front + 1 → (next : HasNextBook j volumes names v)
      → IsServers role (front ++ ended_volume j ∷ []) files next.next names v
  has_next role front files j volumes names v are leave many next =
      let also = next_law role front j next.next next.now are next.follows next.written in
      let size = length-append front (ended_volume j ∷ []) in
      has_book role (front ++ ended_volume j ∷ []) files next.next names v
      (subst (λ w. AreVolumesSoFar role (front ++ ended_volume j ∷ []) w)
      (sym (open_so_far next.next next.written)) also)
      leave (subst (λ n. HasBook next.next names n v) (omega (arith, many, size)) next.begun)

  module _ (role : Role) (ended : List VolumeSoFar) (files : List (List Call)) (last : VolumeSoFar) (count : ℕ)
      (names : List NameCall) (v : WriterState) (vs : AreVolumesSoFar role ended last)
      (leave : AllLeaveLines files (map text_lines ended)) where
    -- behind a volume whose last lines are found
    behind : (j : Journal) → IsFound last j → MayRoll j → (next : HasNextBook j (length ended + 1) names v)
        → IsServers role (ended ++ ended_volume j ∷ []) (files ++ next.ended ∷ []) next.next names v
    behind j found may next =
        has_next role ended (files ++ next.ended ∷ []) j (length ended + 1) names v
        (to_end legal_law role ended j (with_found legal_law role ended last j vs found) may)
        (subst (λ (ls : List (List (List ℕ))). AllLeaveLines (files ++ next.ended ∷ []) ls)
        (sym (map_push text_lines ended (ended_volume j)))
        (one_leaves_more files (map text_lines ended) next.ended (text_lines (ended_volume j)) leave
        (leaves_lines left next.ended (text_lines (ended_volume j)) next.has_ended)))
        refl next

    -- behind those that have ended
    anew : (l : HasLast ended) → HasNextBook l.last.journal (length ended) names v
        → (k : Journal) × IsServers role ended files k names v
    anew l next =
        let front = l.front in
        let journal = l.last.journal in
        let before = without_last legal_law role front l.last last
        (subst (λ (es : List VolumeSoFar). AreVolumesSoFar role es last) l.are vs) in
        let have = have_last legal_law role 1 front l.last
        (subst (λ (es : List VolumeSoFar). HaveEnded role 1 es) l.are vs.have_ended) in
        let same : l.last ≡ ended_volume journal =
        ap (λ (p : Phase). record { journal = journal; phase = p }) have.phase in
        let all : ended ≡ front ++ ended_volume journal ∷ [] =
        l.are ∙ ap (λ (w : VolumeSoFar). front ++ w ∷ []) same in
        let size = ap length l.are ∙ length-append front (l.last ∷ []) in (
          next.next,
          subst (λ (es : List VolumeSoFar). IsServers role es files next.next names v) (sym all)
              (has_next role front files journal (length ended) names v before
              (subst (λ (es : List VolumeSoFar). AllLeaveLines files (map text_lines es)) all leave) size next),
        )

    never_told : (es : List VolumeSoFar) → ended ≡ es → left_of count last ≡ Unpublished
        → HasStarted role (behind_ended es) (length es) names v → StartsServers role ended files last count names v
    never_told [] is e has =
        begins has.0 is e (has_book role [] [] has.0 names v
        (subst (λ w. AreVolumesSoFar role [] w) (sym (open_so_far has.0 has.1.more.written)) has.1) tt has.2)
    never_told (w ∷ ws) is e has =
        let l : HasLast (w ∷ ws) = last_of w ws in
        let started : HasStarted role (BeginNext l.last.journal) (length (w ∷ ws)) names v =
        subst (λ (s : ResumeStep). HasStarted role s (length (w ∷ ws)) names v) l.step has in
        let next : HasNextBook l.last.journal (length ended) names v =
        subst (λ (es : List VolumeSoFar). HasNextBook l.last.journal (length es) names v) (sym is) started.1 in
        let found = anew (record {
          front = l.front;
          last = l.last;
          are = is ∙ l.are;
          step = ap behind_ended is ∙ l.step;
        }) next in
        begins_behind found.0 e found.1

    by : (f : RecoveredBook) → left_of count last ≡ f → FoundOf last f
        → HasStarted role (goes_on_with ended f).step (goes_on_with ended f).volumes names v
        → StartsServers role ended files last count names v
    by Unpublished e found has = never_told ended refl e has
    by (Open j) e found has =
        goes_on j e (has_book role ended files j names v (with_found legal_law role ended last j vs found) leave has)
    by (Closed j) e found has = follows j has.1.next has.1.ended (inl e) (behind j found has.0 has.1)
    by (Ended j) e found has = follows j has.1.next has.1.ended (inr e) (behind j found has.0 has.1)

  pub starts_keep : StartsKeep
  starts_keep role ended files last count found names v vs leave is has =
      by role ended files last count names v vs leave (left_of count last) refl
      (found_of spells parsed count last vs.more.written)
      (subst (λ (f : RecoveredFolder). HasStarted role f.step f.volumes names v) is has)
