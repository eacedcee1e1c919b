-- A settle and a roll keep a server's volumes.
use Rattle.std.proofs.Common.{◌≡◌, ◌⊎◌, ℕ, ◌+◌, List, [], ◌∷◌, ◌++◌, length, map, drop, false, refl}
use Rattle.std.proofs.Common.{sym, ◌∙◌, ap, subst, arith, append-nil}
use Rattle.std.proofs.lemmas.List.{map_push, length-append, length-map}
use Rattle.binding_rules.specs.declared.role.Role.{Role}
use Rattle.journal_lines.specs.declared.line.Journal.{Journal}
use Rattle.journal_text.specs.Spelling.{line_text}
use Rattle.disk_model.specs.Disk.{Call, opened, LeavesOnly}
use Rattle.disk_model.specs.Lines.{AreFirst}
use Rattle.disk_model.specs.Open.{synced_in}
use Rattle.disk_model.specs.Names.{NameCall, NamesOnly}
use Rattle.disk_model.specs.Volumes.{HasSettled}
use Rattle.open_volume.specs.declared.volume.VolumeSoFar.{VolumeSoFar}
use Rattle.open_volume.specs.declared.volume.Phase.{Phase}
use Rattle.open_volume.specs.Spelling.{text_lines, IsWrittenSoFar}
use Rattle.open_volume.specs.Laws.{GivesTheVolumeItSpells, FirstLinesAreParsed}
use Rattle.volume_store.specs.Folder.{AreVolumesSoFar}
use Rattle.volume_store.specs.Volumes.{going_on, ended_volume}
use Rattle.volume_store.specs.Laws.{NextIsItsServers}
use Rattle.volume_store.specs.Published.{LeftAreLegal}
use Rattle.disk_model.specs.Later.{LeftAreFirst}
use Rattle.server_core.specs.VolumeWriters.{WriterState, has_head}
use Rattle.server_core.specs.Going.{so_far, CanContinue}
use Rattle.server_core.specs.Servers.{LeavesLines, AllLeaveLines, IsServers, IsFront}
use Rattle.server_core.specs.Laws.{CommitsKeep, RollsKeep}
use Rattle.server_core.proofs.Front.{same_text, front}
use Rattle.server_core.proofs.Legal.{go_on, written_to_end}
use Rattle.server_core.proofs.Moments.{leaves_lines, names_stay, at_each, at_each_name}

-- a volume that goes on, as far as it was written
pub open_so_far : (j : Journal) → IsWrittenSoFar (going_on j) → so_far j ≡ going_on j
open_so_far j w = ap (λ (p : Phase). record { journal = j; phase = p }) w.phase

-- an open volume has its head line and its lines
size_of : (j : Journal) → length (text_lines (so_far j)) ≡ length j.lines + 1
size_of j =
    let lines = ap length (append-nil (map line_text j.lines)) ∙ length-map j.lines line_text in
    ap length (same_text j) ∙ omega (arith, lines)

-- one volume more stands in its file
pub one_leaves_more : (files : List (List Call)) (volumes : List (List (List ℕ))) (file : List Call)
    (lines : List (List ℕ)) → AllLeaveLines files volumes → LeavesLines file lines
    → AllLeaveLines (files ++ file ∷ []) (volumes ++ lines ∷ [])
one_leaves_more [] [] file lines are is = (is, tt)
one_leaves_more [] (v ∷ volumes) file lines are is = absurd are
one_leaves_more (f ∷ files) [] file lines are is = absurd are
one_leaves_more (f ∷ files) (v ∷ volumes) file lines are is =
    (are.0, one_leaves_more files volumes file lines are.1 is)

module _ (spells : GivesTheVolumeItSpells) (parsed : FirstLinesAreParsed) (law : LeftAreLegal)
    (left : LeftAreFirst) where
  -- the open volume as it goes on
  front_of : (role : Role) (earlier : List VolumeSoFar) (files : List (List Call)) (j : Journal) (names : List NameCall)
      (v : WriterState) → IsServers role earlier files j names v → CanContinue v → IsFront j v.served.journal
  front_of role earlier files j names v is on =
      front spells parsed v.calls j v.served.journal v.kept is.has on.had is.kept on.within is.are.more.written
      on.written

  more_of : (role : Role) (earlier : List VolumeSoFar) (files : List (List Call)) (j : Journal) (names : List NameCall)
      (v : WriterState) → IsServers role earlier files j names v → CanContinue v
      → has_head (drop (length j.lines) v.served.journal.lines) ≡ false
  more_of role earlier files j names v is on =
      subst (λ n. has_head (drop n v.served.journal.lines) ≡ false) is.kept on.more

  pub settles_keep : CommitsKeep
  settles_keep role earlier files j names old new is put =
      let on = put.goes_on in
      let k = old.served.journal in
      let same : k ≡ new.served.journal = ap (λ s. s.journal) (sym put.served) in
      let its = front_of role earlier files j names old is on in
      let are : AreVolumesSoFar role earlier (so_far k) =
      go_on role earlier j k (so_far k) refl is.are its (more_of role earlier files j names old is on) on.legal
      on.written in
      let least : old.kept + 1 ≡ length j.lines + 1 = ap (λ n. n + 1) is.kept in
      record {
        is = record {
          are = subst (λ (i : Journal). AreVolumesSoFar role earlier (so_far i)) same are;
          ended = is.ended;
          has = subst (λ (ls : List (List ℕ)). HasSettled new.calls ls) (sym (same_text new.served.journal)) put.volume;
          kept = put.all;
          named = is.named;
          count = is.count;
        };
        front = subst (λ (i : Journal). IsFront j i) same its;
        leaves = at_each law role earlier (so_far new.served.journal) (length j.lines + 1) files
            (subst (λ (i : Journal). AreVolumesSoFar role earlier (so_far i)) same are) is.ended names
            (names_stay (length earlier) names is.named is.count) old.calls new.calls
            (subst (λ n. LeavesOnly (AreFirst (text_lines (so_far new.served.journal)) n) old.calls new.calls) least
            (subst (λ (ls : List (List ℕ)). LeavesOnly (AreFirst ls (old.kept + 1)) old.calls new.calls)
            (ap (λ (i : Journal). text_lines (going_on i)) same ∙ sym (same_text new.served.journal)) put.any_moment));
      }

  module _ (next_law : NextIsItsServers) where
    pub rolls_keep : RollsKeep
    rolls_keep role earlier files j names_before names old new now is rolls =
        let closed = rolls.closed in
        let k = closed.served.journal in
        let same : closed ≡ record old { served = closed.served } = rolls.closes.1 in
        let is_closed : IsServers role earlier files j names_before closed = record {
          are = is.are;
          ended = is.ended;
          has = subst (λ calls. HasSettled calls (text_lines (so_far j)))
              (sym (ap (λ (s : WriterState). s.calls) same)) is.has;
          kept = ap (λ (s : WriterState). s.kept) same ∙ is.kept;
          named = is.named;
          count = is.count;
        } in
        let on = rolls.ends.goes_on in
        let its = front_of role earlier files j names_before closed is_closed on in
        let are : AreVolumesSoFar role earlier (ended_volume k) =
        go_on role earlier j k (ended_volume k) refl is.are its
        (more_of role earlier files j names_before closed is_closed on) on.legal
        (written_to_end k rolls.follows.book.head.rolls.closed on.written) in
        let volumes = earlier ++ ended_volume k ∷ [] in
        let leave : AllLeaveLines (files ++ rolls.ended ∷ []) (map text_lines volumes) =
        subst (λ (ls : List (List (List ℕ))). AllLeaveLines (files ++ rolls.ended ∷ []) ls)
        (sym (map_push text_lines earlier (ended_volume k)))
        (one_leaves_more files (map text_lines earlier) rolls.ended (text_lines (ended_volume k)) is.ended
        (leaves_lines left rolls.ended (text_lines (ended_volume k)) rolls.ends.has)) in
        let next = new.served.journal in
        let also : AreVolumesSoFar role volumes (going_on next) =
        next_law role earlier k next now are rolls.follows.book rolls.begun.written in
        let many : length volumes ≡ length earlier + 1 = length-append earlier (ended_volume k ∷ []) in
        let synced : length (synced_in closed.calls) ≡ length j.lines + 1 =
        ap length is_closed.has.synced_are ∙ size_of j in
        record {
          is = record {
            are = subst (λ (v : VolumeSoFar). AreVolumesSoFar role volumes v)
                (sym (open_so_far next also.more.written)) also;
            ended = leave;
            has = subst (λ (ls : List (List ℕ)). HasSettled new.calls ls) (sym (same_text next)) rolls.follows.file;
            kept = rolls.follows.all;
            named = rolls.begun.settled;
            count = omega (arith, rolls.begun.one_more, is.count, many);
          };
          front = its;
          leaves = at_each law role earlier (ended_volume k) (length j.lines + 1) files are is.ended names_before
              (names_stay (length earlier) names_before is.named is.count) old.calls rolls.ended
              (subst (λ calls.
              LeavesOnly (AreFirst (text_lines (ended_volume k)) (length j.lines + 1)) calls rolls.ended)
              (ap (λ (s : WriterState). s.calls) same)
              (subst (λ n. LeavesOnly (AreFirst (text_lines (ended_volume k)) n) closed.calls rolls.ended) synced
              rolls.ends.any_moment));
          leaves_next = at_each_name law role volumes (going_on next) 0 (files ++ rolls.ended ∷ []) also leave
              (opened [] ∷ []) new.calls rolls.begun.any_lines names_before names
              (subst (λ n. NamesOnly (λ count. (count ≡ n) ⊎ (count ≡ n + 1)) names_before names)
              (is.count ∙ sym many) rolls.begun.any_name);
        }
