-- Turns keep a server's volumes.
use Rattle.std.specs.Prelude.{◌≡◌, ℕ, List, [], ◌∷◌, ◌++◌}
use Rattle.std.proofs.Common.{inl, inr, sym, ◌∙◌, ap, subst}
use Rattle.binding_rules.specs.declared.role.Role.{Role}
use Rattle.journal_lines.specs.declared.line.Journal.{Journal}
use Rattle.disk_model.specs.Disk.{Call}
use Rattle.disk_model.specs.Names.{NameCall, names_after, AreSettled}
use Rattle.disk_model.specs.Volumes.{HasSettled}
use Rattle.open_volume.specs.Spelling.{text_lines}
use Rattle.open_volume.specs.declared.volume.VolumeSoFar.{VolumeSoFar}
use Rattle.volume_store.specs.Volumes.{ended_volume}
use Rattle.server_core.specs.VolumeWriters.{WriterState}
use Rattle.server_core.specs.Going.{so_far}
use Rattle.server_core.specs.ServerStates.{CoreState}
use Rattle.server_core.specs.Committing.{IsRolled}
use Rattle.server_core.specs.Servers.{IsServers}
use Rattle.server_core.specs.Laws.{StaysServers, CommitsKeep, RollsKeep}
use Rattle.server_clocks.specs.declared.clocks.Moment.{Moment}
use Rattle.daemon_endpoints.specs.declared.arrival.Arrival.{Arrival}
use Rattle.daemon_endpoints.specs.Receiving.{HasSameFiles, HasHeard}
use Rattle.node_daemon.specs.Turning.{Ways, IsTurn, Turns, none, more, HasTurned}
use Rattle.node_daemon.specs.Lasting.{Keeps, goes_on, rolls, Lasts, at_first, one_more, HasLasted}

-- what puts nothing to the disk keeps the volumes
same_servers : {P : Type 0} (role : Role) (earlier : List VolumeSoFar) (files : List (List Call)) (j : Journal)
    (old new : CoreState P) → HasSameFiles old new → IsServers role earlier files j old.names old.volume
    → IsServers role earlier files j new.names new.volume
same_servers role earlier files j old new same is = record {
  are = is.are;
  ended = is.ended;
  has = subst (λ (calls : List Call). HasSettled calls (text_lines (so_far j))) (sym same.calls) is.has;
  kept = same.kept ∙ is.kept;
  named = subst (λ (names : List NameCall). AreSettled names) (sym same.names) is.named;
  count = ap (λ (names : List NameCall). (names_after names).files) same.names ∙ is.count;
}

-- what was heard keeps them
heard_servers : {P : Type 0} (gives : Moment → Type 0) (role : Role) (earlier : List VolumeSoFar)
    (files : List (List Call)) (j : Journal) (old new : CoreState (Arrival P)) → HasHeard gives old new
    → IsServers role earlier files j old.names old.volume → IsServers role earlier files j new.names new.volume
heard_servers gives role earlier files j old new same is = record {
  are = is.are;
  ended = is.ended;
  has = subst (λ (calls : List Call). HasSettled calls (text_lines (so_far j))) (sym same.calls) is.has;
  kept = same.kept ∙ is.kept;
  named = subst (λ (names : List NameCall). AreSettled names) (sym same.names) is.named;
  count = ap (λ (names : List NameCall). (names_after names).files) same.names ∙ is.count;
}

with_names : (role : Role) (earlier : List VolumeSoFar) (files : List (List Call)) (j : Journal)
    (names now : List NameCall) (v : WriterState) → now ≡ names → IsServers role earlier files j names v
    → IsServers role earlier files j now v
with_names role earlier files j names now v same is =
    subst (λ (ns : List NameCall). IsServers role earlier files j ns v) (sym same) is

module _ {P Line : Type 0} (settle_law : CommitsKeep) (roll_law : RollsKeep) (gives : Moment → Type 0) (fails : Type 0)
    (Listens : Line → Line → Type 0) (Sends : Line → P → List ℕ → Line → Type 0) (transit : ℕ) (first : Ways Line)
    (begun : CoreState (Arrival P)) (role : Role) (earlier : List VolumeSoFar) (files : List (List Call))
    (j : Journal) where
  -- what is reached by turns, and by which
  record Reached (way : Ways Line) (reached : CoreState (Arrival P)) : Type 0 where
    ended : List VolumeSoFar
    settled : List (List Call)
    journal : Journal
    lasts : Lasts gives fails Listens Sends transit first begun role earlier files j way reached ended settled journal
    is : IsServers role ended settled journal reached.names reached.volume

  module _ (way : Ways Line) (old : CoreState (Arrival P)) (next : Ways Line) (new : CoreState (Arrival P)) (r : Reached way old)
      (turn : IsTurn gives fails Listens Sends transit way old next new) where
    heard : IsServers role r.ended r.settled r.journal turn.ready.names turn.ready.volume
    heard = heard_servers gives role r.ended r.settled r.journal old turn.ready turn.same r.is

    -- behind a settle of these volumes
    reached_by : (ended : List VolumeSoFar) (settled : List (List Call)) (k : Journal)
        → (stays : StaysServers role ended settled k turn.begun.names turn.begun.volume turn.tells.settled.volume)
        → Keeps role r.ended r.settled r.journal turn.ready turn.begun turn.tells.settled ended settled
        → Reached next new
    reached_by ended settled k stays keeps = record {
      ended = ended;
      settled = settled;
      journal = turn.tells.settled.volume.served.journal;
      lasts = one_more way old r.ended r.settled r.journal next new ended settled r.lasts turn keeps;
      is = same_servers role ended settled turn.tells.settled.volume.served.journal turn.tells.settled new
          turn.tells.after
          (with_names role ended settled turn.tells.settled.volume.served.journal turn.begun.names
          turn.tells.settled.names turn.tells.settled.volume turn.tells.settles.names stays.is);
    }

    without_roll : turn.begun ≡ turn.ready → Reached next new
    without_roll same =
        let stays = settle_law role r.ended r.settled r.journal turn.begun.names turn.begun.volume
        turn.tells.settled.volume
        (subst (λ (s : CoreState (Arrival P)). IsServers role r.ended r.settled r.journal s.names s.volume) (sym same) heard)
        turn.tells.settles.put in
        reached_by r.ended r.settled r.journal stays (goes_on stays)

    with_roll : IsRolled turn.ready turn.begun → Reached next new
    with_roll rolled =
        let kept = roll_law role r.ended r.settled r.journal turn.ready.names turn.begun.names turn.ready.volume
        turn.begun.volume rolled.now heard rolled.rolls in
        let closed = rolled.rolls.closed.served.journal in
        let volumes = r.ended ++ ended_volume closed ∷ [] in
        let made = r.settled ++ rolled.rolls.ended ∷ [] in
        let stays = settle_law role volumes made turn.begun.volume.served.journal turn.begun.names turn.begun.volume
        turn.tells.settled.volume kept.is turn.tells.settles.put in
        reached_by volumes made turn.begun.volume.served.journal stays (rolls closed rolled.rolls.ended kept stays)

    reached_next : Reached next new
    reached_next = elim turn.rolls [
      | inl same ↦ without_roll same
      | inr rolled ↦ with_roll rolled
    ]

  reached : (way : Ways Line) (s : CoreState (Arrival P)) → Turns gives fails Listens Sends transit first begun way s
      → IsServers role earlier files j begun.names begun.volume → Reached way s
  reached _ _ none is = record { ended = earlier; settled = files; journal = j; lasts = at_first; is = is }
  reached _ _ (more way old next new before turn) is =
      reached_next way old next new (reached way old before is) turn

  pub has_lasted : (last : Ways Line) → HasTurned gives fails Listens Sends transit first begun last
      → IsServers role earlier files j begun.names begun.volume
      → HasLasted gives fails Listens Sends transit first begun last role earlier files j
  has_lasted last turned is =
      let r = reached turned.0 turned.1 turned.2 is in
      record {
        way = turned.0;
        reached = turned.1;
        ended = r.ended;
        settled = r.settled;
        journal = r.journal;
        lasts = r.lasts;
        is = r.is;
        since = turned.3;
      }
