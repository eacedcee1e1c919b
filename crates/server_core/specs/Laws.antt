-- What a settle and a roll keep.
use Rattle.std.specs.Prelude.{ℕ, ◌+◌, List, [], ◌∷◌, ◌++◌, length}
use Rattle.binding_rules.specs.declared.role.Role.{Role}
use Rattle.journal_lines.specs.declared.line.Journal.{Journal}
use Rattle.disk_model.specs.Disk.{Call, opened}
use Rattle.disk_model.specs.Names.{NameCall}
use Rattle.open_volume.specs.declared.volume.VolumeSoFar.{VolumeSoFar}
use Rattle.volume_store.specs.Volumes.{going_on, ended_volume}
use Rattle.server_core.specs.VolumeWriters.{WriterState}
use Rattle.server_core.specs.Going.{so_far}
use Rattle.server_core.specs.Rolling.{Rolls}
use Rattle.server_core.specs.Committing.{IsPut}
use Rattle.server_core.specs.Servers.{IsServers, IsFront, AtEachMoment, LeavesServers}

-- A server's open volume was put to its file: it goes on with what was there; and at each moment meanwhile a loss of
-- power leaves the server's volumes, and of the open one no fewer lines than before.
pub record StaysServers
    (role : Role) (earlier : List VolumeSoFar) (files : List (List Call)) (j : Journal)
    (names : List NameCall) (old new : WriterState) : Type 0 where
  pub is : IsServers role earlier files new.served.journal names new
  pub front : IsFront j new.served.journal
  pub leaves : AtEachMoment
      (λ file. LeavesServers role earlier (so_far new.served.journal) (length j.lines + 1) names files file)
      old.calls new.calls

abbrev pub CommitsKeep : Type 0
CommitsKeep = (role : Role) (earlier : List VolumeSoFar) (files : List (List Call)) (j : Journal)
    (names : List NameCall) (old new : WriterState)
    → IsServers role earlier files j names old → IsPut old new → StaysServers role earlier files j names old new

-- A server's open volume has ended, and the next one was begun: the server has one volume more. At each moment until
-- the volume had ended a loss of power leaves the server's volumes, and of the open one no fewer lines than before;
-- and at each moment from then on, the ended one whole, and the first so many lines of the next one.
pub record RollsServers
    (role : Role) (earlier : List VolumeSoFar) (files : List (List Call)) (j : Journal) (closed : Journal)
    (ended : List Call) (names_before names : List NameCall) (old new : WriterState) : Type 0 where
  pub is : IsServers role (earlier ++ ended_volume closed ∷ []) (files ++ ended ∷ []) new.served.journal names new
  pub front : IsFront j closed
  pub leaves : AtEachMoment
      (λ file. LeavesServers role earlier (ended_volume closed) (length j.lines + 1) names_before files file)
      old.calls ended
  pub leaves_next : AtEachMoment
      (λ made. AtEachMoment (λ file. LeavesServers role (earlier ++ ended_volume closed ∷ [])
      (going_on new.served.journal) 0 made (files ++ ended ∷ []) file) (opened [] ∷ []) new.calls)
      names_before names

abbrev pub RollsKeep : Type 0
RollsKeep = (role : Role) (earlier : List VolumeSoFar) (files : List (List Call)) (j : Journal)
    (names_before names : List NameCall) (old new : WriterState) (now : ℕ)
    → IsServers role earlier files j names_before old → (rolls : Rolls old names_before now new names)
    → RollsServers role earlier files j rolls.closed.served.journal rolls.ended names_before names old new
