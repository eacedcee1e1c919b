-- Volumes that are put together one at a time, as `volume_join::JoinedVolumes` takes them.
use Rattle.std.specs.Prelude.{◌≡◌, ⊤, List, [], ◌∷◌, map}
use Rattle.journal_lines.specs.declared.line.Journal.{Journal}
use Rattle.volume_join.specs.Joined.{joined}
use Rattle.volume_join.specs.Joining.{Joining, one, with_next, IsContinuation, HasRoom}
use Rattle.volume_join.specs.Laws.{HaveRoom}

-- with further volumes behind it, one after the other
abbrev pub with_all : Joining → List Journal → Joining
with_all j [] = j
with_all j (v ∷ vs) = with_all (with_next j v) vs

-- each is let in: it follows the one before it, and there is room for it
abbrev pub AreLetIn : Joining → List Journal → Type 0
AreLetIn j [] = ⊤
AreLetIn j (v ∷ vs) = IsContinuation j.last v × HasRoom j v × AreLetIn (with_next j v) vs

-- what volumes are put together to, each of which was let in, is the joined journal, and it has room
abbrev pub PutTogetherIsJoined : Type 0
PutTogetherIsJoined = (v : Journal) (ws : List Journal) → AreLetIn (one v) ws
    → ((with_all (one v) ws).lines ≡ joined v.lines (map (λ w. w.lines) ws))
    × HaveRoom v.lines (map (λ w. w.lines) ws)
