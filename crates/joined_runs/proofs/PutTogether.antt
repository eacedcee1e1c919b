-- Volumes that are put together one at a time are the joined journal.
use Rattle.std.specs.Prelude.{◌≡◌, List, [], ◌∷◌, map}
use Rattle.std.proofs.Common.{refl}
use Rattle.journal_lines.specs.declared.line.Journal.{Journal}
use Rattle.volume_join.specs.Joined.{joined}
use Rattle.volume_join.specs.Joining.{Joining, one, with_next}
use Rattle.volume_join.specs.Laws.{HaveRoom}
use Rattle.joined_runs.specs.PutTogether.{with_all, AreLetIn, PutTogetherIsJoined}

put_behind : (ws : List Journal) (j : Joining) → AreLetIn j ws
    → ((with_all j ws).lines ≡ joined j.lines (map (λ w. w.lines) ws)) × HaveRoom j.lines (map (λ w. w.lines) ws)
put_behind [] j let_in = (refl, tt)
put_behind (w ∷ ws) j let_in =
    let rest = put_behind ws (with_next j w) let_in.2 in
    (rest.0, (let_in.1, rest.1))

pub put_together : PutTogetherIsJoined
put_together v ws let_in = put_behind ws (one v) let_in
