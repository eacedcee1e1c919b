-- When an end says that it told all, and what it takes for the other's saying so.
use Rattle.std.specs.Prelude.{◌≡◌, ◌||◌, ℕ, Bool, true, false, List, ◌++◌}
use Rattle.std.specs.List.{list_any}
use Rattle.failover_message.specs.declared.frame.Frame.{Frame}
use Rattle.failover_message.specs.declared.frame.FrameKind.{FrameKind}
use Rattle.failover_message.specs.declared.frame.FrameKind.TheVariants.{UpdateDone}
use Rattle.failover_message.specs.Stream.{Splits}
use Rattle.failover_session.specs.declared.link_input.LinkInput.{LinkInput}
use Rattle.failover_session.specs.declared.link_input.LinkInput.TheVariants.{Octets}
use Rattle.failover_session.specs.declared.policy.SessionPolicy.{SessionPolicy}
use Rattle.failover_session.specs.declared.policy.SessionPolicy.TheVariants.{Run, Serve}
use Rattle.failover_session.specs.declared.session_state.ResendRequest.{ResendRequest}
use Rattle.failover_session.specs.declared.session_state.ResendRequest.TheVariants.{Nothing, Due, All}
use Rattle.failover_session.specs.declared.updates_done.RoundEnd.{RoundEnd}
use Rattle.failover_session.specs.declared.updates_done.RoundEnd.TheVariants.{Silent, Done, DoneOnceUnmarked}

-- Behind a round that tells again what the partner asked for, as it asked (UPDREQ, UPDREQALL); else behind a daemon's
-- first round on a connection, once no unit is marked.
abbrev pub round_end : SessionPolicy → ResendRequest → (is_first : Bool) → RoundEnd
round_end policy Due is_first = Done
round_end policy All is_first = DoneOnceUnmarked
round_end Serve Nothing true = DoneOnceUnmarked
round_end Serve Nothing false = Silent
round_end Run Nothing is_first = Silent

abbrev pub is_done : FrameKind → Bool
is_done UpdateDone = true
is_done _ = false

-- one of the frames says that the other end told all
abbrev pub says_all : List Frame → Bool
says_all frames = list_any (λ f. is_done f.kind) frames

-- Whether the partner has told all over this connection, before and behind what came: since one of the frames that came
-- says so.
abbrev pub HasToldAll : LinkInput → (held : List ℕ) → (before after : Bool) → Type 0
HasToldAll (Octets octets) held before after =
    (frames : List Frame) × (rest : List ℕ) × Splits (held ++ octets.now) frames rest
    × (after ≡ (before || says_all frames))
HasToldAll _ held before after = after ≡ before
