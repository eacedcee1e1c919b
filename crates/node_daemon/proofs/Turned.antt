-- Turns, one after the other.
use Rattle.std.specs.Prelude.{◌≡◌, ℕ, List, [], Option}
use Rattle.std.proofs.Common.{sym, subst}
use Rattle.daemon_io.specs.ConnectionWrites.{Sent}
use Rattle.server_core.specs.ServerStates.{CoreState}
use Rattle.server_clocks.specs.declared.clocks.Moment.{Moment}
use Rattle.daemon_endpoints.specs.declared.arrival.Arrival.{Arrival}
use Rattle.daemon_endpoints.specs.Receiving.{MayReceive, nothing, HasSameFiles, HasHeard}
use Rattle.daemon_endpoints.specs.Saying.{MayStand, SaysOver}
use Rattle.daemon_endpoints.proofs.Files.{same_files, same_on, heard_nothing, heard_on}
use Rattle.daemon_endpoints.proofs.Given.{may_stand, said_nothing}
use Rattle.node_daemon.specs.Turning.{Ways, ways, MayRoll, SendsAfterCommit, IsTurn, Turns, more, SinceThen, HasTurned}

-- nothing came
pub none_heard : {Line : Type 0} (Listens : Line → Line → Type 0) (a b : Line) → b ≡ a → MayReceive Listens a b
none_heard Listens a b is = subst (λ way. MayReceive Listens a way) (sym is) nothing

-- what puts nothing to the disk, and is no client's
pub heard_none : {P : Type 0} (gives : Moment → Type 0) (a b : CoreState (Arrival P)) → HasSameFiles a b
    → HasHeard gives a b
heard_none gives a b same = heard_nothing gives a b same

-- one behind the other
pub none_then : {P : Type 0} (a b c : CoreState (Arrival P)) → HasSameFiles a b → HasSameFiles b c → HasSameFiles a c
none_then a b c h k = same_on a b c h k

-- nothing was done, nor put to the disk
pub none_same : {P : Type 0} (a b : CoreState (Arrival P)) → b ≡ a → HasSameFiles a b
none_same a b is = same_files a b is

-- nothing was done
pub heard_same : {P : Type 0} (gives : Moment → Type 0) (a b : CoreState (Arrival P)) → b ≡ a → HasHeard gives a b
heard_same gives a b is = heard_nothing gives a b (same_files a b is)

-- clients were heard, and what came then put nothing to the disk
pub heard_then : {P : Type 0} (gives : Moment → Type 0) (a b c : CoreState (Arrival P)) → HasHeard gives a b
    → HasSameFiles b c → HasHeard gives a c
heard_then gives a b c h same = heard_on gives a b c h (heard_nothing gives b c same)

-- nobody came
pub nobody_came : (a b : Option Sent) → b ≡ a → MayStand a b
nobody_came a b is = subst (λ link. MayStand a link) (sym is) (may_stand a)

-- nothing was said
pub nothing_said : (a b : Option Sent) → b ≡ a → SaysOver [] a b
nothing_said a b is = subst (λ link. SaysOver [] a link) (sym is) (said_nothing a)

-- nothing was said, and nobody came
pub nothing_since : {Line : Type 0} (Listens : Line → Line → Type 0) (a b : Ways Line) → b.datagrams ≡ a.datagrams
    → SaysOver [] a.link b.link → SinceThen Listens a b
nothing_since Listens a b same says = record {
  hears = none_heard Listens a.datagrams b.datagrams same;
  stood = a.link;
  stands = may_stand a.link;
  said = says;
}

-- what was heard, and nothing said
pub heard_since : {Line : Type 0} (Listens : Line → Line → Type 0) (a b : Ways Line)
    → MayReceive Listens a.datagrams b.datagrams → MayStand a.link b.link → SinceThen Listens a b
heard_since Listens a b hears stands =
    record { hears = hears; stood = b.link; stands = stands; said = said_nothing b.link }

module _ {P Line : Type 0} (gives : Moment → Type 0) (fails : Type 0) (Listens : Line → Line → Type 0)
    (Sends : Line → P → List ℕ → Line → Type 0) (transit : ℕ) where
  -- a turn by what its calls keep: the ways when it woke, when it had heard, and when it told
  pub is_turn : (way woke heard told : Line) (link woke_link heard_link told_link : Option Sent) (next : Ways Line)
      (old ready begun new : CoreState (Arrival P)) → woke ≡ way → woke_link ≡ link → MayReceive Listens woke heard
      → MayStand woke_link heard_link → HasHeard gives old ready → MayRoll ready begun → told ≡ heard
      → told_link ≡ heard_link → (t : ℕ) → t ≡ transit
      → SendsAfterCommit gives fails Sends t (ways told told_link) begun next new
      → IsTurn gives fails Listens Sends transit (ways way link) old next new
  is_turn way woke heard told link woke_link heard_link told_link next old ready begun new same_way same_link hears
      stands same rolls same_told same_told_link t same_transit tells = record {
        heard = ways heard heard_link;
        hears = subst (λ d. MayReceive Listens d heard) same_way hears;
        stands = subst (λ l. MayStand l heard_link) same_link stands;
        ready = ready;
        same = same;
        begun = begun;
        rolls = rolls;
        tells = subst (λ n. SendsAfterCommit gives fails Sends n (ways heard heard_link) begun next new) same_transit
            (subst (λ d. SendsAfterCommit gives fails Sends t (ways d heard_link) begun next new) same_told
            (subst (λ l. SendsAfterCommit gives fails Sends t (ways told l) begun next new) same_told_link tells));
      }

  module _ (first : Ways Line) (begun : CoreState (Arrival P)) where
    pub one_more_turn : (way : Ways Line) (old : CoreState (Arrival P)) (next : Ways Line)
        (new : CoreState (Arrival P)) → Turns gives fails Listens Sends transit first begun way old → (same : ℕ)
        → same ≡ transit → IsTurn gives fails Listens Sends same way old next new
        → Turns gives fails Listens Sends transit first begun next new
    one_more_turn way old next new turns same is turn =
        more way old next new turns (subst (λ t. IsTurn gives fails Listens Sends t way old next new) is turn)

    pub has_turned : (way : Ways Line) (reached : CoreState (Arrival P)) (last : Ways Line)
        → Turns gives fails Listens Sends transit first begun way reached → SinceThen Listens way last
        → HasTurned gives fails Listens Sends transit first begun last
    has_turned way reached last turns since = (way, reached, turns, since)
