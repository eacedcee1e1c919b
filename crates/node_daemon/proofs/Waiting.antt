-- What happens before a server begins, one behind the other.
use Rattle.std.specs.Prelude.{◌≡◌, [], Option}
use Rattle.std.proofs.Common.{sym, subst}
use Rattle.daemon_io.specs.ConnectionWrites.{Sent}
use Rattle.daemon_endpoints.specs.Receiving.{MayReceive, nothing, more}
use Rattle.daemon_endpoints.specs.Saying.{MayStand, SaysOver}
use Rattle.node_daemon.specs.Beginning.{Meets, none, heard, said}

pub receive_on : {Line : Type 0} (Listens : Line → Line → Type 0) (a b c : Line) → MayReceive Listens a b
    → MayReceive Listens b c → MayReceive Listens a c
receive_on Listens a b _ h nothing = h
receive_on Listens a b _ h (more old new k step) = more old new (receive_on Listens a b old h k) step

pub meets_on : (a b c : Option Sent) → Meets a b → Meets b c → Meets a c
meets_on a b _ h none = h
meets_on a b _ h (heard old new k stands) = heard old new (meets_on a b old h k) stands
meets_on a b _ h (said old new k says) = said old new (meets_on a b old h k) says

-- nothing was heard, and nothing said
pub nothing_met : (a b : Option Sent) → b ≡ a → Meets a b
nothing_met a b same = subst (λ (x : Option Sent). Meets a x) (sym same) none

-- a turn: the partner is heard, and then the notices are said that are due
pub one_wait : (a b c d : Option Sent) → MayStand a b → c ≡ b → SaysOver [] c d → Meets a d
one_wait a b c d stands same says =
    said b d (heard a b none stands) (subst (λ (x : Option Sent). SaysOver [] x d) same says)

-- a turn, before and behind which nothing else was done
pub waits : (a b c d e f : Option Sent) → b ≡ a → MayStand b c → d ≡ c → SaysOver [] d e → f ≡ e → Meets a f
waits a b c d e f woke stands same says last =
    subst (λ (x : Option Sent). Meets x f) woke
    (subst (λ (x : Option Sent). Meets b x) (sym last) (one_wait b c d e stands same says))
