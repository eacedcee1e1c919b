-- What is decided of IA_PDs, one after the other.
use Rattle.std.proofs.Common.{ℕ, List}
use Rattle.dhcp6_pd.specs.declared.message.IaPd.{IaPd}
use Rattle.client_service.specs.declared.permit.Permit.{Permit}
use Rattle.client_limits.specs.declared.quotas.LimitContext.{LimitContext}
use Rattle.client_limits.specs.declared.quotas.Requester.{Requester}
use Rattle.client_limits.specs.Contexts.{known_of, asking_of}
use Rattle.client_limits.specs.Quotas.{permits_from}

abbrev pub all_permits : LimitContext → Requester → ℕ → ℕ → List IaPd → List Permit
all_permits k a place more ias = permits_from (known_of k) (asking_of a) place more ias
