-- By what a server tells grants again.
use Rattle.std.specs.Prelude.{ℕ}
use Rattle.server_settings.specs.Settings.{ServerSettings}
use Rattle.client_service.specs.declared.terms.ReuseTerms.{ReuseTerms}

-- by its settings, and the age in seconds from which on a grant isn't told again
abbrev pub terms_of : ServerSettings → ℕ → ReuseTerms
terms_of s floor = record { floor = floor; skew = s.skew; transit = s.transit }
