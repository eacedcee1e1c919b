-- Laws of what is told again. Moments of true time are in milliseconds: a line was written at one, its reading within
-- the skew; it is told again at another, whose reading is no more than the skew below it; and the answer comes within
-- the transit.
use Rattle.std.specs.Prelude.{ℕ, ◌+◌, ◌*◌, ◌≤◌}
use Rattle.client_service.specs.declared.terms.ReuseTerms.{ReuseTerms}
use Rattle.client_service.specs.ReusableLeases.{MayReuse}
use Rattle.client_service.specs.EarlyReleases.{MayBeToldAgain}

-- What it tells ends by then within the line's own lifetime, counted from the moment at which that was written.
abbrev pub ReuseIsWithin : Type 0
ReuseIsWithin = (t : ReuseTerms) (granted valid own_end now anew told written asked came : ℕ)
    → MayReuse t granted valid own_end now anew told
    → granted ≤ written + t.skew → asked ≤ now + t.skew → came ≤ asked + t.transit
    → came + 1000 * told ≤ written + 1000 * valid

-- What it tells ends by then at least the skew before the unit's end, as the server's book has it.
abbrev pub ReuseEndsBefore : Type 0
ReuseEndsBefore = (t : ReuseTerms) (granted valid own_end now anew told asked came : ℕ)
    → MayReuse t granted valid own_end now anew told → asked ≤ now + t.skew → came ≤ asked + t.transit
    → came + 1000 * told + t.skew ≤ own_end

-- After a release that isn't early the partner tells nothing again that it granted before and told of: whatever the two
-- clocks do within the skew. `now` is the releasing server's reading, and `read` the partner's when it is asked later.
abbrev pub NothingIsToldAgain : Type 0
NothingIsToldAgain = (t : ReuseTerms) (life told granted valid own_end now read anew again released asked : ℕ)
    → granted + 2000 * life ≤ told → (MayBeToldAgain t life told now → ⊥)
    → now ≤ released + t.skew → released ≤ asked → asked ≤ read + t.skew
    → MayReuse t granted valid own_end read anew again → ⊥
