use Rattle.attribution.proofs.Listing.{listed_is_enough}
use Rattle.attribution.proofs.laws.listed_is_enough.Goals as goal

pub returns : goal.returns
returns c = listed_is_enough
