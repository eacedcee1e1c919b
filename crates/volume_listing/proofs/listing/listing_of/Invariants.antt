use Rattle.std.specs.List.{All}
use Rattle.volume_listing.specs.Listing.{IsListedOf}
use Rattle.volume_listing.proofs.listing.listing_of.Given as goal

abbrev pub invariant-loop-file : goal.invariant-loop-file
invariant-loop-file g l = All (λ v. IsListedOf (g.F.JournalFiles.had l.files) v.file v.volume) l.volumes.items
