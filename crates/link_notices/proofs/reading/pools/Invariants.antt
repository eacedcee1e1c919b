use Rattle.std.proofs.Common.{◌≡◌, length}
use Rattle.link_notices.specs.Parsing.{pools_of}
use Rattle.link_notices.proofs.PoolLaws.{behind_pools}
use Rattle.link_notices.proofs.reading.pools.Given as goal

-- the pools so far and those of the words that are left are those of all words
abbrev pub invariant-loop-words : goal.invariant-loop-words
invariant-loop-words l = behind_pools l.pools.items (pools_of l.words) ≡ pools_of l.fn.words

abbrev pub decreases-loop-words : goal.decreases-loop-words
decreases-loop-words l = length l.words
