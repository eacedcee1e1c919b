use Rattle.std.proofs.Common.{◌≡◌, length}
use Rattle.text_fields.specs.Cuts.{split}
use Rattle.prefix_range.specs.Parsing.{groups_on}
use Rattle.prefix_range.proofs.address.with_words.Given as goal

-- the groups so far and the words that are left make the row
abbrev pub invariant-loop-word : goal.invariant-loop-word
invariant-loop-word l = groups_on l.row l.words ≡ groups_on l.fn.row (split 58 l.text)

abbrev pub decreases-loop-word : goal.decreases-loop-word
decreases-loop-word l = length l.words
