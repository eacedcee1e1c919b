use Rattle.std.proofs.Common.{length}
use Rattle.text_fields.specs.Cuts.{split}
use Rattle.certificate.proofs.Chains.{IsRead}
use Rattle.certificate.proofs.fields.chain_of.Given as goal

abbrev pub invariant-loop-word : goal.invariant-loop-word
invariant-loop-word l = IsRead (split 62 l.fn.word) l.refs.items l.words

abbrev pub decreases-loop-word : goal.decreases-loop-word
decreases-loop-word l = length l.words
