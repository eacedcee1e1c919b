use Rattle.std.specs.Prelude.{ℕ}
use Rattle.std.proofs.Common.{subst}
use Rattle.joined_rulings.specs.Between.{AreWithinReach}
use Rattle.joined_rulings.proofs.Trials.{within_so}
use Rattle.joined_rulings.proofs.trying.tried_within.Goals as goal

pub returns : goal.returns
returns g c =
    let had = g.F.JournalFiles.had c.args.files.now in
    let spans = c.args.spans.now in
    let q = c.args.query.now in
    within_so had c.args.archive.now spans c.args.read.now q c.args.claim.now
    (subst (λ (n : ℕ). AreWithinReach c.args.archive.now spans q.at n) c.reach_over-reach.ensures.reach
    (c.are_within_reach.ensures.0 c.if-not-are_within_reach.false)) c.tried_over.result c.tried_over.ensures
