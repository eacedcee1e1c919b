use Rattle.std.proofs.Common.{◌≢◌, ◌<◌, Option, subst, rules}
use Rattle.std.specs.Prelude.{IfSome}
use Rattle.journal_heads.specs.declared.heads.FileBounds.{FileBounds}
use Rattle.journal_heads.specs.Heads.{SaysBounds}
use Rattle.journal_heads.proofs.heads.agreed.Goals as goal

pub returns-in-Some-clause-why : goal.returns-in-Some-clause-why
returns-in-Some-clause-why g c =
    let had = g.F.JournalFiles.had c.args.files.now in
    let known = subst (λ (o : Option FileBounds). IfSome o
    (λ k. (k.file < g.F.JournalFiles.files c.args.files.now) × SaysBounds (had k.file) k.bounds)) c.in-Some.is
    c.requires.known in
    let differ : c.in-Some.known.bounds ≢ c.args.said.now.bounds =
    let is = c.ne.ensures in let yes = c.if-ne.true in search rules in
    record {
      one = c.in-Some.known.bounds;
      other = c.args.said.now.bounds;
      is_one = known.0;
      is_other = c.requires.within;
      says = known.1;
      says_other = c.requires.said;
      differ = differ;
    }
