use Rattle.std.proofs.Common.{subst, refl}
use Rattle.archive_desk.specs.Certificates.{AreJudged, AreTaken}
use Rattle.archive_desk.proofs.Taken.{taken_judged}
use Rattle.archive_desk.proofs.certificates.judged_over.Goals as goal

pub returns : goal.returns
returns g c =
    let had = g.F.JournalFiles.had c.args.files.now in
    let b = c.args.bounds.now in
    let all = c.in_ok-all.all in
    let judged = c.in_ok-judged.judged.items in record {
      bounded = refl;
      warned = c.in_ok-all.ensures.warnings;
      judged = subst (λ ts. AreJudged had c.args.archive.now b.skew b.transit ts judged) c.in_ok-all.ensures.texts
          (taken_judged had c.args.archive.now b.skew b.transit all.waiting.items judged c.in_ok-all.ensures.waiting
          (subst (λ ws. AreTaken ws judged) c.deref.ensures.value c.in_ok-judged.ensures));
    }
