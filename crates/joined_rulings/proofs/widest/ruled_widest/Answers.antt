use Rattle.std.proofs.Common.{refl, subst, List, ◌∙◌, ap, length}
use Rattle.archive_desk.specs.declared.judging.ArchiveJudgement.{ArchiveJudgement}
use Rattle.joined_rulings.specs.Rulings.{AreRulings}
use Rattle.attribution_desk.specs.Claims.{texts_of}
use Rattle.joined_rulings.proofs.Truth.{all_so}
use Rattle.joined_rulings.proofs.Listed.{as_many}
use Rattle.joined_rulings.proofs.widest.ruled_widest.Goals as goal

pub returns : goal.returns
returns g c =
    let had = g.F.JournalFiles.had c.args.files.now in
    let archive = c.args.archive.now in
    let bounds = c.args.bounds.now in
    let texts = texts_of c.args.claims.now in
    let own = c.in_ok-own.own in
    let ruled = subst (λ (js : List ArchiveJudgement). AreRulings had archive bounds texts js
    c.in_ok-rulings.rulings.items) c.deref.ensures.value c.in_ok-rulings.ensures in
    record {
      own = own;
      is_own = c.in_ok-own.ensures;
      warned = refl;
      ruled = ruled;
      accepted = all_so c.accepted_is_true.ensures.accepted had archive bounds texts own.judged.items
          c.in_ok-rulings.rulings.items c.in_ok-own.ensures.judged ruled;
    }

pub rulings_on-requires-after_bounds : goal.rulings_on-requires-after_bounds
rulings_on-requires-after_bounds g c κs within =
    ap (λ (js : List ArchiveJudgement). length js) c.deref.ensures.value
    ∙ as_many (g.F.JournalFiles.had c.args.files.now) c.args.archive.now c.args.bounds.now.skew
    c.args.bounds.now.transit c.args.claims.now c.in_ok-own.own.judged.items c.in_ok-own.ensures.judged
