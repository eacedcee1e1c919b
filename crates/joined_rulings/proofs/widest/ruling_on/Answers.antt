use Rattle.std.specs.Prelude.{Option}
use Rattle.std.proofs.Common.{rules, subst, refl, inr}
use Rattle.certificate.specs.Faults.{certificate_of}
use Rattle.joined_rulings.specs.declared.trial.SpanAcceptance.{SpanAcceptance}
use Rattle.joined_rulings.specs.Trying.{IsTried}
use Rattle.joined_rulings.proofs.Trials.{joined_on, none_on}
use Rattle.joined_rulings.proofs.widest.ruling_on.Goals as goal

pub returns-in-Some : goal.returns-in-Some
returns-in-Some g c =
    let had = g.F.JournalFiles.had c.args.files.now in
    let tried = subst (λ (o : Option SpanAcceptance). IsTried had c.args.archive.now c.args.bounds.now c.in-Ok.claim o)
    c.in-Some.is c.in_ok-accepted.ensures in (
      (λ yes. let t = c.accepts.ensures in let n = c.if-accepts.false in search rules),
      joined_on had c.args.archive.now c.args.bounds.now (certificate_of c.args.text.now) c.in-Ok.claim
          c.in-Ok.ensures.exact c.in-Some.accepted tried,
    )

pub returns : goal.returns
returns g c =
    let had = g.F.JournalFiles.had c.args.files.now in
    let tried = subst (λ (o : Option SpanAcceptance). IsTried had c.args.archive.now c.args.bounds.now c.in-Ok.claim o)
    c.in-None.is c.in_ok-accepted.ensures in (
      refl,
      inr (none_on had c.args.archive.now c.args.bounds.now (certificate_of c.args.text.now) c.in-Ok.claim
          c.in-Ok.ensures.exact tried),
    )
