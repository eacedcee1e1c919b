use Rattle.std.specs.Prelude.{Option}
use Rattle.std.proofs.Common.{rules, subst, refl, inr}
use Rattle.joined_evidence.specs.declared.span_searching.SpanEvidence.{SpanEvidence}
use Rattle.joined_evidence.specs.Walking.{IsTried}
use Rattle.joined_evidence.proofs.stretches.stretch_at.Goals as goal

pub returns-in-Some : goal.returns-in-Some
returns-in-Some g c =
    let had = g.F.JournalFiles.had c.args.files.now in (
      (
        c.in_ok-reply.reply,
        c.in_ok-reply.ensures,
        (let t = c.finds_nothing.ensures in let n = c.if-not-finds_nothing.false in search rules),
      ),
      subst (λ (o : Option SpanEvidence). IsTried had c.args.archive.now c.args.query.now o) c.in-Some.is
          c.in_ok-evidence.ensures,
      refl,
    )

pub returns-in-None : goal.returns-in-None
returns-in-None g c =
    let had = g.F.JournalFiles.had c.args.files.now in (
      c.in_ok-reply.ensures,
      refl,
      inr (subst (λ (o : Option SpanEvidence). IsTried had c.args.archive.now c.args.query.now o) c.in-None.is
          c.in_ok-evidence.ensures),
    )
