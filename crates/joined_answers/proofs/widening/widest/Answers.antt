use Rattle.std.proofs.Common.{rules, subst}
use Rattle.joined_answers.specs.declared.widening.WiderTry.{WiderTry}
use Rattle.joined_answers.specs.Widening.{IsWiderTry}
use Rattle.joined_answers.specs.Reach.{reach}
use Rattle.joined_answers.proofs.Walk.{wider_so, falls, not_asked, not_within, refused_so}
use Rattle.joined_answers.proofs.widening.widest.Goals as goal
use Rattle.joined_answers.proofs.widening.widest.Goals.{then-loop-read-test+else-may_widen, else-loop-read-test}

pub loop-read-smaller : goal.loop-read-smaller
loop-read-smaller g c =
    let had = g.F.JournalFiles.had c.args.files.now in
    let wider = subst (λ (w : WiderTry). IsWiderTry had c.args.archive.now c.args.query.now c.args.settings
    c.loop-read.read w) c.in-Answered.is c.in_ok-wider.ensures in
    falls had c.args.archive.now c.args.query.now.at (reach c.args.query.now c.loop-read.read) c.loop-read.read
    c.in-Answered.wider c.loop-read.invariant.spans wider.widened
    (let n = c.if-may_widen.true in c.may_widen.ensures.0 (search rules))

pub loop-read-preserved : goal.loop-read-preserved
loop-read-preserved g c =
    let had = g.F.JournalFiles.had c.args.files.now in
    let wider = subst (λ (w : WiderTry). IsWiderTry had c.args.archive.now c.args.query.now c.args.settings
    c.loop-read.read w) c.in-Answered.is c.in_ok-wider.ensures in
    wider_so had c.args.archive.now c.args.query.now c.args.settings c.args.begun c.args.first c.loop-read.read
    c.loop-read.last c.loop-read.invariant c.in-Answered.wider c.in-Answered.answer
    (let t = c.asks_further.ensures in let n = c.loop-read-test.true in search rules)
    (let n = c.if-may_widen.true in c.may_widen.ensures.0 (search rules)) wider

pub returns-in-Refused-clause-widest : goal.returns-in-Refused-clause-widest
returns-in-Refused-clause-widest g c =
    let had = g.F.JournalFiles.had c.args.files.now in
    refused_so had c.args.archive.now c.args.query.now c.args.settings c.args.begun c.args.first c.loop-read.read
    c.loop-read.last c.loop-read.invariant
    (subst (λ (w : WiderTry). IsWiderTry had c.args.archive.now c.args.query.now c.args.settings c.loop-read.read w)
    c.in-Refused.is c.in_ok-wider.ensures)

pub returns-clause-widest : goal.returns-clause-widest
returns-clause-widest g c =
    let had = g.F.JournalFiles.had c.args.files.now in
    elim c.loop-read-test.branch [
      | then-loop-read-test+else-may_widen w ↦ not_within had c.args.archive.now c.args.query.now c.args.settings
          c.args.begun c.args.first c.loop-read.read c.loop-read.last c.loop-read.invariant
          (λ may. let t = w.may_widen.ensures in let n = w.if-may_widen.false in search rules)
      | else-loop-read-test w ↦ not_asked had c.args.archive.now c.args.query.now c.args.settings c.args.begun
          c.args.first c.loop-read.read c.loop-read.last c.loop-read.invariant
          (λ asks. let t = c.asks_further.ensures in let n = w.loop-read-test.false in search rules)
    ]
