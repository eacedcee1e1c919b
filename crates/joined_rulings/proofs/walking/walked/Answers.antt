use Rattle.std.specs.Prelude.{Option, MatchOption}
use Rattle.std.proofs.Common.{rules, subst, inl, inr}
use Rattle.volume_spans.specs.declared.spans.ReadSpans.{ReadSpans}
use Rattle.volume_spans.specs.Spans.{ArePairRead}
use Rattle.joined_answers.specs.Reach.{reach}
use Rattle.joined_answers.specs.Widening.{AreWidenedWithin}
use Rattle.joined_answers.proofs.Walk.{falls}
use Rattle.joined_rulings.specs.Walking.{HasBarrier}
use Rattle.joined_rulings.proofs.Onward.{wider_so, barred_so, ended_so}
use Rattle.joined_rulings.proofs.walking.walked.Goals as goal
use Rattle.joined_rulings.proofs.walking.walked.Goals.{then-loop-read-test+else-may_widen, else-loop-read-test}

pub returns-in_default : goal.returns-in_default
returns-in_default g c =
    let had = g.F.JournalFiles.had c.args.files.now in
    let q = c.args.query.now in
    let archive = c.args.archive.now in
    let read = c.loop-read.read in
    barred_so had archive q c.args.claim.now c.args.begun read c.loop-read.trial c.loop-read.invariant
    (let t = c.is_carried.ensures in let n = c.loop-read-test.true in search rules)
    (subst (λ (o : Option ReadSpans). MatchOption o (HasBarrier had) (λ s. AreWidenedWithin q.at (reach q read) read s
    × ArePairRead had archive s)) c.in_default.is c.in_ok-wider.ensures)

pub loop-read-smaller : goal.loop-read-smaller
loop-read-smaller g c =
    let had = g.F.JournalFiles.had c.args.files.now in
    let q = c.args.query.now in
    let archive = c.args.archive.now in
    let read = c.loop-read.read in
    let wider = subst (λ (o : Option ReadSpans). MatchOption o (HasBarrier had) (λ s. AreWidenedWithin q.at
    (reach q read) read s × ArePairRead had archive s)) c.in-Some.is c.in_ok-wider.ensures in
    falls had archive q.at (reach q read) read c.in-Some.wider c.loop-read.invariant.spans wider.0
    (let n = c.if-may_widen.true in c.may_widen.ensures.0 (search rules))

pub loop-read-preserved : goal.loop-read-preserved
loop-read-preserved g c =
    let had = g.F.JournalFiles.had c.args.files.now in
    let q = c.args.query.now in
    let archive = c.args.archive.now in
    let read = c.loop-read.read in
    let wider = subst (λ (o : Option ReadSpans). MatchOption o (HasBarrier had) (λ s. AreWidenedWithin q.at
    (reach q read) read s × ArePairRead had archive s)) c.in-Some.is c.in_ok-wider.ensures in
    wider_so had archive q c.args.claim.now c.args.begun read c.loop-read.trial c.loop-read.invariant
    (let t = c.is_carried.ensures in let n = c.loop-read-test.true in search rules)
    (let n = c.if-may_widen.true in c.may_widen.ensures.0 (search rules)) c.in-Some.wider wider.0 wider.1
    c.in_ok-trial-2.trial c.in_ok-trial-2.ensures

pub returns : goal.returns
returns g c =
    let had = g.F.JournalFiles.had c.args.files.now in
    let q = c.args.query.now in
    let archive = c.args.archive.now in
    let ended = ended_so had archive q c.args.claim.now c.args.begun c.loop-read.read c.loop-read.trial
    c.loop-read.invariant (elim c.loop-read-test.branch [
      | then-loop-read-test+else-may_widen w ↦ inr
          (λ may. let t = w.may_widen.ensures in let n = w.if-may_widen.false in search rules)
      | else-loop-read-test w ↦ inl
          (λ carried. let t = c.is_carried.ensures in let n = w.loop-read-test.false in search rules)
    ]) in
    let same = c.into_accepted.ensures in
    search rules
