use Rattle.std.proofs.Common.{◌∙◌, ℕ, ◌<◌, ◌≤◌, List, length, sym, ap, subst, arith}
use Rattle.std.proofs.Math.Path.{subst₂}
use Rattle.std.specs.Prelude.{IfOk, IfSome}
use Rattle.std.proofs.lemmas.List.Elements.{All-pop}
use Rattle.attribution.specs.declared.verdict.Verdict.{Verdict}
use Rattle.parallel_check.specs.Counting.{times}
use Rattle.parallel_check.specs.declared.drawing.IndexedVerdict.{IndexedVerdict}
use Rattle.parallel_check.specs.Verdicts.{IsVerdictAt}
use Rattle.parallel_check.specs.Findings.{IsDone, IsDrawn, Settled}
use Rattle.parallel_check.proofs.Placing.{settle_step, past_step, has_room}
use Rattle.parallel_check.proofs.settling.settled.Goals as goal

pub seats-preserved : goal.seats-preserved
seats-preserved g c =
    let i = c.seats.invariant in
    let batch = c.args.batch.now in
    let Q : ℕ → Verdict → Type 0 = IsVerdictAt (g.S.Lines.journals batch.source.now) batch.skew batch.transit
    batch.certificates.now in
    let count = length batch.certificates.now in
    let popped = All-pop (IsDone Q count c.args.word.now.table_id) c.seats.done.items c.pop.new.self.items c.pop.result
    c.pop.ensures.items i.done in
    let d = subst (λ o. IfSome o (IsDone Q count c.args.word.now.table_id)) c.in-Some.is popped.1 in
    let found = subst (λ r. IfOk r (λ found. IsDrawn Q count c.in-Some.field-0.seat.me.0.numbers found.items))
    c.in-Ok.is d.found in
    let drawn = subst (λ (fs : List IndexedVerdict). IsDrawn Q count c.in-Some.field-0.seat.me.0.numbers fs)
    (sym c.deref.ensures.value) found in
    let joined = c.take_in.ensures.1 in
    let numbers = ap (λ m. m.0.numbers) joined in
    let parts = ap (λ m. m.0.parts) joined in
    let one = d.parts in
    let len = c.in-Some.ensures.len in
    let before = i.parts in
    let room = i.room in
    let shorter = i.shorter in record {
      room = c.place.auto.verdicts ∙ room;
      table = c.take_in.ensures.0 ∙ i.table;
      limit = ap (λ m. m.0.limit) joined ∙ i.limit;
      parts = omega arith;
      shorter = omega arith;
      done = popped.0;
      settled = subst₂ (λ (n : List ℕ) (vs : List Verdict). Settled Q count n vs) (sym numbers) (sym c.place.ensures)
          (settle_step Q count c.seats.verdicts c.seats.mine.me.0.numbers c.in-Some.field-0.seat.me.0.numbers
          c.deref.result.now i.settled drawn room);
      past = λ fewer. subst (λ (ns : List ℕ). (n : ℕ) × (count ≤ n) × (0 < times n ns)) (sym numbers)
          (past_step Q count c.seats.mine.me.0.numbers c.in-Some.field-0.seat.me.0.numbers c.deref.result.now drawn);
    }

pub place-requires : goal.place-requires
place-requires g c =
    let batch = c.args.batch.now in
    let Q : ℕ → Verdict → Type 0 = IsVerdictAt (g.S.Lines.journals batch.source.now) batch.skew batch.transit
    batch.certificates.now in
    let count = length batch.certificates.now in
    let popped = All-pop (IsDone Q count c.args.word.now.table_id) c.seats.done.items c.pop.new.self.items c.pop.result
    c.pop.ensures.items c.seats.invariant.done in
    let d = subst (λ o. IfSome o (IsDone Q count c.args.word.now.table_id)) c.in-Some.is popped.1 in
    let found = subst (λ r. IfOk r (λ found. IsDrawn Q count c.in-Some.field-0.seat.me.0.numbers found.items))
    c.in-Ok.is d.found in
    let drawn = subst (λ (fs : List IndexedVerdict). IsDrawn Q count c.in-Some.field-0.seat.me.0.numbers fs)
    (sym c.deref.ensures.value) found in
    has_room Q count c.deref.result.now c.seats.verdicts drawn.right c.seats.invariant.room
