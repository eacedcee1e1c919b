use Rattle.std.proofs.Common.{subst, ◌≡◌, ◌+◌, ℕ, IfOk}
use Rattle.causal_order.specs.declared.certificate.Certificate.{Certificate}
use Rattle.plain_search.specs.declared.query.Query.{Query}
use Rattle.evidence_search.specs.Claim.{between, HasNoPlainEvidence, IsNotTold, IsTooLong}
use Rattle.evidence_search.specs.Search.{IsShownRound}
use Rattle.evidence_search.proofs.Widened.{round_of, accepted_of, true_of, widest_of}
use Rattle.evidence_search.proofs.holder.widest_of.Goals as goal

pub returns-clause-round : goal.returns-clause-round
returns-clause-round g c =
    let js = g.S.Lines.journals c.args.source.now in
    let round = subst (λ (q : Query). IfOk c.widest.result (IsShownRound js q)) c.held_by-held.ensures
    c.widest.ensures.round in
    round_of js c.args.query.now c.args.holder c.widest.result round

pub returns-clause-shown : goal.returns-clause-shown
returns-clause-shown g c =
    let js = g.S.Lines.journals c.args.source.now in
    let round = subst (λ (q : Query). IfOk c.widest.result (IsShownRound js q)) c.held_by-held.ensures
    c.widest.ensures.round in
    accepted_of js c.args.query.now c.args.holder c.widest.result round

pub returns-clause-headline : goal.returns-clause-headline
returns-clause-headline g c =
    let js = g.S.Lines.journals c.args.source.now in
    let round = subst (λ (q : Query). IfOk c.widest.result (IsShownRound js q)) c.held_by-held.ensures
    c.widest.ensures.round in
    true_of js c.args.query.now c.args.holder c.widest.result round

pub returns-clause-widest : goal.returns-clause-widest
returns-clause-widest g c =
    let js = g.S.Lines.journals c.args.source.now in
    let round = subst (λ (q : Query). IfOk c.widest.result (IsShownRound js q)) c.held_by-held.ensures
    c.widest.ensures.round in
    let earliest = subst (λ (q : Query). IfOk c.widest.result (λ (k : Certificate). (m : ℕ) → m + 1 ≡ k.from
    → IsNotTold js (between q m q.to))) c.held_by-held.ensures c.widest.ensures.earliest in
    let latest =
    subst (λ (q : Query). IfOk c.widest.result (λ (k : Certificate).
    IsNotTold js (between q k.from (k.to + 1)))) c.held_by-held.ensures c.widest.ensures.latest in
    widest_of js c.args.query.now c.args.holder c.widest.result round earliest latest

pub returns-clause-none : goal.returns-clause-none
returns-clause-none g c none = subst (λ (q : Query). HasNoPlainEvidence (g.S.Lines.journals c.args.source.now) q)
    c.held_by-held.ensures (c.widest.ensures.none none)

pub returns-clause-long : goal.returns-clause-long
returns-clause-long g c long = subst (λ (q : Query). IsTooLong (g.S.Lines.journals c.args.source.now) q)
    c.held_by-held.ensures (c.widest.ensures.long long)
