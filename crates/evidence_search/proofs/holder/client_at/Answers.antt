use Rattle.std.proofs.Common.{subst, ◌≡◌, ◌≤◌, ℕ, MatchOption, true, false}
use Rattle.plain_search.specs.declared.query.Query.{Query}
use Rattle.plain_search.specs.Search.{CarriesAt, IsReach}
use Rattle.evidence_search.proofs.Holders.{not_carried}
use Rattle.evidence_search.proofs.holder.client_at.Goals as goal

-- neither single lines nor, where they were asked, messages have the moment in what the line carries
pub returns-in_default-messages-clause-client : goal.returns-in_default-messages-clause-client
returns-in_default-messages-clause-client g c =
    let js = g.S.Lines.journals c.args.source.now in
    let at = c.args.at in
    let found = subst (λ (q : Query). MatchOption c.in_ok-plain.plain ((m : ℕ) → q.from ≤ m → CarriesAt js q m at
    → ⊥) (λ x. (x.grant ≡ at) × IsReach js q x)) c.held_by-held.ensures c.in_ok-plain.ensures.reach in
    not_carried js c.args.query.now at c.in-Some.lease c.in-Some.ensures c.in_ok-plain.plain found
    (λ h. let e : false ≡ true = c.if-carries.ensures.1 h in cc)

pub returns-clause-client : goal.returns-clause-client
returns-clause-client g c =
    let js = g.S.Lines.journals c.args.source.now in
    let at = c.args.at in
    let found = subst (λ (q : Query). MatchOption c.in_ok-plain.plain ((m : ℕ) → q.from ≤ m → CarriesAt js q m at
    → ⊥) (λ x. (x.grant ≡ at) × IsReach js q x)) c.held_by-held.ensures c.in_ok-plain.ensures.reach in
    not_carried js c.args.query.now at c.in-Some.lease c.in-Some.ensures c.in_ok-plain.plain found
    (λ h. let e : false ≡ true = c.if-carries.ensures.1 h in cc)
