use Rattle.std.proofs.Common.{sym, subst, ap, ◌∙◌, Ok, Err}
use Rattle.client_service.specs.declared.permit.Permit.TheVariants.{Allowed}
use Rattle.client_service.specs.Ending.{EndsAs, Seizes}
use Rattle.client_service.proofs.Orders.{once_more, stays, ends_strange}
use Rattle.client_service.proofs.ordering.serve_or_seize.Goals as goal

pub returns-in-Ok-true : goal.returns-in-Ok-true
returns-in-Ok-true g c =
    let MayHave = g.S.BookService.may_have in
    let had = g.S.BookService.receipts c.args.pass.now in
    let mid = g.S.BookService.receipts c.serve_or_offer.new.pass in
    let behind = g.S.BookService.receipts c.seize_lowest.new.pass in
    let has = g.S.BookService.receipts c.serve_or_offer-in-Ok-true.new.pass in
    let seized = subst (λ r. Seizes MayHave c.args.now mid behind r) (c.in-Ok-true.is
    ∙ ap Ok c.in-Ok-true.field-0-test) c.seize_lowest.ensures in
    subst (λ p. EndsAs MayHave Allowed p c.args.kind c.args.now c.args.order.now had has c.serve_or_offer-in-Ok-true.result)
    (sym c.in-Down-NoPrefix.is-0)
    (once_more MayHave c.args.kind c.args.now c.args.order.now had mid has c.in-Ok.told c.in-Down-NoPrefix.is-1
    c.in-Ok.ensures
    behind c.serve_or_offer-in-Ok-true.result seized c.serve_or_offer-in-Ok-true.ensures)

pub returns-in-Ok-false : goal.returns-in-Ok-false
returns-in-Ok-false g c =
    let MayHave = g.S.BookService.may_have in
    let had = g.S.BookService.receipts c.args.pass.now in
    let mid = g.S.BookService.receipts c.serve_or_offer.new.pass in
    let has = g.S.BookService.receipts c.seize_lowest.new.pass in
    let kept = subst (λ r. Seizes MayHave c.args.now mid has r) (c.in-Ok-false.is
    ∙ ap Ok c.in-Ok-false.field-0-test) c.seize_lowest.ensures in
    subst (λ p. EndsAs MayHave Allowed p c.args.kind c.args.now c.args.order.now had has (Ok c.in-Ok.told))
    (sym c.in-Down-NoPrefix.is-0)
    (stays MayHave c.args.kind c.args.now c.args.order.now had mid has c.in-Ok.told c.in-Down-NoPrefix.is-1
    c.in-Ok.ensures kept)

pub returns-in-Err-seize_lowest : goal.returns-in-Err-seize_lowest
returns-in-Err-seize_lowest g c =
    let MayHave = g.S.BookService.may_have in
    let had = g.S.BookService.receipts c.args.pass.now in
    let mid = g.S.BookService.receipts c.serve_or_offer.new.pass in
    let has = g.S.BookService.receipts c.seize_lowest.new.pass in
    let e = c.in-Err-seize_lowest.refusal in
    let strange = subst (λ r. Seizes MayHave c.args.now mid has r) c.in-Err-seize_lowest.is c.seize_lowest.ensures in
    subst (λ p. EndsAs MayHave Allowed p c.args.kind c.args.now c.args.order.now had has (Err e))
    (sym c.in-Down-NoPrefix.is-0)
    (ends_strange MayHave c.args.kind c.args.now c.args.order.now had mid has c.in-Ok.told c.in-Down-NoPrefix.is-1
    c.in-Ok.ensures
    e strange)
