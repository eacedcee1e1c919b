use Rattle.std.proofs.Common.{sym, subst}
use Rattle.dhcp6_pd.specs.declared.message.ClientKind.TheVariants.{Solicit}
use Rattle.client_service.specs.Ending.{EndsIn}
use Rattle.client_service.proofs.Orders.{offer_refusal}
use Rattle.client_service.proofs.ordering.offered.Goals as goal

pub returns-in-Err : goal.returns-in-Err
returns-in-Err g c =
    let had = g.S.BookService.receipts c.args.pass.now in
    let has = g.S.BookService.receipts c.offer.new.pass in
    subst (λ x. EndsIn g.S.BookService.may_have Solicit c.args.now c.args.order.now had has x) (sym c.refusal_outcome.ensures)
    (offer_refusal g.S.BookService.may_have c.args.now c.args.order.now had has c.in-Err.refusal c.requires
    c.in-Err.ensures.offered
    c.in-Err.ensures.same)
