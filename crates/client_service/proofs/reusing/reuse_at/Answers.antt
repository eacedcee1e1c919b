use Rattle.std.proofs.Common.{sym, ◌∙◌}
use Rattle.std.specs.Prelude.{slice_get}
use Rattle.client_service.proofs.Messages.{order_there}
use Rattle.client_service.proofs.ToldAgain.{again_there}
use Rattle.client_service.proofs.reusing.reuse_at.Goals as goal

pub returns : goal.returns
returns g c =
    let m = c.args.message.now in
    again_there g.S.BookService.may_have c.args.terms.now m c.args.now (g.S.BookService.receipts c.args.pass.now)
    c.args.permits.now c.args.place c.permit_at-permit.result c.in-Some.order c.permit_at-permit.ensures
    (order_there m (slice_get m.ias c.args.place) c.in-Some.order (sym c.in-Some.is ∙ c.order_of.ensures))
    c.reuse_permitted.result c.reuse_permitted.ensures
