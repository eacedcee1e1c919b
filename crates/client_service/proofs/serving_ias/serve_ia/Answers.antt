use Rattle.std.proofs.Common.{sym, subst, ◌∙◌}
use Rattle.std.specs.Prelude.{slice_get}
use Rattle.client_service.specs.Answering.{permit_at}
use Rattle.client_service.specs.Ending.{EndsAs}
use Rattle.client_service.proofs.Messages.{order_there}
use Rattle.client_service.proofs.serving_ias.serve_ia.Goals as goal

pub returns : goal.returns
returns g c =
    let m = c.args.message.now in
    let had = g.S.BookService.receipts c.args.pass.now in
    let has = g.S.BookService.receipts c.serve_permitted.new.pass in
    let at = order_there m (slice_get m.ias c.args.place) c.in-Some.order (sym c.in-Some.is ∙ c.order_of.ensures) in (
      at.0,
      at.1,
      subst (λ o. EndsAs g.S.BookService.may_have (permit_at c.args.permits.now c.args.place) c.args.partner m.kind
          c.args.now o had has c.serve_permitted.result) at.2
          (subst (λ l. EndsAs g.S.BookService.may_have l c.args.partner m.kind c.args.now c.in-Some.order had has
          c.serve_permitted.result) c.permit_at-permit.ensures c.serve_permitted.ensures),
    )
