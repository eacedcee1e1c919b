use Rattle.client_service.proofs.Offers.{tells_of_none, told_writes_none, cut_writes_none}
use Rattle.client_service.proofs.client_reply.answer_to.Goals as goal

pub returns-in_err-all-clause-offers : goal.returns-in_err-all-clause-offers
returns-in_err-all-clause-offers g c =
    cut_writes_none g.S.BookService.may_have c.args.partner c.args.message.now c.args.permits.now
    c.args.now _ _ _ c.in_err-all.ensures.silent

pub returns-in_err-octets-clause-offers : goal.returns-in_err-octets-clause-offers
returns-in_err-octets-clause-offers g c =
    told_writes_none g.S.BookService.may_have c.args.partner c.args.message.now c.args.permits.now
    c.args.now _ _ _ _ c.in_ok-all.ensures.told

pub returns-clause-offers : goal.returns-clause-offers
returns-clause-offers g c =
    told_writes_none g.S.BookService.may_have c.args.partner c.args.message.now c.args.permits.now
    c.args.now _ _ _ _ c.in_ok-all.ensures.told

pub returns-clause-advertised : goal.returns-clause-advertised
returns-clause-advertised g c =
    tells_of_none g.S.BookService.may_have c.args.partner c.args.message.now c.args.permits.now
    c.args.now _ _ _ _ c.in_ok-all.ensures.told
