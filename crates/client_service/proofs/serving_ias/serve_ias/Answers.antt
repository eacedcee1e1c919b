use Rattle.std.proofs.Common.{rules, ◌≡◌, ◌+◌, ◌∷◌, ◌++◌, []}
use Rattle.client_service.specs.Lines.{or_earlier}
use Rattle.client_service.proofs.Messages.{first_more, first_pushed, first_cut}
use Rattle.client_service.proofs.serving_ias.serve_ias.Goals as goal

-- the IA_PD was served, and there was no room to keep what it is told
pub returns-then-is_err-clause-silent : goal.returns-then-is_err-clause-silent
returns-then-is_err-clause-silent g c =
    let MayHave = g.S.BookService.may_have in
    let had = g.S.BookService.receipts c.args.pass.now in
    let mid = g.S.BookService.receipts c.loop-place.pass in
    let has = g.S.BookService.receipts c.serve_ia.new.pass in
    let t = c.in-Ok.told in
    first_cut MayHave c.args.partner c.args.message.now c.args.now c.args.permits.now had has has
    (c.loop-place.place + 1)
    (c.loop-place.answers.items ++ t.answer ∷ []) (or_earlier t.line c.loop-place.line)
    (first_more MayHave c.args.partner c.args.message.now c.args.now c.args.permits.now had mid has c.loop-place.place
    c.loop-place.answers.items
    c.loop-place.line c.loop-place.invariant.3 t c.in-Ok.ensures)

pub loop-place-preserved : goal.loop-place-preserved
loop-place-preserved g c =
    let had = g.S.BookService.receipts c.args.pass.now in
    let mid = g.S.BookService.receipts c.loop-place.pass in
    let has = g.S.BookService.receipts c.serve_ia.new.pass in
    let items : c.push.new.self.items ≡ c.loop-place.answers.items ++ c.in-Ok.told.answer ∷ [] = search rules in (
      search rules,
      search rules,
      search rules,
      first_pushed g.S.BookService.may_have c.args.partner c.args.message.now c.args.now c.args.permits.now had mid has
          c.loop-place.place c.loop-place.answers.items c.loop-place.line c.loop-place.invariant.3 c.in-Ok.told
          c.push.new.self.items
          c.or_earlier-line.result c.in-Ok.ensures items c.or_earlier-line.ensures,
    )
