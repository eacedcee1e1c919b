use Rattle.std.proofs.Common.{rules, ◌≡◌, ◌++◌, ◌∷◌, []}
use Rattle.client_service.proofs.ToldAgain.{first_again}
use Rattle.client_service.proofs.reusing.reuse_all.Goals as goal

pub loop-place-preserved : goal.loop-place-preserved
loop-place-preserved g c =
    let items : c.push.new.self.items ≡ c.loop-place.answers.items ++ c.in-Some.told.answer ∷ [] = search rules in (
      search rules,
      search rules,
      search rules,
      first_again g.S.BookService.may_have c.args.terms.now c.args.message.now c.args.now
          (g.S.BookService.receipts c.args.pass.now) c.args.permits.now c.loop-place.place c.loop-place.answers.items
          c.loop-place.line
          c.in-Some.told.answer c.in-Some.told.line c.push.new.self.items c.later-line.result c.loop-place.invariant.3
          c.in-Some.ensures items c.later-line.ensures,
    )
