use Rattle.joined_answers.proofs.Walk.{wider_answered, wider_refused}
use Rattle.joined_answers.proofs.widening.wider_try.Goals as goal

pub returns-in-Some : goal.returns-in-Some
returns-in-Some g c =
    wider_answered (g.F.JournalFiles.had c.args.files.now) c.args.archive.now c.args.query.now c.args.settings c.args.read
    c.in-Ok.wider c.in-Ok.ensures.widened c.in_ok-tried.tried c.in-Some.answer c.in-Ok.ensures.read
    c.in_ok-tried.ensures c.in-Some.ensures

pub returns-in-None : goal.returns-in-None
returns-in-None g c =
    wider_refused (g.F.JournalFiles.had c.args.files.now) c.args.archive.now c.args.query.now c.args.settings c.args.read
    c.in-Ok.wider c.in-Ok.ensures.widened c.in_ok-tried.tried c.in_ok-tried.ensures c.in-None.ensures
