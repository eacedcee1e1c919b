use Rattle.joined_rulings.proofs.Listed.{all_ruled}
use Rattle.joined_rulings.proofs.widest.rulings_on.Goals as goal

pub returns : goal.returns
returns g c =
    all_ruled (g.F.JournalFiles.had c.args.files.now) c.args.archive.now c.args.bounds.now c.args.claims.now
    c.args.owns.now c.loop-place.place c.loop-place.rulings.items c.loop-place-test.false c.requires
    c.loop-place.invariant
