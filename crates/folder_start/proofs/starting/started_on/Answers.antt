use Rattle.std.proofs.Common.{rules}
use Rattle.server_start.specs.Starting.{MayStart}
use Rattle.folder_start.proofs.Begun.{goes_on_with}
use Rattle.folder_start.proofs.Done.{with_both}
use Rattle.folder_start.proofs.starting.started_on.Goals as goal

pub returns-clause-begun : goal.returns-clause-begun
returns-clause-begun g c =
    let may : MayStart c.args.with.settings.now c.in-GoOn-Some.book c.args.with.now = search rules in
    with_both _ _ _ c.gone_on.result (λ s idle book. record {
      idle = idle;
      book = goes_on_with c.args.with.settings.now c.args.pairing c.args.with.now c.args.read.found.step
          c.in-GoOn-Some.book _ c.in-GoOn-Some.is-0 c.requires.goes_on may book;
    }) c.gone_on.ensures.idle c.gone_on.ensures.book
