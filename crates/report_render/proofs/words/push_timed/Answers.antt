use Rattle.std.proofs.Common.{rules}
use Rattle.report_render.proofs.MoreWords.{timed}
use Rattle.report_render.proofs.words.push_timed.Goals as goal

pub returns : goal.returns
returns c =
    let time = c.in_ok-push_time.ensures in
    timed c.args.moment c.args.out.now.items _ _ _ _ time.0 time.1 time.2
    c.in_ok-extend_from_slice.ensures.items (search rules) c.in_ok-extend_from_slice-2.ensures.items
