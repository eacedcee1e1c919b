use Rattle.report_render.proofs.MoreWords.{local_part}
use Rattle.report_render.proofs.words.push_local_part.Goals as goal

pub returns : goal.returns
returns c =
    local_part c.args.zone.now c.args.moment c.args.out.now.items _ _ _ c.in_ok-extend_from_slice.ensures.items
    c.in_ok-push_local.ensures c.in_ok-extend_from_slice-2.ensures.items
