use Rattle.std.proofs.Common.{rules, ◌<◌, length, refl, ap, ◌∙◌}
use Rattle.archive_desk.specs.Waiting.{texts_among}
use Rattle.archive_desk.proofs.Pendings.{item_at, has_ruling, stands, one_judged}
use Rattle.archive_desk.proofs.judging.judge_shown.Goals as goal

pub index-requires-in-loop-i : goal.index-requires-in-loop-i
index-requires-in-loop-i g c =
    let lt : c.loop-i.i < length c.in_ok-members.members.items = search rules in
    let fits : c.loop-i.i < length c.in_ok-ruled.ruled.rulings.items = has_ruling (g.F.JournalFiles.had c.args.files.now) c.args.archive.now c.args.bounds.now.skew
    c.args.bounds.now.transit c.args.pair.now c.accepted_rulings_are_true.ensures c.shown_pairs_are_snapshots.ensures
    c.args.waiting.now c.in_ok-members.members.items c.in_ok-claims.claims.items c.in_ok-ruled.ruled.rulings.items
    c.in_ok-members.ensures (c.in_ok-claims.ensures ∙ ap (λ ms. texts_among ms) c.deref.ensures.value) c.requires c.in_ok-ruled.ensures.rulings
    c.loop-i.i lt in
    search rules

pub offset_bounds-waiting-place : goal.offset_bounds-waiting-place
offset_bounds-waiting-place g c =
    let lt : c.loop-i.i < length c.in_ok-members.members.items = search rules in
    let at = item_at c.in_ok-members.members.items c.loop-i.i c.index.result.now lt c.index.ensures in
    let within : c.index.result.now.place < length c.loop-i.waiting = stands (g.F.JournalFiles.had c.args.files.now) c.args.archive.now c.args.bounds.now.skew
    c.args.bounds.now.transit c.args.pair.now c.accepted_rulings_are_true.ensures c.shown_pairs_are_snapshots.ensures
    c.args.waiting.now c.in_ok-members.members.items c.in_ok-claims.claims.items c.in_ok-ruled.ruled.rulings.items
    c.in_ok-members.ensures (c.in_ok-claims.ensures ∙ ap (λ ms. texts_among ms) c.deref.ensures.value) c.requires c.in_ok-ruled.ensures.rulings
    c.loop-i.waiting c.loop-i.invariant.0 c.loop-i.i c.index.result.now at in
    search rules

pub bounds-waiting-place : goal.bounds-waiting-place
bounds-waiting-place g c =
    let lt : c.loop-i.i < length c.in_ok-members.members.items = search rules in
    let at = item_at c.in_ok-members.members.items c.loop-i.i c.index.result.now lt c.index.ensures in
    stands (g.F.JournalFiles.had c.args.files.now) c.args.archive.now c.args.bounds.now.skew
    c.args.bounds.now.transit c.args.pair.now c.accepted_rulings_are_true.ensures c.shown_pairs_are_snapshots.ensures
    c.args.waiting.now c.in_ok-members.members.items c.in_ok-claims.claims.items c.in_ok-ruled.ruled.rulings.items
    c.in_ok-members.ensures (c.in_ok-claims.ensures ∙ ap (λ ms. texts_among ms) c.deref.ensures.value) c.requires c.in_ok-ruled.ensures.rulings
    c.loop-i.waiting c.loop-i.invariant.0 c.loop-i.i c.index.result.now at

pub bounds-waiting-place-in-loop-i : goal.bounds-waiting-place-in-loop-i
bounds-waiting-place-in-loop-i g c =
    let lt : c.loop-i.i < length c.in_ok-members.members.items = search rules in
    let at = item_at c.in_ok-members.members.items c.loop-i.i c.index.result.now lt c.index.ensures in
    stands (g.F.JournalFiles.had c.args.files.now) c.args.archive.now c.args.bounds.now.skew
    c.args.bounds.now.transit c.args.pair.now c.accepted_rulings_are_true.ensures c.shown_pairs_are_snapshots.ensures
    c.args.waiting.now c.in_ok-members.members.items c.in_ok-claims.claims.items c.in_ok-ruled.ruled.rulings.items
    c.in_ok-members.ensures (c.in_ok-claims.ensures ∙ ap (λ ms. texts_among ms) c.deref.ensures.value) c.requires c.in_ok-ruled.ensures.rulings
    c.loop-i.waiting c.loop-i.invariant.0 c.loop-i.i c.index.result.now at

pub loop-i-preserved : goal.loop-i-preserved
loop-i-preserved g c =
    let lt : c.loop-i.i < length c.in_ok-members.members.items = search rules in
    let at = item_at c.in_ok-members.members.items c.loop-i.i c.index.result.now lt c.index.ensures in
    let fits : c.loop-i.i < length c.in_ok-ruled.ruled.rulings.items = has_ruling (g.F.JournalFiles.had c.args.files.now) c.args.archive.now c.args.bounds.now.skew
    c.args.bounds.now.transit c.args.pair.now c.accepted_rulings_are_true.ensures c.shown_pairs_are_snapshots.ensures
    c.args.waiting.now c.in_ok-members.members.items c.in_ok-claims.claims.items c.in_ok-ruled.ruled.rulings.items
    c.in_ok-members.ensures (c.in_ok-claims.ensures ∙ ap (λ ms. texts_among ms) c.deref.ensures.value) c.requires c.in_ok-ruled.ensures.rulings
    c.loop-i.i lt in
    let has = item_at c.in_ok-ruled.ruled.rulings.items c.loop-i.i c.index-in-loop-i.result.now fits
    c.index-in-loop-i.ensures in
    one_judged (g.F.JournalFiles.had c.args.files.now) c.args.archive.now c.args.bounds.now.skew
    c.args.bounds.now.transit c.args.pair.now c.accepted_rulings_are_true.ensures c.shown_pairs_are_snapshots.ensures
    c.args.waiting.now c.in_ok-members.members.items c.in_ok-claims.claims.items c.in_ok-ruled.ruled.rulings.items
    c.in_ok-members.ensures (c.in_ok-claims.ensures ∙ ap (λ ms. texts_among ms) c.deref.ensures.value) c.requires c.in_ok-ruled.ensures.rulings
    c.loop-i.waiting c.loop-i.invariant.0 c.loop-i.i c.index.result.now at c.index-in-loop-i.result.now has _
    c.index-waiting-place.result refl refl c.loop-i.invariant.1
