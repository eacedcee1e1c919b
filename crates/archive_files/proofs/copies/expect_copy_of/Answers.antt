use Rattle.std.specs.Prelude.{◌≡◌, length}
use Rattle.std.proofs.Common.{rules, refl}
use Rattle.std.proofs.lemmas.Option.{slice_get_read}
use Rattle.archive_files.specs.Alike.{AreCopies}
use Rattle.archive_files.proofs.Copied.{one_more, all_of}
use Rattle.archive_files.proofs.copies.expect_copy_of.Goals.{then-eq+in_ok-expect_copy, else-eq}
use Rattle.archive_files.proofs.copies.expect_copy_of.Goals as goal

pub expect_copy-requires-clause-kept : goal.expect_copy-requires-clause-kept
expect_copy-requires-clause-kept g c =
    let at = slice_get_read c.args.shelf.now (length c.args.shelf.now) c.loop-kept.kept-index c.kept-item.result refl
    c.loop-kept-test.true c.kept-item.is in
    c.requires.shelf c.kept-item.result (c.loop-kept.kept-index, at)

pub loop-kept-preserved : goal.loop-kept-preserved
loop-kept-preserved g c =
    let had = g.F.JournalFiles.had c.args.files.now in
    let at = slice_get_read c.args.shelf.now (length c.args.shelf.now) c.loop-kept.kept-index c.kept-item.result refl
    c.loop-kept-test.true c.kept-item.is in
    let next : c.kept-item.result.outline ≡ c.args.volume.now.outline
    → AreCopies had c.kept-item.result c.args.volume.now = elim c.if-eq.branch [
      | then-eq+in_ok-expect_copy w ↦ λ e. w.in_ok-expect_copy.ensures.same
      | else-eq w ↦ λ e. absurd (search rules)
    ] in
    one_more (λ v. v.outline ≡ c.args.volume.now.outline → AreCopies had v c.args.volume.now) c.args.shelf.now
    c.loop-kept.kept-index c.kept-item.result at c.loop-kept.invariant next

pub returns-clause-same : goal.returns-clause-same
returns-clause-same g c =
    let had = g.F.JournalFiles.had c.args.files.now in
    all_of (λ v. v.outline ≡ c.args.volume.now.outline → AreCopies had v c.args.volume.now) c.args.shelf.now
    c.loop-kept.kept-index c.loop-kept-test.false c.loop-kept.invariant
