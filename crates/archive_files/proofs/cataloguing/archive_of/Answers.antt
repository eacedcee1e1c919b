use Rattle.std.proofs.Common.{List, sym, subst}
use Rattle.std.proofs.lemmas.Result.{err_from_is_err_and}
use Rattle.binding_rules.specs.declared.role.Role.TheVariants.{Primary, Secondary}
use Rattle.journal_archive.specs.declared.outline.FiledVolume.{FiledVolume}
use Rattle.archive_files.specs.Catalogues.{AreFound}
use Rattle.archive_files.proofs.Listed.{on_shelf_found, differ_told}
use Rattle.archive_files.proofs.cataloguing.archive_of.Goals as goal

pub returns-in_err-archive-clause-differ : goal.returns-in_err-archive-clause-differ
returns-in_err-archive-clause-differ g c =
    let p = err_from_is_err_and c.from_residual.result c.from_residual.ensures.1 in
    rw (p.1, p.2) (λ first second e. differ_told (g.F.JournalFiles.had c.args.files.now)
    c.args.volumes.now first second c.requires (c.in_err-archive.ensures.differ first second e))

pub expect_copies-requires-clause-shelf : goal.expect_copies-requires-clause-shelf
expect_copies-requires-clause-shelf g c =
    let had = g.F.JournalFiles.had c.args.files.now in
    subst (λ (vs : List FiledVolume). AreFound had vs) (sym c.volumes.ensures)
    (on_shelf_found had Primary c.args.volumes.now c.in_ok-archive.archive.primary c.requires
    c.in_ok-archive.ensures.primary)

pub expect_copies-requires-2-clause-shelf : goal.expect_copies-requires-2-clause-shelf
expect_copies-requires-2-clause-shelf g c =
    let had = g.F.JournalFiles.had c.args.files.now in
    subst (λ (vs : List FiledVolume). AreFound had vs) (sym c.volumes-2.ensures)
    (on_shelf_found had Secondary c.args.volumes.now c.in_ok-archive.archive.secondary c.requires
    c.in_ok-archive.ensures.secondary)
