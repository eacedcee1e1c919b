use Rattle.std.specs.Prelude.{List}
use Rattle.std.proofs.Common.{rules, subst}
use Rattle.journal_archive.specs.declared.outline.FiledVolume.{FiledVolume}
use Rattle.archive_files.specs.Telling.{AreTold}
use Rattle.archive_files.proofs.Listed.{catalogued}
use Rattle.archive_files.specs.Ties.{AreTiedBy}
use Rattle.archive_files.proofs.Tied.{shelves_tied}
use Rattle.archive_files.proofs.cataloguing.catalogue_of.Goals as goal

pub archive_of-requires : goal.archive_of-requires
archive_of-requires g c =
    let had = g.F.JournalFiles.had c.args.files.now in
    let told : AreTold had (g.F.JournalFiles.files c.args.files.now) c.deref-2.result.now
    c.in_ok-volumes.field-0.passed_over.items =
    subst (λ (vs : List FiledVolume).
    AreTold had (g.F.JournalFiles.files c.args.files.now) vs c.in_ok-volumes.field-0.passed_over.items)
    (search rules) c.in_ok-volumes.ensures in
    told.found

pub returns-clause-catalogue : goal.returns-clause-catalogue
returns-clause-catalogue g c =
    let had = g.F.JournalFiles.had c.args.files.now in
    catalogued had (g.F.JournalFiles.files c.args.files.now) c.deref-2.result.now
    (record { archive = c.in_ok-archive.archive; passed_over = c.in_ok-volumes.field-0.passed_over })
    (subst (λ (vs : List FiledVolume).
    AreTold had (g.F.JournalFiles.files c.args.files.now) vs c.in_ok-volumes.field-0.passed_over.items)
    (search rules) c.in_ok-volumes.ensures)
    c.in_ok-archive.ensures.primary c.in_ok-archive.ensures.secondary c.in_ok-archive.ensures.copies
    c.in_ok-archive.ensures.copied

pub returns-clause-tied : goal.returns-clause-tied
returns-clause-tied g c =
    let had = g.F.JournalFiles.had c.args.files.now in
    let tied : AreTiedBy had c.args.agreement c.deref-2.result.now = search rules in
    shelves_tied had c.args.agreement c.deref-2.result.now c.in_ok-archive.archive.primary
    c.in_ok-archive.archive.secondary c.in_ok-archive.ensures.primary c.in_ok-archive.ensures.secondary tied
