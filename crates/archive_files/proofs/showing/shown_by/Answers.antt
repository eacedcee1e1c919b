use Rattle.std.specs.Prelude.{List}
use Rattle.std.proofs.Common.{subst}
use Rattle.journal_archive.specs.declared.outline.FiledVolume.{FiledVolume}
use Rattle.archive_files.specs.Showing.{AgreesBeside}
use Rattle.archive_files.proofs.showing.shown_by.Goals as goal

pub returns-clause-borne_out : goal.returns-clause-borne_out
returns-clause-borne_out g c =
    let had = g.F.JournalFiles.had c.args.files.now in (
      (
        c.in_ok-primary.primary,
        c.in_ok-primary.ensures.copy,
        subst (λ (shelf : List FiledVolume). AgreesBeside had shelf c.args.pair.now.primary
            c.in_ok-primary.primary.journal) c.volumes-shelf.ensures c.in_ok-expect_neighbours.ensures.agrees,
      ),
      (
        c.in_ok-secondary.secondary,
        c.in_ok-secondary.ensures.copy,
        subst (λ (shelf : List FiledVolume). AgreesBeside had shelf c.args.pair.now.secondary
            c.in_ok-secondary.secondary.journal) c.volumes-shelf-2.ensures c.in_ok-expect_neighbours-2.ensures.agrees,
      ),
    )
