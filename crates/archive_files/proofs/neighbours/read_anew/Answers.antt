use Rattle.std.specs.Prelude.{ℕ}
use Rattle.std.proofs.Common.{subst}
use Rattle.archive_files.specs.declared.file_content.FileContent.TheVariants.{Faulty}
use Rattle.archive_files.specs.Found.{IsFound}
use Rattle.archive_files.specs.Rereading.{IsReadingRefusal, IsOfFile}
use Rattle.archive_files.proofs.neighbours.read_anew.Goals as goal

pub returns-in-Err-Faulty-clause-read : goal.returns-in-Err-Faulty-clause-read
returns-in-Err-Faulty-clause-read g c =
    let had = g.F.JournalFiles.had c.args.files.now in
    let fault = c.in-Err-Faulty.field-0-1 in
    let own = subst (IsOfFile c.args.filed.now.file) c.in-Err-Faulty.field-0-is c.in-Err-Faulty.ensures.own in
    let found = subst (IsReadingRefusal had) c.in-Err-Faulty.field-0-is c.in-Err-Faulty.ensures.refused in
    (fault, subst (λ (file : ℕ). IsFound (had file) file (Faulty fault)) own found)
