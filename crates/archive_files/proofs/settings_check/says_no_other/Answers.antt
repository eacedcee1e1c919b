use Rattle.std.proofs.Common.{rules, ◌≢◌, option_map, subst}
use Rattle.archive_files.specs.Ties.{IsSetUp}
use Rattle.archive_files.proofs.Tied.{two_pairs}
use Rattle.archive_files.proofs.settings_check.says_no_other.Goals as goal

pub returns-clause-refused : goal.returns-clause-refused
returns-clause-refused g c first second e =
    let had = g.F.JournalFiles.had c.args.files.now in
    let differ : c.args.known.now.settings.items ≢ c.in-Some.settings.items = search rules in
    two_pairs had c.args.known.now.file c.args.file first second c.args.known.now.settings.items
    c.in-Some.settings.items e c.requires
    (subst (λ o. IsSetUp (had c.args.file) (option_map (λ v. v.items) o)) c.in-Some.is c.in_ok-settings.ensures.told)
    differ
