use Rattle.std.proofs.Common.{rules}
use Rattle.archive_files.proofs.file_content.classify_edges.Goals as goal

pub returns-in-Some : goal.returns-in-Some
returns-in-Some g c =
    (c.in_ok-beginning.beginning.items, c.in_ok-end.end, c.in_ok-beginning.ensures, c.in_ok-end.ensures, search rules)
