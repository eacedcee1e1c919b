use Rattle.std.proofs.Common.{◌∙◌, ap, Some, None, Ok, Err}
use Rattle.link_notices.specs.Parsing.{notice_of}
use Rattle.link_notices.proofs.TextLaws.{notice_again, unknown_none, misspelled_refused, read_found, read_passed}
use Rattle.link_notices.proofs.TextLaws.{read_refused, read_as}
use Rattle.link_notices.proofs.reading.read_notice.Goals as goal

pub returns-clause-found : goal.returns-clause-found
returns-clause-found c = read_found _ c.args.text.now c.notice.ensures

pub returns-clause-only : goal.returns-clause-only
returns-clause-only c n fits same =
    read_as _ c.args.text.now (Ok (Some n)) c.notice.ensures (ap notice_of same ∙ notice_again n fits)

pub returns-clause-passed : goal.returns-clause-passed
returns-clause-passed c = read_passed _ c.args.text.now c.notice.ensures

pub returns-clause-unknown : goal.returns-clause-unknown
returns-clause-unknown c h = read_as _ c.args.text.now (Ok None) c.notice.ensures (unknown_none c.args.text.now h)

pub returns-clause-refused : goal.returns-clause-refused
returns-clause-refused c = read_refused _ c.args.text.now c.notice.ensures

pub returns-clause-misspelled : goal.returns-clause-misspelled
returns-clause-misspelled c e h =
    read_as _ c.args.text.now (Err e) c.notice.ensures (misspelled_refused c.args.text.now e h)
