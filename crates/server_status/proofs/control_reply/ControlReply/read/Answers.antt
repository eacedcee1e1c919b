use Rattle.server_status.proofs.Answers.{no_line, no_verdict, with_verdict}
use Rattle.server_status.proofs.control_reply.ControlReply.read.Goals as goal

-- src/answer.rt:48:13
pub returns-in_default : goal.returns-in_default
returns-in_default c = no_line c.args.words.now c.split_once.result c.split_once.ensures.cases c.in_default.is

-- src/answer.rt:43:5
pub returns-in-Some-verdict_of : goal.returns-in-Some-verdict_of
returns-in-Some-verdict_of c =
    with_verdict c.args.words.now c.split_once.result c.split_once.ensures.cases c.in-Some.line c.in-Some.text
    c.in-Some.is c.in-Some-verdict_of.verdict c.in-Some-verdict_of.ensures

-- src/answer.rt:43:5
pub returns-in-None : goal.returns-in-None
returns-in-None c =
    no_verdict c.args.words.now c.split_once.result c.split_once.ensures.cases c.in-Some.line c.in-Some.text
    c.in-Some.is c.in-None.ensures
