use Rattle.std.proofs.Common.{rules}
use Rattle.daemon_io.proofs.Given.{put_is_given}
use Rattle.daemon_io.proofs.connection.Connection.write.Goals as goal

pub returns-clause-given : goal.returns-clause-given
returns-clause-given g c = rw (← c.self.view_is)
    (put_is_given c.self.inside.passage c.encode.new.self c.flush.new.self.sent.passage c.args.octets.now
    c.in-Ok.sent.items (g.S.Write.contents c.self.inside.stream) c.self.inside.unsent c.add.new.self
    c.flush.new.self.sent.given c.in-Ok.ensures.sent c.flush.ensures.passage (search rules) c.flush.ensures.given
    c.flush.result c.flush.ensures.stream)
