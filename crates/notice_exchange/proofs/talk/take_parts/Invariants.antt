use Rattle.notice_exchange.specs.Talks.{PutsBehind}
use Rattle.notice_exchange.proofs.talk.take_parts.Given as goal

abbrev pub invariant-loop-part : goal.invariant-loop-part
invariant-loop-part l = PutsBehind l.initial.talk l.talk l.initial.events.items l.events.items
