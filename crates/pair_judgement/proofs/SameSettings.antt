-- Settings that compare as equal are the same.
use Rattle.std.specs.Prelude.{◌≡◌, IsTrue}
use Rattle.std.specs.Bool.{Decides}
use Rattle.std.proofs.Common.{rules}
use Rattle.journal_lines.specs.declared.event.Event.{Event}
use Rattle.journal_lines.specs.declared.event.Event.TheVariants.{Open, Pool, Transit, Base, Carry, Unit as UnitLine}
use Rattle.journal_lines.specs.declared.event.Event.TheVariants.{Grant}
use Rattle.journal_lines.specs.declared.event.Event.TheVariants.{Release, Expire, Backup, Reclaim, Seize, Send}
use Rattle.journal_lines.specs.declared.event.Event.TheVariants.{Take as TakeLine, State, Restart, Close}
use Rattle.journal_lines.specs.contracts.event.EventPartialEq.TheImpl.{eq-value}
use Rattle.pair_judgement.specs.Ties.{is_setting}

pub same_setting : (a b : Event) → IsTrue (is_setting a) → Decides (eq-value.it a b) (a ≡ b)
same_setting (Open skew mclt life) b set = search rules
same_setting (Pool prefix unit_length) b set = search rules
same_setting (Transit transit) b set = search rules
same_setting (Base numbers) b set = absurd (cc)
same_setting (Carry carried) b set = absurd (cc)
same_setting (UnitLine unit) b set = absurd (cc)
same_setting (Grant lease) b set = absurd (cc)
same_setting (Release client iaid prefix) b set = absurd (cc)
same_setting (Expire prefix) b set = absurd (cc)
same_setting (Backup prefix) b set = absurd (cc)
same_setting (Reclaim prefix) b set = absurd (cc)
same_setting (Seize prefix) b set = absurd (cc)
same_setting (Send message) b set = absurd (cc)
same_setting (TakeLine message) b set = absurd (cc)
same_setting (State state) b set = absurd (cc)
same_setting (Restart count) b set = absurd (cc)
same_setting Close b set = absurd (cc)
