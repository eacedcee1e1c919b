use Rattle.std.specs.Prelude.{◌≡◌, Bool}
use Rattle.std.specs.Bool.{Decides}
use Rattle.std.proofs.Common.{subst, sym}
use Rattle.journal_lines.specs.contracts.event.EventPartialEq.TheImpl.{eq-value}
use Rattle.pair_judgement.proofs.SameSettings.{same_setting}
use Rattle.pair_judgement.proofs.ties.say_the_same.Goals as goal

pub returns : goal.returns
returns c =
    let is : c.eq.result ≡ eq-value.it c.args.first.now c.args.second.now = c.eq.ensures in
    subst (λ (b : Bool). Decides b (c.args.first.now ≡ c.args.second.now)) (sym is)
    (same_setting c.args.first.now c.args.second.now c.requires)
