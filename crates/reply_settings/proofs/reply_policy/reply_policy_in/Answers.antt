use Rattle.std.proofs.Common.{rules}
use Rattle.reply_settings.proofs.reply_policy.reply_policy_in.Goals as goal

pub returns : goal.returns
returns c = record {
  given = c.in_ok-given.given;
  hands_out = c.in_ok-given.ensures;
  options = c.in-Ok.ensures;
  rebind = search rules;
  addresses = search rules;
}
