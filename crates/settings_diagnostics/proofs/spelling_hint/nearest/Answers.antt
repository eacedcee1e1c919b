use Rattle.std.proofs.Common.{rules}
use Rattle.settings_diagnostics.specs.Keys.{key_name}
use Rattle.settings_diagnostics.specs.Nearest.{apart}
use Rattle.settings_diagnostics.specs.declared.key.Key.TheVariants.{Role}
use Rattle.settings_diagnostics.proofs.Nearer.{stays, goes}
use Rattle.settings_diagnostics.proofs.spelling_hint.nearest.Goals as goal

pub loop-key-preserved-then-apart : goal.loop-key-preserved-then-apart
loop-key-preserved-then-apart c = record {
  known = c.loop-key.invariant.known;
  least =
      stays (λ k. apart c.args.word.now (key_name k)) c.args.known.now c.loop-key.best Role c.loop-key.key-index
      (search rules) c.loop-key.invariant.least (search rules);
}

pub loop-key-preserved : goal.loop-key-preserved
loop-key-preserved c = record {
  known = search rules;
  least =
      goes (λ k. apart c.args.word.now (key_name k)) c.args.known.now c.loop-key.best Role c.loop-key.key-index
      (search rules) c.loop-key.invariant.least (search rules);
}
