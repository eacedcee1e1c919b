use Rattle.pair_world.proofs.Results.{world_is_run}
use Rattle.pair_world.proofs.OneNow.{step_stays, run_stays}
use Rattle.pair_world.proofs.laws.world_is_run.Goals as goal

pub returns-clause-run : goal.returns-clause-run
returns-clause-run c = world_is_run

pub returns-clause-step : goal.returns-clause-step
returns-clause-step c = step_stays

pub returns-clause-steps : goal.returns-clause-steps
returns-clause-steps c = run_stays
