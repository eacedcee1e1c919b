use Rattle.unit_index.specs.Leases.{leased}
use Rattle.unit_index.proofs.LeastUnits.{least_map}
use Rattle.unit_index.proofs.unit_index.UnitIndex.lowest_bound.Goals as goal

pub returns : goal.returns
returns c = least_map _ _ c.lowest_leased.result
    (λ p has. c.args.self.now.held.sound (leased c.args.client.now c.args.iaid p) has)
    (λ p held. c.args.self.now.held.complete (leased c.args.client.now c.args.iaid p) held) c.lowest_leased.ensures
