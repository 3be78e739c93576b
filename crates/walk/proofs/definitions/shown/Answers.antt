use Rattle.walk.proofs.Shown.{cost_is_least, routes_are_sled_routes}
use Rattle.walk.proofs.definitions.shown.Goals as goal

pub returns : goal.returns
returns c = record { costs = cost_is_least; sleds = routes_are_sled_routes }
