use Rattle.std.proofs.Common.{List, ◌∷◌, get_or, refl, subst}
use Rattle.tree.specs.Constraints as constraints
use Rattle.engine.specs.Table.{blank, sled_constraint_of}
use Rattle.engine.specs.Forbids.{Collected}
use Rattle.engine.proofs.Trails.{constraints_same}
use Rattle.engine.proofs.trail.collect.Goals as goal

pub returns : goal.returns
returns c m xs t =
    let own = c.args.own in
    let tr = (get_or xs c.args.number blank).trail in
    let all = constraints.constraints_on own.sled (sled_constraint_of own ∷ tr) in
    let whole = subst (λ (bs : List constraints.Constraint). Collected c.nothing-forbidden.result bs all) (constraints_same own.sled own tr refl) (c.nothing-forbidden.ensures.empty all) in
    c.add_trail.ensures m xs all t (c.add.ensures.added (constraints.constraints_on own.sled tr) all whole)
