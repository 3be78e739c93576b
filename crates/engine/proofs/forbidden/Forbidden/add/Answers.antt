use Rattle.std.proofs.Common.{◌∷◌, refl, subst, arith}
use Rattle.engine.specs.declared.node.Constraint.{Constraint}
use Rattle.engine.specs.Table.{constraint_of}
use Rattle.engine.specs.Forbids.{FitsTable, Collected}
use Rattle.engine.proofs.Collecting.{placed}
use Rattle.engine.proofs.forbidden.Forbidden.add.Goals as goal

pub returns-in-Places-clause-added : goal.returns-in-Places-clause-added
returns-in-Places-clause-added c rest all h =
    placed c.args.self.now _ rest all c.in-Places.instant c.in-Places.set c.union.result (subst FitsTable c.in-Places.is c.requires.fits) (omega arith) refl refl refl c.union.ensures
    (subst (λ (b : Constraint). Collected c.args.self.now (constraint_of b ∷ rest) all) c.in-Places.is h)
