-- Constraints on sleds, and the routes and plans that obey them.
use Rattle.std.specs.Prelude.{◌≡◌, ℕ, suc, ◌<◌, Bool, true, cond, not, ◌&&◌, List, [], ◌∷◌, ◌==◌}
use Rattle.tree.specs.Setting.{Setting}
use Rattle.tree.specs.Routes.{at}
use Rattle.tree.specs.Plans.{Plan, route}

-- not to be at a place of the set at instant t; not to go from u to v in step t
pub data Constraint : Type 0 where
  place_constraint : (t : ℕ) (set : ℕ → Bool) → Constraint
  move_constraint : (t u v : ℕ) → Constraint

-- a constraint and the sled that it is on
pub record SledConstraint : Type 0 where
  pub sled : ℕ
  pub constraint : Constraint

-- a node's own constraint, then its parent's, and so on up to the root, which has none
abbrev pub Trail : Type 0
Trail = List SledConstraint

-- whether the route keeps the constraint
unfoldable pub allows : Constraint → List ℕ → Bool
allows (place_constraint t set) r = not (set (at r t))
allows (move_constraint t u v) r = not (at r t == u && at r (suc t) == v)

-- whether the route keeps them all
unfoldable pub obeys : List Constraint → List ℕ → Bool
obeys [] r = true
obeys (b ∷ bs) r = allows b r && obeys bs r

-- the constraints of a trail that are on sled s
unfoldable pub constraints_on : ℕ → Trail → List Constraint
constraints_on s [] = []
constraints_on s (b ∷ bs) = cond (b.sled == s) (b.constraint ∷ constraints_on s bs) (constraints_on s bs)

-- each route of the plan obeys the trail's constraints on its sled
abbrev pub Obeys : Setting → Trail → Plan → Type 0
Obeys S trail p = (s : ℕ) → s < S.sleds → obeys (constraints_on s trail) (route p s) ≡ true
