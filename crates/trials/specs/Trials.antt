-- Worked examples of the definitions, in one table.
use Rattle.std.specs.Prelude.{◌≡◌, ℕ, ◌<◌, ◌≤◌, zero, suc, ◌+◌, Bool, true, false, cond, List, [], ◌∷◌, ◌++◌, map, length, replicate, pos, ◌-ℤ◌, Some, None, MatchBool, filter, Option, slice_index_or, refl}
use Rattle.std.proofs.Common.{lit≤}
use Rattle.std.specs.List.{range_with_len}
use Rattle.std.specs.Option.{option_map}
use Rattle.fault.specs.declared.cause.Fault.{Fault}
use Rattle.fault.specs.declared.cause.Cause.TheVariants.{OffsetTooFar}
use Rattle.fault.specs.Causes.{fault_at}
use Rattle.grid.specs.declared.cell.Cell.TheVariants.{Free}
use Rattle.grid.specs.declared.floor.Floor.{Floor}
use Rattle.grid.specs.declared.moves.Move.{Move}
use Rattle.grid.specs.declared.moves.Move.TheVariants.{West, East, South}
use Rattle.grid.specs.declared.position.Position.{Position}
use Rattle.grid.specs.Places.{number_of, position_at}
use Rattle.fleet.specs.Offsets.{Offsets}
use Rattle.fleet.specs.Lists.{sleds_of}
use Rattle.fleet.specs.RectangleFleets.{rectangle}
use Rattle.fleet.specs.SkirtFleets.{skirt, skirt_fault}
use Rattle.geometry.specs.Collisions.{Collision}
use Rattle.split.specs.declared.pair.Side.{Side}
use Rattle.split.specs.declared.pair.Side.TheVariants.{Lower, Upper}
use Rattle.split.specs.Situations.{Situation}
use Rattle.split.specs.Rules.{single_sets, shared_cell_sets}
use Rattle.walk.specs.Routes.{chosen, cheapest_routes, route_cost}
use Rattle.walk.specs.Sleds.{both_ends, open_floor}
use Rattle.tree.specs.Calls.{routes_at}
use Rattle.tree.specs.Plans.{Plan}
use Rattle.tree.specs.Setting.{SettingTerms}
use Rattle.tree.specs.Search.{RuleTerms}
use Rattle.tree.specs.Tree.{Node, Tree, Verdict, working, solved, none, full, turns, bound}
use Rattle.plans.specs.Tasks.{Task, OfFloor}
use Rattle.plans.specs.Instance.{setting_of, rule_of, search_of}

abbrev pub at : (column row : ℕ) → Position
at column row = record { column = column; row = row }

-- how many numbers below n pass
abbrev pub count_below : (ℕ → Bool) → ℕ → ℕ
count_below p zero = 0
count_below p (suc n) = cond (p n) 1 0 + count_below p n

-- how many offsets of a set have parts from -7 to 7, in its first n rows
abbrev pub count_rows : Offsets → ℕ → ℕ
count_rows set zero = 0
count_rows set (suc n) = count_below (λ k. set (pos k -ℤ pos 7) (pos n -ℤ pos 7)) 15 + count_rows set n

-- two sleds of the same rectangle, at u and v
abbrev pub two_at : (width height : ℕ) (u v : Position) → Situation
two_at w h u v = record { count = 2; sleds = λ _. rectangle w h; i = 0; j = 1; u = u; v = v }

-- the places of the board in a set of the shared-cell rule, by number
abbrev pub places_of : Situation → Side → List ℕ
places_of s side = filter (λ n. shared_cell_sets s side (position_at n)) (range_with_len 0 256)

-- floors of free cells only: three in a row, and four in a square
abbrev pub aisle : Floor
aisle = record { columns = 3; rows = 1; cells = replicate 256 Free; wide = lit≤ tt; narrow = lit≤ tt; tall = lit≤ tt; short = lit≤ tt; whole = refl }

abbrev pub square : Floor
square = record { columns = 2; rows = 2; cells = replicate 256 Free; wide = lit≤ tt; narrow = lit≤ tt; tall = lit≤ tt; short = lit≤ tt; whole = refl }

-- sleds of one cell on a floor, with these starts and goals
abbrev pub task_on : Floor → (horizon : ℕ) (starts goals : List Position) → Task
task_on floor horizon starts goals =
    record {
      sleds = length starts;
      horizon = horizon;
      start = λ s. slice_index_or starts s (at 0 0);
      goal = λ s. slice_index_or goals s (at 0 0);
      floor = floor;
      offsets = sleds_of (λ _. rectangle 1 1) starts;
    }

-- the tree of a task under the single rule after some turns
abbrev pub tree_after : Task → (limit n : ℕ) → Tree
tree_after K limit n = turns (search_of K single_sets) limit n

-- the routes of the node that solves the tree, if one does
abbrev pub routes_found : List Node → Verdict → Plan
routes_found nodes working = []
routes_found nodes (solved k) = routes_at nodes k
routes_found nodes none = []
routes_found nodes full = []

pub data Trial : Type 0 where
  -- two sleds of one cell: one moves by a from u, one by b from v, and whether they collide
  moving : (u : Position) (a : Move) (v : Position) (b : Move) (collide : Bool) → Trial
  -- a rectangle with a skirt of m has so many offsets
  skirted : (width height m count : ℕ) → Trial
  -- a rectangle is given a skirt of m, or it is refused for a fault
  given : (width height m : ℕ) (fault : Option Fault) → Trial
  -- two equal rectangles at u and v: the places of the first and of the second shared-cell set
  shared : (width height : ℕ) (u v : Position) (first second : List Position) → Trial
  -- a sled of one cell alone on a floor of free cells: its first route of least cost behind the start, what that costs, and how many routes cost as little
  alone : (columns rows horizon : ℕ) (start goal : Position) (route : Option (List Position)) (cost : Option ℕ) (routes : ℕ) → Trial
  -- sleds of one cell, a node limit and a number of turns: the bound and the verdict then, and the sleds' routes if they are found
  searched : (floor : Floor) (horizon : ℕ) (starts goals : List Position) (limit turns : ℕ) (bound : Option ℕ) (verdict : Verdict) (routes : List (List Position)) → Trial

-- what a trial says
abbrev pub Holds : Trial → Type 0
Holds (moving u a v b collide) =
    MatchBool collide (Collision (rectangle 1 1) u a (rectangle 1 1) v b) (Collision (rectangle 1 1) u a (rectangle 1 1) v b → ⊥)
Holds (skirted w h m count) = count_rows (skirt m (rectangle w h)) 15 ≡ count
Holds (given w h m fault) = skirt_fault 1 (λ _. rectangle w h) 0 m ≡ fault
Holds (shared w h u v first second) =
    (places_of (two_at w h u v) Lower ≡ map number_of first) × (places_of (two_at w h u v) Upper ≡ map number_of second)
Holds (alone columns rows horizon start goal route cost routes) =
    let p = number_of start in
    let q = number_of goal in
    let step = both_ends (open_floor columns rows) in
    (chosen step horizon p q ≡ option_map (map number_of) route) ×
    (option_map (λ r. route_cost q p (map number_of r)) route ≡ cost) ×
    (length (cheapest_routes step horizon p q) ≡ routes)
Holds (searched floor horizon starts goals limit n bound' verdict routes) =
    let K = task_on floor horizon starts goals in
    let tree = tree_after K limit n in
    (bound (setting_of K) tree ≡ bound') × (tree.verdict ≡ verdict) ×
    (routes_found tree.nodes tree.verdict ≡ map (map number_of) routes)

-- the setting and the rule of such a task keep the terms of trees, so that the theorems speak of its search
abbrev pub SearchKeepsTerms : Floor → (horizon : ℕ) (starts goals : List Position) → Type 0
SearchKeepsTerms floor horizon starts goals =
    let K = task_on floor horizon starts goals in
    SettingTerms (setting_of K) × RuleTerms (setting_of K) (rule_of K single_sets)

-- each place is one of the floor
abbrev pub AllOf : Floor → List Position → Type 0
AllOf floor us = (k : ℕ) → k < length us → OfFloor floor (slice_index_or us k (at 0 0))

-- so it is with a step or more, wherever on the floor at most six sleds begin and end
abbrev pub SearchesKeepTerms : Type 0
SearchesKeepTerms =
    (floor : Floor) (horizon : ℕ) (starts goals : List Position) → 1 ≤ horizon → length starts ≤ 6 → length goals ≡ length starts →
    AllOf floor starts → AllOf floor goals → SearchKeepsTerms floor horizon starts goals

-- and so it is with each search of the table
abbrev pub KeepsTerms : Trial → Type 0
KeepsTerms (searched floor horizon starts goals limit n bound' verdict routes) = SearchKeepsTerms floor horizon starts goals
KeepsTerms _ = Unit {0}

-- sleds that meet, skirts, and sets of a rule
abbrev pub shapes : List Trial
shapes =
    moving (at 0 0) East (at 1 0) West true
    ∷ moving (at 0 0) East (at 1 0) East false
    ∷ moving (at 0 0) East (at 1 0) South true
    ∷ skirted 2 1 1 12
    ∷ given 7 7 1 None
    ∷ given 8 1 1 (Some (fault_at OffsetTooFar 0))
    ∷ given 1 8 1 (Some (fault_at OffsetTooFar 0))
    ∷ shared 2 2 (at 0 0) (at 1 1) (at 0 0 ∷ at 1 0 ∷ at 0 1 ∷ at 1 1 ∷ []) (at 0 0 ∷ at 1 0 ∷ at 0 1 ∷ at 1 1 ∷ [])
    ∷ []

abbrev pub routes : List Trial
routes =
    alone 2 2 2 (at 0 0) (at 1 1) (Some (at 1 0 ∷ at 1 1 ∷ [])) (Some 2) 2
    ∷ alone 3 1 1 (at 0 0) (at 2 0) None None 0
    ∷ alone 3 1 2 (at 0 0) (at 2 0) (Some (at 1 0 ∷ at 2 0 ∷ [])) (Some 2) 1
    ∷ []

-- one sled with too few steps and with enough; two that change ends; one that crosses a square; two that change its corners
abbrev pub searches : List Trial
searches =
    searched aisle 1 (at 0 0 ∷ []) (at 2 0 ∷ []) 3 1 None none []
    ∷ searched aisle 2 (at 0 0 ∷ []) (at 2 0 ∷ []) 3 1 (Some 2) (solved 0) ((at 0 0 ∷ at 1 0 ∷ at 2 0 ∷ []) ∷ [])
    ∷ searched aisle 2 (at 0 0 ∷ at 2 0 ∷ []) (at 2 0 ∷ at 0 0 ∷ []) 3 0 (Some 4) working []
    ∷ searched aisle 2 (at 0 0 ∷ at 2 0 ∷ []) (at 2 0 ∷ at 0 0 ∷ []) 3 1 None working []
    ∷ searched aisle 2 (at 0 0 ∷ at 2 0 ∷ []) (at 2 0 ∷ at 0 0 ∷ []) 3 2 None none []
    ∷ searched aisle 2 (at 0 0 ∷ at 2 0 ∷ []) (at 2 0 ∷ at 0 0 ∷ []) 2 1 (Some 4) full []
    ∷ searched square 2 (at 1 0 ∷ []) (at 0 1 ∷ []) 3 1 (Some 2) (solved 0) ((at 1 0 ∷ at 0 0 ∷ at 0 1 ∷ []) ∷ [])
    ∷ searched square 2 (at 0 0 ∷ at 1 1 ∷ []) (at 1 1 ∷ at 0 0 ∷ []) 3 1 (Some 4) working []
    ∷ searched square 2 (at 0 0 ∷ at 1 1 ∷ []) (at 1 1 ∷ at 0 0 ∷ []) 3 2 (Some 4) (solved 1)
    ((at 0 0 ∷ at 0 1 ∷ at 1 1 ∷ []) ∷ (at 1 1 ∷ at 1 0 ∷ at 0 0 ∷ []) ∷ [])
    ∷ []

abbrev pub trials : List Trial
trials = shapes ++ routes ++ searches
