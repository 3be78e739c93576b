-- The constraint tree of a task and a splitting rule: the tree's words, over place numbers, filled in with floor, cells and offsets.
use Rattle.std.specs.Prelude.{ℕ, ◌/◌, ◌%◌, Bool, false, cond, ◌&&◌, ◌||◌, List, [], ◌∷◌, ◌==◌}
use Rattle.grid.specs.Board.{next}
use Rattle.grid.specs.Places.{number_of, position_at}
use Rattle.fleet.specs.Scans.{some_offset}
use Rattle.geometry.specs.Stands.{may_stand}
use Rattle.geometry.specs.Shares.{share_cell}
use Rattle.geometry.specs.Collisions.{striking}
use Rattle.split.specs.declared.pair.Side.{Side}
use Rattle.split.specs.declared.pair.Side.TheVariants.{Lower, Upper}
use Rattle.split.specs.Situations.{Situation, Sets, HoldsU, HoldsV, AllShare, OnlyMeeting, on_board}
use Rattle.tree.specs.Setting.{Setting}
use Rattle.tree.specs.Search.{Rule, Search, planner}
use Rattle.plans.specs.Tasks.{Task}
use Rattle.plans.specs.Plans.{relative}

-- whether the number is in the list
abbrev pub is_in : ℕ → List ℕ → Bool
is_in v [] = false
is_in v (u ∷ us) = u == v || is_in v us

-- v is u or one of its neighbours
unfoldable pub is_step : (u v : ℕ) → Bool
is_step u v = is_in v (next u)

-- sled s may stand at u
unfoldable pub stands_at : Task → (s u : ℕ) → Bool
stands_at K s u = may_stand (K.offsets s) K.floor (position_at u)

-- sled s may go from u to v in one step
unfoldable pub goes : Task → (s u v : ℕ) → Bool
goes K s u v = (stands_at K s u && stands_at K s v) && is_step u v

-- sled i at u and sled j at v share a cell
unfoldable pub meets_at : Task → (i j u v : ℕ) → Bool
meets_at K i j u v =
    (on_board (position_at u) && on_board (position_at v)) && share_cell (K.offsets i) (position_at u) (K.offsets j) (position_at v)

-- a cell of sled i, going from u to u', and one of sled j, going from v to v', come to overlap
unfoldable pub overlaps_in : Task → (i j u u' v v' : ℕ) → Bool
overlaps_in K i j u u' v v' =
    some_offset
    (striking (K.offsets i) (position_at u) (K.offsets j) (position_at v)
    (relative (u % 16) (u' % 16) (v % 16) (v' % 16)) (relative (u / 16) (u' / 16) (v / 16) (v' / 16)))

-- they collide in a step; where one of them makes no step, it only counts whether they share a cell
unfoldable pub collides_in : Task → (i j u u' v v' : ℕ) → Bool
collides_in K i j u u' v v' = cond (is_step u u' && is_step v v') (overlaps_in K i j u u' v v') (meets_at K i j u v || meets_at K i j u' v')

-- the tree's setting of a task
abbrev pub setting_of : Task → Setting
setting_of K =
    record {
      sleds = K.sleds;
      horizon = K.horizon;
      start = λ s. number_of (K.start s);
      goal = λ s. number_of (K.goal s);
      step = λ s t. goes K s;
      next = next;
      meets = meets_at K;
      collides = collides_in K;
    }

-- what a rule is asked about where sleds i at u and j at v meet
abbrev pub situation_at : Task → (i j u v : ℕ) → Situation
situation_at K i j u v = record { count = K.sleds; sleds = K.offsets; i = i; j = j; u = position_at u; v = position_at v }

-- w is in the rule's set of a side
unfoldable pub in_set : Task → Sets → Side → (i j u v w : ℕ) → Bool
in_set K sets side i j u v w = sets (situation_at K i j u v) side (position_at w)

-- the tree's rule of a splitting rule with these sets
abbrev pub rule_of : Task → Sets → Rule
rule_of K sets = record { first = λ trail t. in_set K sets Lower; second = λ trail t. in_set K sets Upper }

-- the search: each sled takes the first route of least cost, and the rule splits meetings
abbrev pub search_of : Task → Sets → Search
search_of K sets = planner (setting_of K) (rule_of K sets)

-- the terms of a splitting rule
pub record SplitTerms (sets : Sets) : Type 0 where
  pub holds_u : HoldsU sets
  pub holds_v : HoldsV sets
  pub all_share : AllShare sets
  pub only_meeting : OnlyMeeting sets
