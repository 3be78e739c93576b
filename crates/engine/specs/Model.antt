-- What a problem is to the theory, and the terms that it keeps.
use Rattle.std.specs.Prelude.{◌≡◌, ℕ, ◌<◌, ◌≤◌, Bool, true}
use Rattle.grid.specs.Board.{Step}
use Rattle.tree.specs.Lists.{Exactly}
use Rattle.tree.specs.Setting.{Setting, SettingTerms}
use Rattle.tree.specs.Search.{Rule, RuleTerms, Search, planner}

-- a setting; whether sled s may go from u to v, a step away, in step t; and the two sets of places for sleds i at u and j at v that meet
pub record Model : Type 0 where
  pub setting : Setting
  pub allowed : (s t u v : ℕ) → Bool
  pub first : (i j u v w : ℕ) → Bool
  pub second : (i j u v w : ℕ) → Bool

-- the sets as a splitting rule, which looks neither at the trail nor at the instant
abbrev pub rule_of : Model → Rule
rule_of m = record { first = λ trail t. m.first; second = λ trail t. m.second }

-- the search that the engine makes
abbrev pub search_of : Model → Search
search_of m = planner m.setting (rule_of m)

-- what a problem has to keep
pub record Keeps (m : Model) : Type 0 where
  -- the theory's terms
  pub setting : SettingTerms m.setting
  pub rule : RuleTerms m.setting (rule_of m)
  -- at most six sleds and 63 steps
  pub few : m.setting.sleds ≤ 6
  pub short : m.setting.horizon ≤ 63
  -- the setting's steps are the steps of the board that are allowed
  pub steps : (s t u v : ℕ) → Exactly (m.setting.step s t u v ≡ true) (Step u v × (m.allowed s t u v ≡ true))
  -- the sets hold places of the board
  pub first_on : (i j u v w : ℕ) → m.first i j u v w ≡ true → w < 256
  pub second_on : (i j u v w : ℕ) → m.second i j u v w ≡ true → w < 256
