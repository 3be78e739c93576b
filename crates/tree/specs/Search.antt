-- What a search goes by: a setting, a choice of routes and a splitting rule.
use Rattle.std.specs.Prelude.{◌≡◌, ℕ, ◌<◌, Bool, true, List, Option}
use Rattle.tree.specs.Setting.{Setting, SettingTerms}
use Rattle.tree.specs.Constraints.{Constraint, Trail}
use Rattle.tree.specs.Choice.{Chooses, first_choice}

-- a splitting rule: two sets of places for sleds i at u and j at v that meet at instant t of a node with that trail
pub record Rule : Type 0 where
  pub first : (trail : Trail) (t i j u v : ℕ) → ℕ → Bool
  pub second : (trail : Trail) (t i j u v : ℕ) → ℕ → Bool

-- the first set has u, the second v, and wherever i is in the first and j in the second, they meet
pub record RuleTerms (S : Setting) (R : Rule) : Type 0 where
  pub has_u : (trail : Trail) (t i j u v : ℕ) → i < j → j < S.sleds → S.meets i j u v ≡ true → R.first trail t i j u v u ≡ true
  pub has_v : (trail : Trail) (t i j u v : ℕ) → i < j → j < S.sleds → S.meets i j u v ≡ true → R.second trail t i j u v v ≡ true
  pub all_meet : (trail : Trail) (t i j u v : ℕ) → i < j → j < S.sleds → S.meets i j u v ≡ true →
      (a b : ℕ) → R.first trail t i j u v a ≡ true → R.second trail t i j u v b ≡ true → S.meets i j a b ≡ true

-- a setting, a choice of a route for a sled under some constraints, a rule
pub record Search : Type 0 where
  pub setting : Setting
  pub choose : (s : ℕ) → List Constraint → Option (List ℕ)
  pub rule : Rule

-- what they have to keep
pub record Terms (P : Search) : Type 0 where
  pub setting : SettingTerms P.setting
  pub choose : Chooses P.setting P.choose
  pub rule : RuleTerms P.setting P.rule

-- the search that takes the first route of least cost
abbrev pub planner : Setting → Rule → Search
planner S R = record { setting = S; choose = first_choice S; rule = R }
