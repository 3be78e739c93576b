-- A floor as the tree sees it: sleds on numbered places, moving step by step up to a horizon. What a sled covers and which
-- moves are possible is left open: a setting has tests for it, and its terms are the few laws that the theorems use of them.
use Rattle.std.specs.Prelude.{◌≡◌, ℕ, ◌<◌, ◌≤◌, Bool, true, List}
use Rattle.tree.specs.Lists.{In, Ordered}

-- sleds are numbered from 0, instants from 0 to the horizon, and step t goes from instant t to the next
pub record Setting : Type 0 where
  pub sleds : ℕ
  pub horizon : ℕ
  -- where each sled begins and where it has to end
  pub start : (s : ℕ) → ℕ
  pub goal : (s : ℕ) → ℕ
  -- sled s may go from u to v in step t
  pub step : (s t u v : ℕ) → Bool
  -- the places that a step from u can reach
  pub next : (u : ℕ) → List ℕ
  -- sled i at u and sled j at v meet: they cannot stand so together
  pub meets : (i j u v : ℕ) → Bool
  -- sled i going from u to u' and sled j from v to v' touch at some time of the step
  pub collides : (i j u u' v v' : ℕ) → Bool

-- what a setting has to keep
pub record SettingTerms (S : Setting) : Type 0 where
  -- there is a step
  pub has_step : 1 ≤ S.horizon
  -- a step reaches one of the next places
  pub reached : (s t u v : ℕ) → S.step s t u v ≡ true → In v (S.next u)
  -- the next places ascend
  pub ascending : (u : ℕ) → Ordered ◌<◌ (S.next u)
  -- sleds that meet at the beginning or at the end of a step collide in it
  pub meets_before : (i j u u' v v' : ℕ) → S.meets i j u v ≡ true → S.collides i j u u' v v' ≡ true
  pub meets_after : (i j u u' v v' : ℕ) → S.meets i j u' v' ≡ true → S.collides i j u u' v v' ≡ true
