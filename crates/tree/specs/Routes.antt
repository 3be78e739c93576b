-- Routes of one sled, and what they cost.
use Rattle.std.specs.Prelude.{◌≡◌, ℕ, zero, suc, ◌<◌, true, cond, List, length, ◌==◌, slice_index}
use Rattle.tree.specs.Setting.{Setting}

-- where a route is at instant t
abbrev pub at : List ℕ → ℕ → ℕ
at r t = slice_index r t

-- a route of sled s: a place for each instant, from its start to its goal, by steps that the setting allows
pub record Route (S : Setting) (s : ℕ) (r : List ℕ) : Type 0 where
  pub places : length r ≡ suc S.horizon
  pub begins : at r 0 ≡ S.start s
  pub ends : at r S.horizon ≡ S.goal s
  pub steps : (t : ℕ) → t < S.horizon → S.step s t (at r t) (at r (suc t)) ≡ true

-- the least c such that the route is at g at each of the instants c, c + 1, .. up to n − 1
unfoldable pub settled : ℕ → List ℕ → ℕ → ℕ
settled g r zero = 0
settled g r (suc n) = cond (at r n == g) (settled g r n) (suc n)

-- the least c such that sled s is at its goal at every instant from c to the horizon
unfoldable pub cost : Setting → ℕ → List ℕ → ℕ
cost S s r = settled (S.goal s) r (suc S.horizon)
