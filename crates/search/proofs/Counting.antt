-- Routes counted by place numbers are those of the task.
use Rattle.std.proofs.Common.{◌≡◌, ℕ, ◌<◌, List, Ok, Err, Result, inr, MatchResult}
use Rattle.fault.specs.declared.cause.Fault.{Fault}
use Rattle.grid.specs.Places.{number_of}
use Rattle.walk.specs.declared.count.Count.{Count}
use Rattle.walk.specs.Sleds.{both_ends}
use Rattle.walk.specs.Promises.{Counted, Refused}
use Rattle.plans.specs.Tasks.{Task}
use Rattle.plans.specs.Instance.{stands_at}
use Rattle.search.specs.Counting.{CountsOf}

module _ (s : ℕ) (row spare row' spare' : List Count) (K : Task) (below : s < K.sleds) where
  pub counts : (n start goal : ℕ) → n ≡ K.horizon → start ≡ number_of (K.start s) → goal ≡ number_of (K.goal s) → (r : Result ℕ Fault) →
      MatchResult r (Counted (both_ends (stands_at K s)) n start goal row spare row' spare') (Refused row spare row' spare') → CountsOf s row spare row' spare' K r
  counts n start goal e f g (Ok number) h =
      (below, rw (e, f, g) at h)
  counts n start goal e f g (Err fault) h = inr (below, h)
