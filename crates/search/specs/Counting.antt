-- Counting the routes of a sled.
use Rattle.std.specs.Prelude.{◌≡◌, ℕ, ◌<◌, ◌≤◌, ◌⊎◌, List, Ok, Err, Result}
use Rattle.fault.specs.declared.cause.Cause.{Cause}
use Rattle.fault.specs.declared.cause.Cause.TheVariants.{WrongState, NumberTooHigh}
use Rattle.fault.specs.declared.cause.Fault.{Fault}
use Rattle.fault.specs.Causes.{fault_at}
use Rattle.grid.specs.Places.{number_of}
use Rattle.split.specs.Situations.{Sets}
use Rattle.walk.specs.declared.count.Count.{Count}
use Rattle.walk.specs.Sleds.{both_ends}
use Rattle.walk.specs.Promises.{Counted, Refused}
use Rattle.plans.specs.Tasks.{Task}
use Rattle.plans.specs.Instance.{stands_at}
use Rattle.search.specs.declared.state.Search.{Search}
use Rattle.search.specs.States.{ByState}

module _ (sled : ℕ) (row spare row' spare' : List Count) where
  -- the call is refused for this cause, and both rows are as they were
  pub record Refuses (cause : Cause) (r : Result ℕ Fault) : Type 0 where
    pub fault_is : r ≡ Err (fault_at cause 0)
    pub row_kept : row' ≡ row
    pub spare_kept : spare' ≡ spare

  -- the routes of least cost of a sled of task K; a sled too high is refused, then rows that are too short
  abbrev pub CountsOf : Task → Result ℕ Fault → Type 0
  CountsOf K (Ok number) =
      (sled < K.sleds) × Counted (both_ends (stands_at K sled)) K.horizon (number_of (K.start sled)) (number_of (K.goal sled)) row spare row' spare' number
  CountsOf K (Err fault) = ((K.sleds ≤ sled) × Refuses NumberTooHigh (Err fault)) ⊎ ((sled < K.sleds) × Refused row spare row' spare' fault)

  -- those of the task that is open, whatever the turns; refused when idle
  abbrev pub Counts : {F R : Type 0} → (R → Sets) → Search F R → Result ℕ Fault → Type 0
  Counts sets s r = ByState sets s (Refuses WrongState r) (λ K limit n. CountsOf K r)
