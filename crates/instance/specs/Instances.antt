-- What an instance is to a search, and which jobs and fleets have one.
use Rattle.std.specs.Prelude.{◌≡◌, ℕ, ◌<◌, ◌≤◌, ◌&&◌, ◌⊎◌, length}
use Rattle.fault.specs.declared.cause.Cause.TheVariants.{FleetNotOfJob, CannotStand}
use Rattle.fault.specs.declared.cause.Fault.{Fault}
use Rattle.fault.specs.Causes.{fault_at}
use Rattle.grid.specs.Places.{position_at}
use Rattle.fleet.specs.Offsets.{Sleds}
use Rattle.job.specs.declared.job.Job.{Job}
use Rattle.job.specs.Facts.{facts}
use Rattle.geometry.specs.Stands.{Standing}
use Rattle.split.specs.declared.pair.Side.TheVariants.{Lower, Upper}
use Rattle.split.specs.Situations.{Sets}
use Rattle.tables.specs.TabledFleets.{tabled_sleds}
use Rattle.engine.specs.Model.{Model}
use Rattle.plans.specs.Tasks.{Task, task_of}
use Rattle.plans.specs.Instance.{setting_of, stands_at, in_set}
use Rattle.instance.specs.declared.instance.Instance.{Instance}
use Rattle.instance.specs.Ends.{ends_at}

-- what there is to plan
abbrev pub task_in : Instance → Task
task_in i =
    record {
      sleds = i.fleet.count;
      horizon = i.horizon.steps;
      start = λ s. position_at (ends_at i.ends s).start;
      goal = λ s. position_at (ends_at i.ends s).goal;
      floor = i.floor;
      offsets = tabled_sleds i.fleet;
    }

-- the problem of a task and a splitting rule with these sets
abbrev pub model_of : Task → Sets → Model
model_of K sets =
    record {
      setting = setting_of K;
      allowed = λ s t u v. stands_at K s u && stands_at K s v;
      first = in_set K sets Lower;
      second = in_set K sets Upper;
    }

-- a fleet of that size goes with the job: it has sleds, as many as the job
abbrev pub FitsJob : Job → (size : ℕ) → Type 0
FitsJob job size = (1 ≤ size) × (size ≡ length (facts job).sleds)

-- sled s may stand at its start and at its goal
abbrev pub EndsStand : Task → (s : ℕ) → Type 0
EndsStand K s = Standing (K.offsets s) K.floor (K.start s) × Standing (K.offsets s) K.floor (K.goal s)

-- the lowest sled that may not
pub record FirstStuck (K : Task) (s : ℕ) : Type 0 where
  pub sled : s < K.sleds
  pub stuck : EndsStand K s → ⊥
  pub before : (r : ℕ) → r < s → EndsStand K r

-- the instance is that of the job with a fleet of that size and these offsets
pub record Admitted (job : Job) (size : ℕ) (offsets : Sleds) (i : Instance) : Type 0 where
  pub fits : FitsJob job size
  pub stand : (s : ℕ) → s < (task_of job offsets).sleds → EndsStand (task_of job offsets) s
  pub task : task_in i ≡ task_of job offsets

-- there is none: the fleet does not go with the job, or else some sled may not stand where it begins or ends
abbrev pub TurnedAway : Job → (size : ℕ) → Sleds → Fault → Type 0
TurnedAway job size offsets fault =
    ((FitsJob job size → ⊥) × (fault ≡ fault_at FleetNotOfJob 0))
    ⊎ ((s : ℕ) × (FitsJob job size × FirstStuck (task_of job offsets) s × (fault ≡ fault_at CannotStand s)))
