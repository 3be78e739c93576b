-- Opening a search.
use Rattle.std.specs.Prelude.{◌≡◌, ℕ, ◌<◌, ◌⊎◌, Ok, Err, Result}
use Rattle.fault.specs.declared.cause.Cause.TheVariants.{SearchNotIdle}
use Rattle.fault.specs.declared.cause.Fault.{Fault}
use Rattle.fault.specs.Causes.{fault_at}
use Rattle.fleet.specs.Offsets.{Sleds}
use Rattle.job.specs.declared.job.Job.{Job}
use Rattle.job.specs.Facts.{facts}
use Rattle.split.specs.Situations.{Sets}
use Rattle.plans.specs.Tasks.{Task, task_of}
use Rattle.instance.specs.Instances.{FitsJob, EndsStand, TurnedAway}
use Rattle.search.specs.declared.state.Search.{Search}
use Rattle.search.specs.States.{Idle, OpenedAt, SameParts}

-- what a search is to plan for a job: the job with the search's fleet, where fleets of its kind have those offsets
abbrev pub asked : {F R : Type 0} → (F → Sleds) → Job → Search F R → Task
asked offsets job s = task_of job (offsets s.fleet)

-- A search is given a job to open. Fleets of its kind have that size and those offsets, rules of its kind those sets.
module _ {F R : Type 0} (size : F → ℕ) (offsets : F → Sleds) (sets : R → Sets) (job : Job) (before after : Search F R) where
  -- It was idle, the fleet goes with the job, and each sled may stand at its start and at its goal: then the search is at the root of
  -- the task's tree.
  pub record Opened : Type 0 where
    pub was_idle : Idle before
    pub fits : FitsJob job (size before.fleet)
    pub stand : (s : ℕ) → s < (asked offsets job before).sleds → EndsStand (asked offsets job before) s
    pub at_root : OpenedAt sets after (asked offsets job before) (facts job).limit 0
    pub same : SameParts before after

  -- It was not idle, or else one of these does not hold: then the search is as it was.
  pub record Refused (fault : Fault) : Type 0 where
    pub cause : ((Idle before → ⊥) × (fault ≡ fault_at SearchNotIdle 0)) ⊎ (Idle before × TurnedAway job (size before.fleet) (offsets before.fleet) fault)
    pub kept : after ≡ before

  abbrev pub Opens : Result (Unit {0}) Fault → Type 0
  Opens (Ok done) = Opened
  Opens (Err fault) = Refused fault
