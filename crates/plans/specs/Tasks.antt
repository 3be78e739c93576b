-- What a search has to plan for.
use Rattle.std.specs.Prelude.{ℕ, ◌<◌, ◌≤◌, length, slice_index_or}
use Rattle.grid.specs.declared.floor.Floor.{Floor}
use Rattle.grid.specs.declared.position.Position.{Position}
use Rattle.fleet.specs.Offsets.{Sleds, FleetTerms}
use Rattle.job.specs.declared.job.Job.{Job}
use Rattle.job.specs.declared.sled_value.SledValue.{SledValue}
use Rattle.job.specs.Facts.{facts}
use Rattle.job.specs.Jobs.{smallest_sled}

-- sleds are numbered from 0, and instants go from 0 to the horizon
pub record Task : Type 0 where
  pub sleds : ℕ
  pub horizon : ℕ
  -- where each sled begins and where it has to end
  pub start : (s : ℕ) → Position
  pub goal : (s : ℕ) → Position
  pub floor : Floor
  -- which cells each sled covers, by their offsets from its place
  pub offsets : Sleds

-- sled s of a job
abbrev pub sled_of : Job → (s : ℕ) → SledValue
sled_of job s = slice_index_or (facts job).sleds s smallest_sled

-- the task of a job with a fleet: the offsets are the fleet's, all else is the job's
abbrev pub task_of : Job → Sleds → Task
task_of job offsets =
    record {
      sleds = length (facts job).sleds;
      horizon = (facts job).horizon;
      start = λ s. (sled_of job s).start;
      goal = λ s. (sled_of job s).goal;
      floor = job.floor;
      offsets = offsets;
    }

-- u is a place of the floor
abbrev pub OfFloor : Floor → (u : Position) → Type 0
OfFloor floor u = (u.column < floor.columns) × (u.row < floor.rows)

-- what is asked of a task: there is a step, sleds begin and end on the floor, and the offsets are those of a fleet of as many sleds
pub record TaskTerms (K : Task) : Type 0 where
  pub lasts : 1 ≤ K.horizon
  pub starts : (s : ℕ) → s < K.sleds → OfFloor K.floor (K.start s)
  pub goals : (s : ℕ) → s < K.sleds → OfFloor K.floor (K.goal s)
  pub fleet : FleetTerms K.sleds K.offsets
