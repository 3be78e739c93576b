-- A job by what its file tells.
use Rattle.std.specs.Prelude.{◌≡◌, ℕ, ◌<◌, ◌≤◌, List, [], ◌∷◌, length, Some, None, Ok, Err, Option, Result, ◌≢◌, slice_index_or}
use Rattle.job.specs.declared.sled.Sled.{Sled}
use Rattle.job.specs.declared.sled_value.SledValue.{SledValue}
use Rattle.std.specs.List.{AllByRecursion}
use Rattle.fault.specs.declared.cause.Fault.{Fault}
use Rattle.grid.specs.declared.cell.Cell.TheVariants.{Free}
use Rattle.job.specs.declared.job.Job.{Job}
use Rattle.job.specs.Format.{JobFacts, encode}
pub use Rattle.job.specs.Jobs.{values_of}
use Rattle.job.specs.Jobs.{sleds_told, smallest_sled}
use Rattle.job.specs.Reading.{floor_facts}
use Rattle.job.specs.Told.{decode}

abbrev pub facts : Job → JobFacts
facts j = record { horizon = j.horizon.steps; limit = j.limit; floor = floor_facts j.floor; sleds = sleds_told j.sleds }

-- one step, one node, one free cell, and the smallest sled
abbrev pub smallest : JobFacts
smallest = record { horizon = 1; limit = 1; floor = record { columns = 1; rows = 1; cells = Free ∷ [] }; sleds = smallest_sled ∷ [] }

-- the sled of a number; none past the last
abbrev pub SledIs : List SledValue → ℕ → Option Sled → Type 0
SledIs sleds n (Some s) = (n < length sleds) × (values_of s ≡ slice_index_or sleds n smallest_sled)
SledIs sleds n None = length sleds ≤ n

-- the file is that of a job, which is taken; or it is no job's, its first fault is told, and the job stays as it was
abbrev pub Reads : List ℕ → Job → Job → Result (Unit {0}) Fault → Type 0
Reads file before after (Ok _) = (file ≡ encode (facts after)) × (decode file ≡ Ok (facts after))
Reads file before after (Err fault) = ((j : Job) → file ≢ encode (facts j)) × (decode file ≡ Err fault) × (after ≡ before)

-- the file of every job gives that job
abbrev pub EveryJobIsReadBack : Type 0
EveryJobIsReadBack = (j : Job) → decode (encode (facts j)) ≡ Ok (facts j)

-- a file of bytes that gives a job is that job's file
abbrev pub OnlyItsOwnFileGivesAJob : Type 0
OnlyItsOwnFileGivesAJob = (file : List ℕ) (j : JobFacts) → AllByRecursion (λ b. b < 256) file → decode file ≡ Ok j → file ≡ encode j
