-- Where sleds begin and end, by place numbers.
use Rattle.std.specs.Prelude.{◌≡◌, ℕ, ◌<◌, ◌≤◌, Bool, true, false, ◌&&◌, List, [], length, Some, None, Option, slice_index_or}
use Rattle.std.specs.Option.{unwrap_or}
use Rattle.job.specs.declared.job.Job.{Job}
use Rattle.job.specs.declared.sled_value.SledValue.{SledValue}
use Rattle.job.specs.Facts.{facts}
use Rattle.plans.specs.Tasks.{sled_of}
use Rattle.instance.specs.declared.ends.Ends.{Ends}
use Rattle.instance.specs.Numbers.{Numbers}

-- those of sled s; where there are none both are 0
abbrev pub ends_at : List (Option Ends) → (s : ℕ) → Ends
ends_at ends s = unwrap_or (slice_index_or ends s None) (record { start = 0; goal = 0 })

-- they are those of a job's sled
pub record EndsAre (sled : SledValue) (ends : Ends) : Type 0 where
  pub start : Numbers ends.start sled.start
  pub goal : Numbers ends.goal sled.goal

-- they are those of sled s of the job; there are none past the last
abbrev pub EndsTold : Job → (s : ℕ) → Option Ends → Type 0
EndsTold job s (Some ends) = (s < length (facts job).sleds) × EndsAre (sled_of job s) ends
EndsTold job s None = length (facts job).sleds ≤ s

-- so are those of each sled
abbrev pub EndsOf : Job → List (Option Ends) → Type 0
EndsOf job ends = (s : ℕ) → EndsTold job s (slice_index_or ends s None)

-- by the table of a sled, it may stand at both, if it has any
abbrev pub can_stay : List Bool → Option Ends → Bool
can_stay places None = true
can_stay places (Some ends) = slice_index_or places ends.start false && slice_index_or places ends.goal false

-- the same of sled s, by all tables
abbrev pub both_stand : List (List Bool) → List (Option Ends) → (s : ℕ) → Bool
both_stand standing ends s = can_stay (slice_index_or standing s []) (slice_index_or ends s None)

-- the first number below n that does not pass, if there is one
abbrev pub FirstWithout : (ℕ → Bool) → (n : ℕ) → Option ℕ → Type 0
FirstWithout p n (Some s) = (s < n) × (p s ≡ false) × ((r : ℕ) → r < s → p r ≡ true)
FirstWithout p n None = (r : ℕ) → r < n → p r ≡ true
