-- The promise about searches, as a run of calls keeps it.
use Rattle.std.specs.Prelude.{◌≡◌, ℕ, List, map, Ok, Err, vec_items, Result, Vec}
use Rattle.fleet.specs.Offsets.{Sleds}
use Rattle.job.specs.declared.job.Job.{Job}
use Rattle.job.specs.Facts.{facts}
use Rattle.split.specs.Situations.{Sets}
use Rattle.tree.specs.Calls.{Event}
use Rattle.tree.specs.Law.{granted}
use Rattle.engine.specs.declared.call.Call.{Call}
use Rattle.engine.specs.Calls.{call_of}
use Rattle.plans.specs.Promise.{Promise}
use Rattle.search.specs.declared.call.Answer.{Answer}
use Rattle.search.specs.declared.call.RunError.{RunError}
use Rattle.search.specs.declared.call.RunError.TheVariants as errors
use Rattle.search.specs.declared.state.Search.{Search}
use Rattle.search.specs.Words.{AreAnswers}
use Rattle.search.specs.States.{Idle, OpenedAt, SameParts}
use Rattle.search.specs.Opening.{asked, Refused}

-- A search is given a job to open and calls to make. Fleets of its kind have that size and those offsets, rules of its kind those sets.
module _ {F R : Type 0} (size : F → ℕ) (offsets : F → Sleds) (sets : R → Sets) (job : Job) (calls : List Call) (before after : Search F R) where
  -- It was idle, and the job was opened. The calls, each with its answer, keep the promise for the job with the search's fleet, and the
  -- search is where the turns granted have led.
  pub record Ran (answers : List Answer) : Type 0 where
    pub was_idle : Idle before
    pub events : List Event
    pub told : AreAnswers events answers
    pub promise : Promise (asked offsets job before) (sets before.rule) (facts job).limit (map call_of calls) events
    pub goes : OpenedAt sets after (asked offsets job before) (facts job).limit (granted events)
    pub same : SameParts before after

  -- There is no memory for the answers, or the job is refused: no call is made, and the search is as it was.
  abbrev pub Stopped : RunError → Type 0
  Stopped errors.NoMemory = after ≡ before
  Stopped (errors.Refused fault) = Refused size offsets sets job before after fault

  abbrev pub Runs : {A : Type 0} → Result (Vec Answer A) RunError → Type 0
  Runs (Ok answers) = Ran (vec_items answers)
  Runs (Err error) = Stopped error
