-- What a plan that is told rests on.
use Rattle.std.specs.Prelude.{◌≡◌, ◌+◌, ℕ, List, [], ◌∷◌, ℤ}
use Rattle.job.specs.declared.job.Job.{Job}
use Rattle.job.specs.Facts.{facts}
use Rattle.fleet.specs.declared.skirt.Skirt.{Skirt}
use Rattle.fleet.specs.declared.convoy.Convoy.{Convoy}
use Rattle.fleet.specs.RectangleFleets.{Rectangles}
use Rattle.fleet.specs.OutlineFleets.{Outlines}
use Rattle.split.specs.declared.shared_cell.SharedCell.{SharedCell}
use Rattle.split.specs.Rules.{shared_cell_sets}
use Rattle.standard.specs.JobFleets.{fleet_size, fleet_sleds, job_sleds}
use Rattle.search.specs.declared.call.Call.TheVariants.{Advance}
use Rattle.search.specs.declared.call.Answer.{Answer}
use Rattle.search.specs.declared.state.Search.{Search}
use Rattle.search.specs.Runs.{Ran}

-- a search with a fleet as a job names one, by the rule of shared cells
abbrev pub JobSearch : Type 0
JobSearch = Search (Skirt (Convoy Rectangles Outlines)) SharedCell

-- A search has run the job to its end: its fleet is the one that the job names, and it was asked for one turn more than the job's limit.
pub record Planned (job : Job) (search : JobSearch) : Type 0 where
  pub before : JobSearch
  pub fleet : (s : ℕ) (x y : ℤ) → fleet_sleds before.fleet s x y ≡ job_sleds (facts job).sleds s x y
  pub answers : List Answer
  pub ran : Ran fleet_size fleet_sleds (λ _. shared_cell_sets) job (Advance ((facts job).limit + 1) ∷ []) before search answers
