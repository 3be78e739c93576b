-- All lines of a report.
use Rattle.std.specs.Prelude.{ℕ, zero, suc, List, [], ◌++◌, length, take, slice_index_or}
use Rattle.lines.specs.declared.outcome.Outcome.{Outcome}
use Rattle.lines.specs.declared.outcome.Outcome.TheVariants.{Solved, NoPlan, Full}
use Rattle.lines.specs.declared.report.Report.{Report}
use Rattle.lines.specs.Plans.{outcome_line, route_line}

-- a line for each of the first n sleds, with its places at the instants from 0 to the last
unfoldable pub plan_lines : (routes : List (List ℕ)) (last n : ℕ) → List ℕ
plan_lines routes last zero = []
plan_lines routes last (suc n) = plan_lines routes last n ++ route_line n (take (suc last) (slice_index_or routes n []))

-- the plan is told only where the search is solved
abbrev pub lines_after : Outcome → List ℕ → List ℕ
lines_after (Solved sum) plan = plan
lines_after NoPlan plan = []
lines_after (Full bound) plan = []

-- the outcome, and after solved the plan
unfoldable pub report_lines : Report → List ℕ
report_lines r = outcome_line r.outcome r.turns ++ lines_after r.outcome (plan_lines r.routes.now r.last (length r.routes.now))
