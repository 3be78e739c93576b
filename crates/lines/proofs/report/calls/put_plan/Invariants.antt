use Rattle.std.proofs.Common.{◌*◌, ◌≤◌, length}
use Rattle.text.specs.Texts.{Appends}
use Rattle.lines.specs.Reports.{plan_lines}
use Rattle.lines.proofs.report.calls.put_plan.Given as goal

-- the lines of the sleds so far are written
abbrev pub invariant-loop-sled : goal.invariant-loop-sled
invariant-loop-sled l = record {
  text : Appends l.initial.text (plan_lines l.report.routes.now l.report.last l.sled) l.text;
  short : length (plan_lines l.report.routes.now l.report.last l.sled) ≤ 406 * l.sled;
}
