use Rattle.std.proofs.Common.{◌++◌, length, sym, ap, ◌∙◌, subst, arith}
use Rattle.std.proofs.lemmas.List.{length-append, append-nil}
use Rattle.text.specs.Texts.{Appends}
use Rattle.text.proofs.Written.{appends-both}
use Rattle.lines.specs.Plans.{outcome_line}
use Rattle.lines.specs.Reports.{plan_lines, report_lines, lines_after}
use Rattle.lines.proofs.Lengths.{only_solved}
use Rattle.lines.proofs.report.calls.ReportMeasuredLines.put_measured.Goals as goal

pub returns-in-Solved : goal.returns-in-Solved
unfolding report_lines
returns-in-Solved c =
    let r = c.args.self.now in
    let head = outcome_line r.outcome r.turns in
    let plan = plan_lines r.routes.now r.last (length r.routes.now) in
    let all = ap (λ o. head ++ lines_after o plan) (sym c.in-Solved.is) in
    record {
      text = subst (λ l. Appends c.args.text.now l c.put_plan.new.text) all (appends-both c.put_outcome.ensures.text c.put_plan.ensures.text);
      short = omega (arith, ap length all, length-append head plan, c.put_plan.ensures.short, c.put_outcome.ensures.short);
    }

pub returns-in_default : goal.returns-in_default
unfolding report_lines
returns-in_default c =
    let r = c.args.self.now in
    let head = outcome_line r.outcome r.turns in
    let all = sym (ap (λ l. head ++ l) (only_solved r.outcome (plan_lines r.routes.now r.last (length r.routes.now)) c.in_default.not-Solved) ∙ append-nil head) in
    record { text = subst (λ l. Appends c.args.text.now l c.put_outcome.new.text) all c.put_outcome.ensures.text; short = omega (arith, ap length all, c.put_outcome.ensures.short) }
