use Rattle.std.proofs.Common.{◌+◌, [], length, get_or, take, sym, ap, subst, arith}
use Rattle.std.proofs.lemmas.List.{length-append, length-take}
use Rattle.text.specs.Texts.{Appends}
use Rattle.text.proofs.Written.{appends-both, appends-nothing}
use Rattle.lines.specs.Plans.{route_line}
use Rattle.lines.specs.Reports.{plan_lines}
use Rattle.lines.proofs.Lengths.{plan_more}
use Rattle.lines.proofs.report.calls.put_plan.Goals as goal

pub loop-sled-init : goal.loop-sled-init
unfolding plan_lines
loop-sled-init c = record { text = appends-nothing c.args.text.now; short = omega arith }

pub loop-sled-preserved : goal.loop-sled-preserved
loop-sled-preserved c =
    let r = c.args.report.now in
    let n = c.loop-sled.sled in
    let shown = take (c.from-last.result + 1) (get_or r.routes.now n []) in
    let more = plan_more r.routes.now r.last n (c.from-last.result + 1) (omega (arith, c.from-last.ensures)) in
    let here = c.put_route.ensures in
    record {
      text = subst (λ l. Appends c.args.text.now l c.put_route.new.text) (sym more) (appends-both c.loop-sled.invariant.text here.text);
      short = omega (arith, ap length more, length-append (plan_lines r.routes.now r.last n) (route_line n shown), length-take (c.from-last.result + 1) (get_or r.routes.now n []), here.short, c.from-last.ensures, r.short);
    }
