use Rattle.std.proofs.Common.{refl, arith}
use Rattle.walk.proofs.Reach.{waits_all}
use Rattle.walk.proofs.Trails.{open_row, traced_none, traced_some, traced_more, traced_all}
use Rattle.walk.proofs.route.trace.Goals as goal

pub loop-instant-init : goal.loop-instant-init
loop-instant-init g c n c≤n n≤63 kept =
    traced_none (g.S.Steps.step c.args.steps.now) c.args.goal c.args.cost n c.args.start _ (omega arith) refl c.requires.reached

pub unreachable-requires : goal.unreachable-requires
unreachable-requires g c =
    let a = g.S.Steps.step c.args.steps.now in
    let goal = c.args.goal in
    let cost = c.args.cost in
    let start = c.args.start in
    let t = c.loop-instant.instant in
    let kept = waits_all a goal cost cost (omega arith) in
    traced_some a goal cost cost start (omega arith) (omega arith) (omega arith) kept t c.loop-instant.at c.loop-instant.places (c.loop-instant.invariant cost (omega arith) (omega arith) kept)
    _ c.loop-instant-test.true (open_row a goal cost cost start c.args.table.now c.requires.charted t c.loop-instant-test.true) c.in_default.ensures

pub loop-instant-preserved : goal.loop-instant-preserved
loop-instant-preserved g c n c≤n n≤63 kept =
    let a = g.S.Steps.step c.args.steps.now in
    let goal = c.args.goal in
    let cost = c.args.cost in
    let start = c.args.start in
    let t = c.loop-instant.instant in
    traced_more a goal cost n start (omega arith) c≤n n≤63 kept t c.loop-instant.at c.loop-instant.places (c.loop-instant.invariant n c≤n n≤63 kept)
    _ c.in-Some.to c.loop-instant-test.true (open_row a goal cost n start c.args.table.now c.requires.charted t c.loop-instant-test.true) c.in-Some.ensures

pub returns : goal.returns
returns g c n c≤n n≤63 kept =
    traced_all (g.S.Steps.step c.args.steps.now) c.args.goal c.args.cost n c.args.start (omega arith) c≤n n≤63 kept
    c.loop-instant.instant c.loop-instant.at c.loop-instant.places (c.loop-instant.invariant n c≤n n≤63 kept) (omega arith)
