use Rattle.std.proofs.Common.{◌≡◌, Err, Some, Option, get_or, sym, ap, ◌∙◌, arith}
use Rattle.std.proofs.lemmas.Result.{err_from_is_err_and}
use Rattle.std.specs.Option.{option_map, ok_or}
use Rattle.tree.specs.Calls as calls
use Rattle.engine.specs.declared.call.Refusal.TheVariants.{NotSolved}
use Rattle.tree.specs.Plans.{Plan}
use Rattle.engine.specs.declared.node.Node.{Node}
use Rattle.engine.specs.Table.{plan_of, empty}
use Rattle.engine.specs.Calls.{told_of}
use Rattle.engine.proofs.Calling.{place_none, place_found, place_high}
use Rattle.engine.proofs.state.Engine.place.Goals as goal
use Rattle.engine.proofs.state.Engine.place.Goals.{else-sled-sleds-via-then-sled-sleds+else-instant-horizon, else-sled-sleds-via-else-sled-sleds}

pub returns-in_err-number : goal.returns-in_err-number
returns-in_err-number g c t f =
    let m = g.P.Problem.model c.args.problem.now in
    let h = c.in_err-number.ensures in
    let p = err_from_is_err_and c.from_residual.result c.from_residual.ensures.1 in
    let e : c.from_residual.result ≡ Err NotSolved = cc (p.1, p.2, h.value, ap (λ o. ok_or o NotSolved) h.ok_part) in
    ap (told_of calls.stands) e
    ∙ place_none m.setting t.nodes t.verdict c.args.sled c.args.instant (ap (option_map (λ k. plan_of m.setting (get_or c.args.self.now.table.nodes.items k empty).routes)) (sym h.ok_part) ∙ c.solved.ensures.node m t f)

pub returns-then-instant-horizon : goal.returns-then-instant-horizon
returns-then-instant-horizon g c t f =
    let m = g.P.Problem.model c.args.problem.now in
    let h = c.in_ok-number.ensures in
    let is = ap {B = Option Plan} (λ (n : Node). Some (plan_of m.setting n.routes)) c.node-node.ensures ∙ ap (option_map (λ k. plan_of m.setting (get_or c.args.self.now.table.nodes.items k empty).routes)) (sym h.ok_part) ∙ c.solved.ensures.node m t f in
    place_found m.setting t.nodes t.verdict c.node-node.result.now.routes c.args.sled c.args.instant is (omega (arith, c.sleds.ensures)) (omega (arith, c.horizon.ensures))

pub returns-else-sled-sleds : goal.returns-else-sled-sleds
returns-else-sled-sleds g c t f =
    let m = g.P.Problem.model c.args.problem.now in
    let h = c.in_ok-number.ensures in
    let is = ap {B = Option Plan} (λ (n : Node). Some (plan_of m.setting n.routes)) c.node-node.ensures ∙ ap (option_map (λ k. plan_of m.setting (get_or c.args.self.now.table.nodes.items k empty).routes)) (sym h.ok_part) ∙ c.solved.ensures.node m t f in
    place_high m.setting t.nodes t.verdict (plan_of m.setting c.node-node.result.now.routes) c.args.sled c.args.instant is
    (λ low l.
    elim c.else-sled-sleds.branch [
      | else-sled-sleds-via-then-sled-sleds+else-instant-horizon w ↦ omega (arith, w.if-instant-horizon.false, w.horizon.ensures)
      | else-sled-sleds-via-else-sled-sleds w ↦ omega (arith, w.if-sled-sleds.false, c.sleds.ensures)
    ])
