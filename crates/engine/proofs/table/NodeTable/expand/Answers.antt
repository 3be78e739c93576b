use Rattle.std.proofs.Common.{◌<◌, List, ◌++◌, length, get_or, sym, ap, ◌∙◌, subst, arith}
use Rattle.std.specs.Option.{option_to_list}
use Rattle.tree.specs.Tree as tree
use Rattle.engine.specs.declared.node.Node.{Node}
use Rattle.engine.specs.Model.{search_of}
use Rattle.engine.specs.Table.{Tracks, plan_of, conflict_of, found_of, blank}
use Rattle.engine.proofs.Tables.{expand_tracks}
use Rattle.engine.proofs.table.NodeTable.expand.Goals as goal

pub fill-requires-clause-formed : goal.fill-requires-clause-formed
fill-requires-clause-formed g c = c.child-lower.ensures.formed _ (omega (arith, c.close.ensures.len, c.requires.room.0))

pub fill-requires-2-clause-formed : goal.fill-requires-2-clause-formed
fill-requires-2-clause-formed g c = c.child-higher.ensures.formed _ (omega (arith, c.close.ensures.len, c.fill.ensures.len.0, c.requires.room.0))

pub returns : goal.returns
returns g c xs t =
    let m = g.P.Problem.model c.args.problem.now in
    let rows = c.args.self.now.nodes.items in
    let number = c.args.number in
    let lower = c.child-lower.result in
    let higher = c.child-higher.result in
    let l : number < length rows = omega (arith, c.args.self.now.nodes.ok.0, c.requires.room.0) in
    let routes = (t.each number l).routes ∙ ap (λ (n : Node). plan_of m.setting n.routes) (sym c.node.ensures) in
    subst (λ (ns : List Node). Tracks m ns (tree.expand (search_of m) xs (found_of xs number) (conflict_of c.args.conflict)))
    (sym (c.fill-2.ensures.rows ∙ ap (λ (ns : List Node). ns ++ option_to_list higher) (c.fill.ensures.rows ∙ ap (λ (ns : List Node). ns ++ option_to_list lower) c.close.ensures.rows)))
    (expand_tracks m rows xs t number l c.args.conflict c.split.result.0 c.split.result.1 lower higher
    (c.split.ensures.first (get_or xs number blank) routes) (c.split.ensures.second (get_or xs number blank) routes)
    (λ k h. c.child-lower.ensures.as_made xs k t h) (λ k h. c.child-higher.ensures.as_made xs k t h))
