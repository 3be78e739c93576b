use Rattle.std.proofs.Common.{◌≡◌, min, List, ◌++◌, sym, ap, ◌∙◌, subst}
use Rattle.std.specs.Option.{option_to_list}
use Rattle.tree.specs.Tree as tree
use Rattle.engine.specs.declared.node.Node.{Node}
use Rattle.engine.specs.declared.node.Verdict.TheVariants.{Working}
use Rattle.engine.specs.Model.{search_of}
use Rattle.engine.specs.Table.{Follows}
use Rattle.engine.proofs.Turning.{root_tracks}
use Rattle.engine.proofs.state.Engine.open.Goals as goal

pub fill-requires-clause-formed : goal.fill-requires-clause-formed
fill-requires-clause-formed g c = c.root-first.ensures.formed _

pub returns-clause-root : goal.returns-clause-root
returns-clause-root g c =
    let m = g.P.Problem.model c.args.problem.now in
    let first = c.root-first.result in
    let limit = min c.args.limit 512 in
    let rows : c.fill.new.self.nodes.items ≡ option_to_list first = c.fill.ensures.rows ∙ ap (λ (ns : List Node). ns ++ option_to_list first) c.clear.ensures.rows in
    subst (λ (ns : List Node). Follows m ns Working (tree.turns (search_of m) limit 0)) (sym rows) (root_tracks m limit first c.root-first.ensures.as_made)
