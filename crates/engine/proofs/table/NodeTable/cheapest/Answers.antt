use Rattle.std.proofs.Common.{◌≡◌, ℕ, Bor, Option, length, ◌∙◌, subst, arith, rules}
use Rattle.std.specs.Option.{option_map}
use Rattle.engine.specs.Least.{CheapestSoFar}
use Rattle.engine.specs.declared.node.Node.{Node}
use Rattle.engine.proofs.Cheapest.{least_of_open}
use Rattle.engine.proofs.table.NodeTable.cheapest.Goals as goal

pub returns : goal.returns
returns c =
    let told : option_map (λ (x : ℕ × Bor Node). x.0) c.min_by_key.result ≡ c.map.result = search rules in
    let long : length c.args.self.now.nodes.items ≡ c.args.self.now.nodes.len = omega (arith, c.args.self.now.nodes.ok.0) in
    subst (λ (o : Option ℕ). CheapestSoFar c.args.self.now.nodes.items c.args.self.now.nodes.len o) told
    (subst (λ (n : ℕ). CheapestSoFar c.args.self.now.nodes.items n (option_map (λ (x : ℕ × Bor Node). x.0) c.min_by_key.result)) long
    (least_of_open c.args.self.now.nodes.items (λ a r q k. search rules) (λ a r q k. search rules) c.iter.result (c.iter.ensures.rest ∙ c.deref.ensures.value) c.enumerate.result c.enumerate.ensures.runs c.filter.result c.filter.ensures.runs (λ a r q k. search rules) (λ a r q k. search rules) c.min_by_key.result c.min_by_key.ensures.runs))
