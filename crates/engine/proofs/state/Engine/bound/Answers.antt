use Rattle.std.proofs.Common.{ℕ, None, Some, Option, ap, ◌∙◌, subst}
use Rattle.engine.specs.declared.node.Node.{Node}
use Rattle.engine.specs.Least.{CheapestSoFar}
use Rattle.engine.proofs.Calling.{told_bound}
use Rattle.engine.proofs.state.Engine.bound.Goals as goal

pub returns-in_err-number : goal.returns-in_err-number
returns-in_err-number c m t f =
    let e = c.args.self.now in
    let v = e.table.nodes in
    c.from_residual.ensures ∙ told_bound m v.items e.verdict t f None (subst (λ (n : ℕ). CheapestSoFar v.items n None) v.ok.0 c.in_err-number.ensures)

pub returns : goal.returns
returns c m t f =
    let e = c.args.self.now in
    let v = e.table.nodes in
    let r = Some c.in_ok-number.number in
    ap {B = Option ℕ} (λ (n : Node). Some n.sum) c.node.ensures ∙ told_bound m v.items e.verdict t f r (subst (λ (n : ℕ). CheapestSoFar v.items n r) v.ok.0 c.in_ok-number.ensures)
