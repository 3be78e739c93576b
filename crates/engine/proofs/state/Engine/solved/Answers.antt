use Rattle.std.proofs.Common.{◌≡◌, ◌<◌, true, subst, arith}
use Rattle.std.proofs.lemmas.Bool.{ltb-true}
use Rattle.engine.specs.declared.node.Verdict.{Verdict}
use Rattle.engine.specs.Table.{Follows}
use Rattle.engine.specs.WellFormed.{inside}
use Rattle.engine.proofs.Calling.{told_solution}
use Rattle.engine.proofs.state.Engine.solved.Goals as goal

pub returns : goal.returns
returns c =
    let e = c.args.self.now in
    let v = e.table.nodes in
    let k = c.in-Solved.number in
    let l : k < v.len = ltb-true k v.len (subst (λ (w : Verdict). inside v.len w ≡ true) c.in-Solved.is e.solved) in
    record {
      inside = l;
      node = λ m t f. told_solution m v.items k t (subst (λ (w : Verdict). Follows m v.items w t) c.in-Solved.is f) (omega (arith, l, v.ok.0));
    }
