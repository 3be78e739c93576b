use Rattle.std.proofs.Common.{◌≡◌, ℕ, ◌-◌, true, false, sym, ap, ◌∙◌, subst, arith}
use Rattle.tree.specs.Tree as tree
use Rattle.engine.specs.Model.{search_of}
use Rattle.engine.specs.Engine.{IsAt}
use Rattle.engine.proofs.Advancing.{after_more, made_more, after_all, made_all, after_rest, made_rest}
use Rattle.engine.proofs.state.Engine.make_turns.Goals as goal

pub loop-made-preserved : goal.loop-made-preserved
loop-made-preserved g c =
    let m = g.P.Problem.model c.args.problem.now in
    let P = search_of m in
    let limit = c.args.self.now.limit in
    let inv = c.loop-made.invariant in
    let n = c.args.count in
    let k = c.loop-made.made in
    let old = c.loop-made.self in
    let new = c.turn.new.self in
    let goes : (u : tree.Tree) → IsAt m old u → IsAt m new (tree.turn P limit u) =
    subst (λ (j : ℕ). (u : tree.Tree) → IsAt m old u → IsAt m new (tree.turn P j u)) inv.0 c.turn.ensures.goes in (
      c.turn.ensures.same_limit ∙ inv.0,
      λ t f.
          let r = inv.1 t f in
          let u = r.0 in
          let works : tree.is_working u.verdict ≡ true = ap tree.is_working r.1.verdict_is ∙ sym c.if-not-is_working.ensures in
          (tree.turn P limit u, goes u r.1, after_more P limit n k t u c.loop-made-test.true r.2, made_more P limit n k t u c.loop-made-test.true works r.3),
    )

pub returns-then-not-is_working : goal.returns-then-not-is_working
returns-then-not-is_working g c =
    let m = g.P.Problem.model c.args.problem.now in
    let P = search_of m in
    let limit = c.args.self.now.limit in
    let inv = c.loop-made.invariant in
    let n = c.args.count in
    let k = c.loop-made.made in
    let rest : (t : tree.Tree) (f : IsAt m c.args.self.now t) → tree.is_working (inv.1 t f).0.verdict ≡ false = λ t f. ap tree.is_working (inv.1 t f).1.verdict_is ∙ sym c.if-not-is_working.ensures in
    record {
      made = λ t f. let r = inv.1 t f in omega (arith, r.3, made_rest P limit (n - k) r.0 (rest t f));
      goes = record {
        goes = λ t f. let r = inv.1 t f in subst (IsAt m c.loop-made.self) (sym (r.2 ∙ after_rest P limit (n - k) r.0 (rest t f))) r.1;
        same_limit = inv.0;
      };
    }

pub returns : goal.returns
returns g c =
    let m = g.P.Problem.model c.args.problem.now in
    let P = search_of m in
    let limit = c.args.self.now.limit in
    let inv = c.loop-made.invariant in
    let n = c.args.count in
    let k = c.loop-made.made in
    record {
      made = λ t f. let r = inv.1 t f in omega (arith, r.3, made_all P limit n k r.0 c.loop-made-test.false);
      goes = record {
        goes = λ t f. let r = inv.1 t f in subst (IsAt m c.loop-made.self) (sym (r.2 ∙ after_all P limit n k r.0 c.loop-made-test.false)) r.1;
        same_limit = inv.0;
      };
    }
