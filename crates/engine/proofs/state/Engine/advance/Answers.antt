use Rattle.std.proofs.Common.{sym, refl}
use Rattle.tree.specs.Calls as calls
use Rattle.engine.proofs.Calling.{told_ended, told_no_turns, told_made}
use Rattle.engine.proofs.state.Engine.advance.Goals as goal

pub returns-then-not-is_working-clause-answers : goal.returns-then-not-is_working-clause-answers
returns-then-not-is_working-clause-answers g c =
    let e = c.args.self.now in
    let m = g.P.Problem.model c.args.problem.now in
    let v = e.table.nodes.items in
    let over = sym c.if-not-is_working.ensures in
    record {
      told = λ t f. (told_ended m v e.verdict t f e.limit c.args.count over).0;
      goes = λ t f. (told_ended m v e.verdict t f e.limit c.args.count over).1;
      same_limit = refl;
    }

pub returns-then-count-eq0-clause-answers : goal.returns-then-count-eq0-clause-answers
returns-then-count-eq0-clause-answers g c =
    let e = c.args.self.now in
    let m = g.P.Problem.model c.args.problem.now in
    let v = e.table.nodes.items in
    let works = sym c.if-not-is_working.ensures in
    record {
      told = λ t f. (told_no_turns m v e.verdict t f e.limit c.args.count works c.if-count-eq0.true).0;
      goes = λ t f. (told_no_turns m v e.verdict t f e.limit c.args.count works c.if-count-eq0.true).1;
      same_limit = refl;
    }

pub returns-clause-answers : goal.returns-clause-answers
unfolding calls.after
returns-clause-answers g c =
    let e = c.args.self.now in
    let m = g.P.Problem.model c.args.problem.now in
    record {
      told = λ t f. told_made m e.table.nodes.items e.verdict t f e.limit c.args.count c.make_turns.result (sym c.if-not-is_working.ensures) c.if-count-eq0.false (c.make_turns.ensures.made t f);
      goes = c.make_turns.ensures.goes.goes;
      same_limit = c.make_turns.ensures.goes.same_limit;
    }
