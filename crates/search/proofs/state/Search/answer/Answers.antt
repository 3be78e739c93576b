use Rattle.search.proofs.Answering.{answers_bound, answers_verdict, answers_place, answers_advance}
use Rattle.search.proofs.state.Search.answer.Goals as goal

pub returns-in-Advance : goal.returns-in-Advance
returns-in-Advance g c = rw c.in-Advance.is (answers_advance g.R.SplitRule.sets c.args.self.now _ c.in-Advance.count c.advance.result c.advance.ensures)

pub returns-in-Bound : goal.returns-in-Bound
returns-in-Bound g c = rw c.in-Bound.is (answers_bound g.R.SplitRule.sets c.args.self.now c.bound.result c.bound.ensures)

pub returns-in-Verdict : goal.returns-in-Verdict
returns-in-Verdict g c = rw c.in-Verdict.is (answers_verdict g.R.SplitRule.sets c.args.self.now c.verdict.result c.verdict.ensures)

pub returns-in-Place : goal.returns-in-Place
returns-in-Place g c = rw c.in-Place.is (answers_place g.R.SplitRule.sets c.args.self.now c.in-Place.sled c.in-Place.instant c.place.result c.place.ensures)
