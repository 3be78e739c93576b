use Rattle.std.proofs.Common.{get_or, take, vec_items, arith}
use Rattle.std.proofs.lemmas.List.{take_more}
use Rattle.engine.specs.declared.call.Call.TheVariants.{Advance}
use Rattle.search.proofs.Running.{answers_none, answers_push}
use Rattle.search.proofs.state.Search.make_calls.Goals as goal

pub loop-call-init : goal.loop-call-init
loop-call-init g c =
    let s = c.args.self.now in
    let sets = g.R.SplitRule.sets in
    (c.requires.empty.1, c.requires.room, rw c.requires.empty.0 (answers_none sets s))

pub loop-call-preserved : goal.loop-call-preserved
loop-call-preserved g c =
    let s = c.args.self.now in
    let sets = g.R.SplitRule.sets in
    let inv = c.loop-call.invariant in
    let after = c.answer-answer.new.self in
    let k = c.loop-call.call-index in
    let calls = c.args.calls.now in
    let rs = vec_items c.loop-call.answers in
    let r = c.answer-answer.result in
    let more = answers_push sets s c.loop-call.self after (take k calls) (get_or calls k (Advance 0)) rs r inv.2 c.answer-answer.ensures in (
      omega (arith, c.push_reserved.ensures.len, inv.0),
      omega (arith, c.push_reserved.ensures.capacity, inv.1),
      rw (c.push_reserved.ensures.items, take_more calls k (Advance 0) c.loop-call-test.true) more,
    )
