use Rattle.std.proofs.Common.{◌≡◌, ℕ, ◌<◌, min, get_or, take, refl, ap, ◌∙◌, subst, arith}
use Rattle.std.proofs.lemmas.List.{length-take-le, drop-set-lt}
use Rattle.tree.specs.Tree as tree
use Rattle.tree.specs.Calls as calls
use Rattle.engine.specs.declared.call.Call.TheVariants.{Advance}
use Rattle.engine.specs.Model.{search_of}
use Rattle.engine.specs.Engine.{IsAt, Answers}
use Rattle.engine.specs.Calls.{call_of, answer_of, events_of}
use Rattle.engine.proofs.Replaying.{far_none, far_more, far_all, all_lawful}
use Rattle.engine.proofs.state.Engine.replay.Goals as goal

pub loop-number-init : goal.loop-number-init
loop-number-init g c =
    let m = g.P.Problem.model c.args.problem.now in
    let limit = min c.args.limit 512 in
    (c.open.ensures.limit, refl, (tree.turns (search_of m) limit 0, c.open.ensures.root, far_none (search_of m) limit _ (tree.turns (search_of m) limit 0) c.args.answers.now))

pub loop-number-preserved : goal.loop-number-preserved
loop-number-preserved g c =
    let m = g.P.Problem.model c.args.problem.now in
    let P = search_of m in
    let limit = min c.args.limit 512 in
    let count = c.min-count.result in
    let inv = c.loop-number.invariant in
    let old = c.loop-number.self in
    let new = c.answer.new.self in
    let k = c.loop-number.number in
    let rs = c.loop-number.answers in
    let r = c.answer.result in
    let cs = take count c.args.calls.now in
    let call = get_or cs k (Advance 0) in
    let u = inv.2.0 in
    let long = length-take-le count c.args.calls.now (omega (arith, c.min-count.ensures)) in
    let within : k < count = omega (arith, c.loop-number-test.true) in
    let made : Answers m old new (call_of call) (answer_of r) = c.answer.ensures in (
      made.same_limit ∙ inv.0,
      drop-set-lt count rs k r within ∙ inv.1,
      (
        calls.after P limit u (call_of call),
        subst (λ (j : ℕ). IsAt m new (calls.after P j u (call_of call))) inv.0 (made.goes u inv.2.1),
        far_more P limit cs (tree.turns P limit 0) k rs u (Advance 0) r (omega arith) (omega (arith, c.loop-number.auto.answers, c.min-count.ensures)) inv.2.2
            (subst (λ (j : ℕ). answer_of r ≡ calls.reply P j u (call_of call)) inv.0 (made.told u inv.2.1)),
      ),
    )

pub returns : goal.returns
returns g c =
    let m = g.P.Problem.model c.args.problem.now in
    let P = search_of m in
    let limit = min c.args.limit 512 in
    let count = c.min-count.result in
    let inv = c.loop-number.invariant in
    let k = c.loop-number.number in
    let rs = c.loop-number.answers in
    let cs = take count c.args.calls.now in
    let long = length-take-le count c.args.calls.now (omega (arith, c.min-count.ensures)) in
    let all : k ≡ count = omega arith in
    let runs = far_all P limit cs (tree.turns P limit 0) k rs inv.2.0 (omega arith) inv.2.2 in
    record {
      count = c.min-count.ensures;
      lawful = all_lawful m (g.met.P.Problem.keeps c.args.problem.now) limit cs (take count rs) (runs ∙ ap (λ (j : ℕ). events_of cs (take j rs)) all);
      rest = inv.1;
    }
