use Rattle.std.proofs.Common.{◌≡◌, ◌+◌, ◌<◌, [], length, get_or, set, sym, subst, ⊎_elim, arith}
use Rattle.std.proofs.lemmas.List.{length-set, get_or-set_same, get_or-set_other}
use Rattle.std.proofs.lemmas.Bool.{cases_eq}
use Rattle.walk.specs.Sequences.{total, Row}
use Rattle.walk.proofs.Filled.{row_none, row_more}
use Rattle.walk.proofs.chart.chart.Goals as goal

pub loop-done-init : goal.loop-done-init
loop-done-init g c =
    let o = g.W.Weight.ops in
    let w = g.S.Steps.step c.args.steps.now in (
      λ k l.
          let none : 0 ≡ k = omega arith in
          let within : 0 < length c.args.table.now = omega arith in
          subst (λ i. Row o (total o w i 0 c.args.start) (get_or (set c.args.table.now 0 c.begin.result) i [])) none
          (rw (get_or-set_same c.args.table.now 0 c.begin.result [] within)
          (row_none o g.met.W.Weight.laws w c.args.start c.begin.result c.begin.ensures)),
      omega (arith, length-set c.args.table.now 0 c.begin.result),
    )

pub loop-done-preserved : goal.loop-done-preserved
loop-done-preserved g c =
    let o = g.W.Weight.ops in
    let w = g.S.Steps.step c.args.steps.now in
    let done = c.loop-done.done in
    let table = c.loop-done.table in
    let row = c.advance.result in
    let within : done + 1 < length table = omega arith in (
      λ k l.
          ⊎_elim
          (λ (same : done + 1 ≡ k).
          subst (λ i. Row o (total o w i 0 c.args.start) (get_or (set table (done + 1) row) i [])) same
          (rw (get_or-set_same table (done + 1) row [] within)
          (row_more o g.met.W.Weight.laws w c.args.start done _ _ (c.loop-done.invariant.0 done (omega arith)) c.advance.ensures)))
          (λ (other : done + 1 ≡ k → ⊥).
          rw (get_or-set_other table (done + 1) k row [] (λ back. other (sym back)))
          (c.loop-done.invariant.0 k (omega arith)))
          (cases_eq (done + 1) k),
      omega (arith, length-set table (done + 1) row),
    )
