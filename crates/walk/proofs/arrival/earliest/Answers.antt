use Rattle.std.proofs.Common.{sym, ◌∙◌, arith, below_more}
use Rattle.std.proofs.lemmas.Bool.{and_left, and_right}
use Rattle.walk.specs.Kinds.{either_both}
use Rattle.walk.specs.Laws.{either_both_laws}
use Rattle.walk.proofs.Filled.{row_none, row_more}
use Rattle.walk.proofs.arrival.earliest.Goals as goal
use Rattle.walk.proofs.arrival.earliest.Goals.{else-row-goal-via-then-row-goal+else-can_wait, else-row-goal-via-else-row-goal}

pub loop-instant-init : goal.loop-instant-init
loop-instant-init g c = (
  row_none either_both either_both_laws (g.S.Steps.step c.args.steps.now) c.args.errand.start _ c.begin-row.ensures,
  λ k l. absurd (omega arith),
)

pub loop-instant-preserved : goal.loop-instant-preserved
loop-instant-preserved g c = (
  row_more either_both either_both_laws (g.S.Steps.step c.args.steps.now) c.args.errand.start c.loop-instant.instant _ _ c.loop-instant.invariant.0 c.advance-row.ensures,
  below_more _ _ c.loop-instant.invariant.1
      (elim c.else-row-goal.branch [
        | else-row-goal-via-then-row-goal+else-can_wait w ↦ and_right _ _ (sym w.can_wait.ensures ∙ w.if-can_wait.false)
        | else-row-goal-via-else-row-goal w ↦ and_left _ _ (sym (c.loop-instant.invariant.0 c.args.errand.goal (omega arith)) ∙ w.if-row-goal.false)
      ]),
)
