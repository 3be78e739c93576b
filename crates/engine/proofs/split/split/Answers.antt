use Rattle.std.proofs.Common.{◌≡◌, ℕ, length, sym, ap, ◌∙◌, ap₂, subst, arith}
use Rattle.tree.specs.Constraints as constraints
use Rattle.tree.specs.Conflicts as conflicts
use Rattle.tree.specs.Tree as tree
use Rattle.walk.specs.declared.weight.Step.{Step}
use Rattle.engine.specs.declared.problem.At.{At}
use Rattle.engine.specs.declared.node.Constraint.{Constraint}
use Rattle.engine.specs.declared.scan.Pair.{Pair}
use Rattle.engine.specs.declared.conflict.Conflict.{Conflict}
use Rattle.engine.specs.Model.{search_of}
use Rattle.engine.specs.Table.{plan_of, sled_constraint_of, conflict_of}
use Rattle.engine.proofs.Splits.{meeting_first, meeting_second, collision_first, collision_second}
use Rattle.engine.proofs.split.split.Goals as goal
use Rattle.engine.proofs.split.split.Goals.{in-Meeting, in-Collision}

abbrev move_of : ℕ → Step → constraints.SledConstraint
move_of s k = record { sled = s; constraint = constraints.move_constraint k.instant k.from k.to }

abbrev first_of : Pair × Constraint × Constraint → constraints.SledConstraint
first_of x = sled_constraint_of record { sled = x.0.first; constraint = x.1 }

pub returns-clause-first : goal.returns-clause-first
returns-clause-first g c x e =
    let m = g.P.Problem.model c.args.problem.now in
    let keeps = g.met.P.Problem.keeps c.args.problem.now in
    let rs = c.args.routes.now in
    elim c.match-conflict.branch [
      | in-Meeting w ↦
          let p = w.in-Meeting.pair in
          let real = subst (λ (k : Conflict). conflicts.HasConflict m.setting (plan_of m.setting rs) (conflict_of k)) w.in-Meeting.is c.requires in
          let size : length w.splits-sets.result.lower ≡ 256 = omega arith in
          ap (λ (k : Conflict). tree.first_constraint (search_of m) x (conflict_of k)) w.in-Meeting.is
          ∙ meeting_first m keeps rs x e p.instant p.first p.second real.1 real.2 real.0 w.splits-sets.result.lower size (λ v l. w.splits-sets.ensures.lower v l ∙ ap₂ (λ (a b : At). m.first a.sled b.sled a.place b.place v) w.at-lower.ensures w.at-higher.ensures)
          ∙ ap first_of (sym w.lower-is)
      | in-Collision w ↦
          let p = w.in-Collision.pair in
          let real = subst (λ (k : Conflict). conflicts.HasConflict m.setting (plan_of m.setting rs) (conflict_of k)) w.in-Collision.is c.requires in
          ap (λ (k : Conflict). tree.first_constraint (search_of m) x (conflict_of k)) w.in-Collision.is
          ∙ collision_first m keeps rs x e p.instant p.first p.second real.1 real.2 real.0 ∙ ap (move_of p.first) (sym w.step-lower.ensures) ∙ ap first_of (sym w.lower-is)
    ]

abbrev second_of : Pair × Constraint × Constraint → constraints.SledConstraint
second_of x = sled_constraint_of record { sled = x.0.second; constraint = x.2 }

pub returns-clause-second : goal.returns-clause-second
returns-clause-second g c x e =
    let m = g.P.Problem.model c.args.problem.now in
    let keeps = g.met.P.Problem.keeps c.args.problem.now in
    let rs = c.args.routes.now in
    elim c.match-conflict.branch [
      | in-Meeting w ↦
          let p = w.in-Meeting.pair in
          let real = subst (λ (k : Conflict). conflicts.HasConflict m.setting (plan_of m.setting rs) (conflict_of k)) w.in-Meeting.is c.requires in
          let size : length w.splits-sets.result.higher ≡ 256 = omega arith in
          ap (λ (k : Conflict). tree.second_constraint (search_of m) x (conflict_of k)) w.in-Meeting.is
          ∙ meeting_second m keeps rs x e p.instant p.first p.second real.1 real.2 real.0 w.splits-sets.result.higher size (λ v l. w.splits-sets.ensures.higher v l ∙ ap₂ (λ (a b : At). m.second a.sled b.sled a.place b.place v) w.at-lower.ensures w.at-higher.ensures)
          ∙ ap second_of (sym w.lower-is)
      | in-Collision w ↦
          let p = w.in-Collision.pair in
          let real = subst (λ (k : Conflict). conflicts.HasConflict m.setting (plan_of m.setting rs) (conflict_of k)) w.in-Collision.is c.requires in
          ap (λ (k : Conflict). tree.second_constraint (search_of m) x (conflict_of k)) w.in-Collision.is
          ∙ collision_second m keeps rs x e p.instant p.first p.second real.1 real.2 real.0 ∙ ap (move_of p.second) (sym w.step-higher.ensures) ∙ ap second_of (sym w.lower-is)
    ]
