use Rattle.std.proofs.Common.{List, length, get_or, sym, ap, ◌∙◌, subst, arith}
use Rattle.few.specs.Told.{told}
use Rattle.tree.specs.Constraints as constraints
use Rattle.engine.specs.declared.node.Node.{Node}
use Rattle.engine.specs.Table.{Tracks, blank, empty}
use Rattle.engine.specs.Forbids.{Collected}
use Rattle.engine.specs.WellFormed.{AllWellFormed}
use Rattle.engine.specs.declared.forbidden.Forbidden.{Forbidden}
use Rattle.engine.proofs.Trails.{constraints_same, constraints_other, constraints_none, root_trail, child_trail}
use Rattle.engine.proofs.Forming.{formed_lower, formed_fits}
use Rattle.engine.proofs.trail.add_trail.Goals as goal
use Rattle.engine.proofs.trail.add_trail.Goals.{then-branch-sled, else-branch-sled}

pub loop-at-preserved : goal.loop-at-preserved
loop-at-preserved c =
    let table = c.records-nodes.result.now in
    let formed = subst AllWellFormed (sym c.records-nodes.ensures.value) c.args.table.now.formed in
    let k = c.loop-at.at in
    let inv = c.loop-at.invariant in
    let b = c.in-Some.branch in
    let s = c.args.sled in
    let lower = formed_lower k (get_or table k empty) b c.in-Some.is (formed k inv.0) in (
      omega (arith, inv.0, lower),
      elim c.if-branch-sled.branch [
        | then-branch-sled w ↦ omega (arith, inv.1, lower, w.add.ensures.room, ap (λ (x : Forbidden). length (told x.moves)) w.forbidden-is)
        | else-branch-sled w ↦ omega (arith, inv.1, lower, ap (λ (x : Forbidden). length (told x.moves)) w.forbidden-is)
      ],
      λ m xs all t h.
          let tr = (get_or xs b.parent blank).trail in
          let so_far = inv.2 m xs all t h in
          let trail = ap (constraints.constraints_on s) (child_trail m table xs t k inv.0 b c.in-Some.is) in
          elim c.if-branch-sled.branch [
            | then-branch-sled w ↦
                subst (λ (x : Forbidden). Collected x (constraints.constraints_on s tr) all) (sym w.forbidden-is)
                (w.add.ensures.added (constraints.constraints_on s tr) all (subst (λ (bs : List constraints.Constraint). Collected c.loop-at.forbidden bs all) (trail ∙ constraints_same s b.own tr w.if-branch-sled.true) so_far))
            | else-branch-sled w ↦
                subst (λ (x : Forbidden). Collected x (constraints.constraints_on s tr) all) (sym w.forbidden-is)
                (subst (λ (bs : List constraints.Constraint). Collected c.loop-at.forbidden bs all) (trail ∙ constraints_other s b.own tr w.if-branch-sled.false) so_far)
          ],
    )

pub loop-at-smaller : goal.loop-at-smaller
loop-at-smaller c =
    let formed = subst AllWellFormed (sym c.records-nodes.ensures.value) c.args.table.now.formed in
    formed_lower c.loop-at.at (get_or c.records-nodes.result.now c.loop-at.at empty) c.in-Some.branch c.in-Some.is (formed c.loop-at.at c.loop-at.invariant.0)

pub add-requires : goal.add-requires
add-requires c =
    let inv = c.loop-at.invariant in
    let formed = subst AllWellFormed (sym c.records-nodes.ensures.value) c.args.table.now.formed c.loop-at.at inv.0 in
    let n = get_or c.records-nodes.result.now c.loop-at.at empty in
    let lower = formed_lower c.loop-at.at n c.in-Some.branch c.in-Some.is formed in
    record {
      room = omega (arith, inv.1, lower, c.requires.1);
      fits = formed_fits c.loop-at.at n c.in-Some.branch c.in-Some.is formed;
    }

pub returns : goal.returns
returns c m xs all t h =
    let inv = c.loop-at.invariant in
    let s = c.args.sled in
    let same : Tracks m c.records-nodes.result.now xs = subst (λ (ns : List Node). Tracks m ns xs) (sym c.records-nodes.ensures.value) t in
    subst (λ (bs : List constraints.Constraint). Collected c.loop-at.forbidden bs all) (ap (constraints.constraints_on s) (root_trail m c.records-nodes.result.now xs same c.loop-at.at inv.0 c.in_default.is) ∙ constraints_none s) (inv.2 m xs all same h)
