use Rattle.std.proofs.Common.{◌≡◌, ◌+◌, ◌≤◌, length, take, sym, refl, ◌∙◌, arith}
use Rattle.std.proofs.lemmas.List.{length-take-le}
use Rattle.std.proofs.lemmas.Slice.{drop-append-drop}
use Rattle.walk.specs.Sequences.{total, Row}
use Rattle.walk.proofs.Filled.{row_none, row_more, row_front}
use Rattle.walk.proofs.layers.walk_lent.Goals as goal

pub loop-instant-init : goal.loop-instant-init
loop-instant-init g c =
    let o = g.W.Weight.ops in
    let laws = g.met.W.Weight.laws in
    let w = g.S.Steps.step c.args.steps.now in
    let start = c.args.start in
    (row_none o laws w start _ c.write_begin.ensures.made, row_none o laws w start _ c.write_begin-2.ensures.made, refl, refl)

pub loop-instant-preserved : goal.loop-instant-preserved
loop-instant-preserved g c =
    let o = g.W.Weight.ops in
    let w = g.S.Steps.step c.args.steps.now in
    let t = c.loop-instant.instant in
    let inv = c.loop-instant.invariant in
    let spare = c.write_step.new.out in
    let long : 256 ≤ length spare = omega arith in
    let made : Row o (total o w (t + 1) 0 c.args.start) spare = row_more o g.met.W.Weight.laws w c.args.start t _ spare inv.0 c.write_step.ensures.made in
    let kept = drop-append-drop 256 c.loop-instant.row (take 256 spare) 256 (omega arith) (length-take-le 256 spare long) in
    rw c.copy.ensures (row_front o _ spare _ long made, made, kept ∙ inv.2, c.write_step.ensures.rest ∙ inv.3)

pub returns : goal.returns
returns g c =
    let inv = c.loop-instant.invariant in
    let all : c.loop-instant.instant ≡ c.args.count = omega arith in
    record {
      row_long = c.requires.0;
      spare_long = c.requires.1;
      totals = rw (sym all) inv.0;
      spare_totals = rw (sym all) inv.1;
      rest = inv.2 ∙ c.write_begin.ensures.rest;
      spare_rest = inv.3 ∙ c.write_begin-2.ensures.rest;
    }
