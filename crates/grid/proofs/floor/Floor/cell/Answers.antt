use Rattle.std.proofs.Common.{sym, w8}
use Rattle.std.proofs.lemmas.Int.{to_z-of_z}
use Rattle.std.proofs.lemmas.Bool.{and_from, cond-true}
use Rattle.grid.specs.declared.cell.Cell.TheVariants.{Pillar}
use Rattle.grid.specs.Floors.{from_0_below}
use Rattle.grid.proofs.Coordinates.{below, passed, place_below}
use Rattle.grid.proofs.floor.Floor.cell.Goals as goal

pub bounds-self-row : goal.bounds-self-row
bounds-self-row c =
    let f = c.args.self.now in
    let across = below _ f.columns f.narrow c.if-column-lt0.false c.if-column-self.false in
    let down = below _ f.rows f.short c.if-row-lt0.false c.if-row-self.false in
    place_below f.columns f.rows _ _ f.narrow f.short across down

pub returns : goal.returns
returns c =
    let f = c.args.self.now in
    let x = c.args.column in
    let y = c.args.row in
    let x_is = to_z-of_z w8 x c.ranges.column in
    let y_is = to_z-of_z w8 y c.ranges.row in
    let left = rw x_is at c.if-column-lt0.false in
    let right = rw x_is at c.if-column-self.false in
    let top = rw y_is at c.if-row-lt0.false in
    let bottom = rw y_is at c.if-row-self.false in
    let on = and_from (from_0_below x f.columns) (from_0_below y f.rows) (passed x _ f.narrow left right) (passed y _ f.short top bottom) in
    rw (x_is, y_is) (sym (cond-true _ _ Pillar on))
