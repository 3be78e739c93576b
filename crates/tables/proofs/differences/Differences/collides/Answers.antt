use Rattle.std.proofs.Common.{◌≡◌, ℤ, pos, ◌-ℤ◌, ap, ◌∙◌, arith, w8, SFits, rules}
use Rattle.std.proofs.lemmas.Int.{to_z-of_z, ints}
use Rattle.std.proofs.lemmas.Iterator.{YieldsList-from_slice}
use Rattle.std.proofs.lemmas.Iterator.Search.{any_from_yields_List}
use Rattle.std.specs.List.{list_any}
use Rattle.grid.specs.Moves.{across, down}
use Rattle.grid.specs.Places.{position_of}
use Rattle.fleet.specs.Offsets.{Offsets}
use Rattle.tables.specs.DifferenceSets.{difference_set}
use Rattle.tables.specs.Sweeps.{swept}
use Rattle.tables.proofs.Sweeping.{swept_is, sweep_collide}
use Rattle.tables.proofs.differences.Differences.collides.Goals as goal

pub returns : goal.returns
returns c first second made =
    let d = c.args.self.now in
    let u = position_of c.args.u in
    let v = position_of c.args.v in
    let a = c.args.a in
    let b = c.args.b in
    let step = c.relative-step.result in
    let moved = c.relative-step.ensures in
    let x = pos u.column -ℤ pos v.column in
    let y = pos u.row -ℤ pos v.row in
    let dx = across a -ℤ across b in
    let dy = down a -ℤ down b in
    let start = c.gap-start.result in
    let from = c.gap-start.ensures in
    let fits_x : SFits w8 start.dx = omega (arith, ints, from.across) in
    let fits_y : SFits w8 start.dy = omega (arith, ints, from.down) in
    let fits_dx : SFits w8 step.dx = omega (arith, ints, step.across) in
    let fits_dy : SFits w8 step.dy = omega (arith, ints, step.down) in
    let columns = rw (to_z-of_z w8 start.dx fits_x, from.across, to_z-of_z w8 step.dx fits_dx, moved.across) at c.passed-columns.ensures in
    let rows = rw (to_z-of_z w8 start.dy fits_y, from.down, to_z-of_z w8 step.dy fits_dy, moved.down) at c.passed-rows.ensures in
    let has = λ (y : ℤ). list_any (λ x. difference_set d x y) c.passed-columns.result in
    let any : c.any.result ≡ list_any has c.passed-rows.result = any_from_yields_List has _ _ _ c.any.ensures.ran (YieldsList-from_slice c.passed-rows.result cc) (λ y b q k. (search rules, search rules)) in
    any
    ∙ (λ i. list_any (λ y. list_any (λ x. difference_set d x y) (columns i)) (rows i))
    ∙ (λ i. swept_is (λ y. swept_is (λ x. difference_set d x y) x dx i) y dy i)
    ∙ ap (λ (s : Offsets). swept (λ y. swept (λ x. s x y) x dx) y dy) made.set
    ∙ sweep_collide first u a second v b made.first_near made.second_near (rw moved.across at step.across) (rw moved.down at step.down)
