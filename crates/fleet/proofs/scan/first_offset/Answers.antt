use Rattle.std.proofs.Common.{pos, arith, w8, SFits, rules}
use Rattle.std.proofs.lemmas.Int.{to_z-of_z, ints}
use Rattle.std.proofs.lemmas.Bool.{both_ways}
use Rattle.fleet.specs.Scans.{in_row}
use Rattle.fleet.specs.ScansLemmas.{row_is, tells_beside, near_first_at}
use Rattle.fleet.proofs.scan.first_offset.Goals as goal

pub returns-in_err-dy : goal.returns-in_err-dy
returns-in_err-dy g c = λ set tells.
    rw c.from_residual.ensures (c.in_err-dy.ensures (in_row 7 (pos 0) set) (λ b down r e. row_is 7 (pos 0) (pos 0) set (tells_beside set tells) b down r (search rules)))

pub returns-in_err-dx : goal.returns-in_err-dx
unfolding in_row
returns-in_err-dx g c = λ set tells.
    let dy = c.in_ok-dy.dy in
    let row = c.in_ok-dy.ensures (in_row 7 (pos 0) set) (λ b down r e. row_is 7 (pos 0) (pos 0) set (tells_beside set tells) b down r (search rules)) in
    let (hit, near_y) = near_first_at (in_row 7 (pos 0) set) dy row in
    let fits : SFits w8 dy = search rules in
    let y = to_z-of_z w8 dy fits in
    let none = c.in_err-dx.ensures (λ x. set x dy) (λ x across r e. tells (record { dx = x; dy = dy }) (omega (arith, ints), omega (arith, ints)) near_y r (search rules)) in
    absurd (both_ways _ none hit)

pub returns : goal.returns
unfolding in_row
returns g c = λ set tells.
    let dy = c.in_ok-dy.dy in
    let dx = c.in_ok-dx.dx in
    let row = c.in_ok-dy.ensures (in_row 7 (pos 0) set) (λ b down r e. row_is 7 (pos 0) (pos 0) set (tells_beside set tells) b down r (search rules)) in
    let (_, near_y) = near_first_at (in_row 7 (pos 0) set) dy row in
    let fits_y : SFits w8 dy = search rules in
    let fits_x : SFits w8 dx = search rules in
    let y = to_z-of_z w8 dy fits_y in
    let x = to_z-of_z w8 dx fits_x in
    let column = c.in_ok-dx.ensures (λ x. set x dy) (λ x across r e. tells (record { dx = x; dy = dy }) (omega (arith, ints), omega (arith, ints)) near_y r (search rules)) in
    let (_, near_x) = near_first_at (λ x. set x dy) dx column in
    rw (x, y) (row.0, rw row.1 at column.1, row.1, near_x, near_y)
