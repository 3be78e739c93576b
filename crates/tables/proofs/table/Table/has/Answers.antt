use Rattle.std.proofs.Common.{◌≡◌, true, false, ◌&&◌, pos, ◌+ℤ◌, to_z, of_z, nat_abs, get_or, sym, ap, ◌∙◌, [], SFits, arith, rules, w8}
use Rattle.std.proofs.lemmas.Int.{ints}
use Rattle.std.proofs.lemmas.Bool.{and_parts}
use Rattle.fleet.specs.Scans.{within}
use Rattle.tables.specs.Entries.{bounds}
use Rattle.tables.proofs.table.Table.has.Goals as goal

pub returns : goal.returns
returns g c =
    let n = g.row.REACH in
    let o = c.args.offset in
    let rows = c.args.self.now.rows in
    let (small, _) = c.args.self.now.square in
    let fits_x : SFits w8 o.dx = search rules in
    let fits_y : SFits w8 o.dy = search rules in
    let is_in : (within n o.dx && within n o.dy) ≡ true = sym c.if-not-is_within.ensures in
    let (in_x, in_y) = and_parts (within n o.dx) (within n o.dy) is_in in
    let (left, right) = bounds n o.dx in_x in
    let (up, down) = bounds n o.dy in_y in
    let column : nat_abs (to_z w8 (of_z w8 (to_z w8 (of_z w8 o.dx) +ℤ to_z w8 n))) ≡ nat_abs (o.dx +ℤ pos n) = omega (arith, ints) in
    let row : nat_abs (to_z w8 (of_z w8 (to_z w8 (of_z w8 o.dy) +ℤ to_z w8 n))) ≡ nat_abs (o.dy +ℤ pos n) = omega (arith, ints) in
    (λ i. get_or (get_or rows (row i) []) (column i) false)
    ∙ sym (ap (λ t. t && get_or (get_or rows (nat_abs (o.dy +ℤ pos n)) []) (nat_abs (o.dx +ℤ pos n)) false) is_in)
