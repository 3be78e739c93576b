-- The worked examples, by computation.
use Rattle.std.proofs.Common.{◌≡◌, ℕ, Bool, true, false, ◌&&◌, List, [], ◌∷◌, ◌++◌, ℤ, pos, filter, refl, ap, ◌∙◌, arith}
use Rattle.std.specs.List.{AllByRecursion, range_with_len}
use Rattle.std.proofs.lemmas.Int.{ints}
use Rattle.std.proofs.lemmas.Bool.Decides.{nat_tests, not_from_Decides}
use Rattle.grid.specs.declared.moves.Move.{Move}
use Rattle.grid.specs.declared.moves.Move.TheVariants.{West, East, South}
use Rattle.grid.specs.declared.position.Position.{Position}
use Rattle.grid.specs.Places.{position_at}
use Rattle.fleet.specs.Offsets.{NearSet}
use Rattle.fleet.specs.RectangleFleets.{rectangle}
use Rattle.fleet.specs.Scans.{some_within, in_row, first_near, first_row}
use Rattle.geometry.specs.Shares.{covers, shared_column, shared_row, shared}
use Rattle.geometry.specs.Collisions.{Collision, collide}
use Rattle.geometry.proofs.Meetings.{collide_told}
use Rattle.split.specs.declared.pair.Side.{Side}
use Rattle.split.specs.declared.pair.Side.TheVariants.{Lower, Upper}
use Rattle.split.specs.Situations.{Situation, on_board, meet}
use Rattle.grid.specs.Board.{next}
use Rattle.walk.specs.Sequences.{sequences}
use Rattle.tree.specs.Lists.{joined, first_below, all_below, total, gather, least}
use Rattle.tree.specs.Routes.{settled, cost}
use Rattle.tree.specs.Plans.{sum}
use Rattle.tree.specs.Constraints.{allows, obeys, constraints_on}
use Rattle.tree.specs.Choice.{walks, passes, first_choice}
use Rattle.tree.specs.Conflicts.{scan, first_conflict}
use Rattle.tree.specs.Calls.{routes_at}
use Rattle.tree.specs.Tree.{first_constraint, second_constraint, routes_under, make_node, root, cheapest, bound, expand, turn_on, turn_at, turn, turns}
use Rattle.plans.specs.Instance.{is_step, stands_at, goes, meets_at, overlaps_in, collides_in, in_set}
use Rattle.trials.specs.Trials.{at, two_at, places_of, Trial, shapes, routes, searches, trials, Holds}

pub one_near : NearSet (rectangle 1 1)
one_near x y e = ((grind (arith, nat_tests, ints, e), grind (arith, nat_tests, ints, e)), (grind (arith, nat_tests, ints, e), grind (arith, nat_tests, ints, e)))

do_collide : (u : Position) (a : Move) (v : Position) (b : Move) → collide (rectangle 1 1) u a (rectangle 1 1) v b ≡ true → Collision (rectangle 1 1) u a (rectangle 1 1) v b
do_collide u a v b e = (collide_told (rectangle 1 1) u a (rectangle 1 1) v b one_near one_near).0 e

no_collision : (u : Position) (a : Move) (v : Position) (b : Move) → collide (rectangle 1 1) u a (rectangle 1 1) v b ≡ false → Collision (rectangle 1 1) u a (rectangle 1 1) v b → ⊥
no_collision u a v b e = not_from_Decides _ (collide_told (rectangle 1 1) u a (rectangle 1 1) v b one_near one_near) e

-- the first cell that both cover is (1, 1)
abbrev pair : Situation
pair = two_at 2 2 (at 0 0) (at 1 1)

abbrev both : ℤ → ℤ → Bool
both = shared (rectangle 2 2) (at 0 0) (rectangle 2 2) (at 1 1)

first_is : first_row both ≡ pos 1
unfolding some_within in_row first_near
first_is = refl

row_is : shared_row (rectangle 2 2) (at 0 0) (rectangle 2 2) (at 1 1) ≡ pos 1
row_is = rw first_is refl

column_is : shared_column (rectangle 2 2) (at 0 0) (rectangle 2 2) (at 1 1) ≡ pos 1
unfolding some_within in_row first_near
column_is = rw first_is refl

met : meet pair ≡ true
unfolding some_within in_row
met = refl

places_are : (side : Side) → places_of pair side ≡ filter (λ n. on_board (position_at n) && covers (rectangle 2 2) (position_at n) (pos 1) (pos 1)) (range_with_len 0 256)
places_are side = ap (λ (f : ℕ → Bool). filter f (range_with_len 0 256)) (λ i n. met i && (on_board (position_at n) && covers (rectangle 2 2) (position_at n) (column_is i) (row_is i)))

shapes_hold : AllByRecursion Holds shapes
unfolding some_within in_row
shapes_hold = (do_collide (at 0 0) East (at 1 0) West refl, (no_collision (at 0 0) East (at 1 0) East refl, (do_collide (at 0 0) East (at 1 0) South refl, (refl, (refl, (refl, (refl, ((places_are Lower ∙ refl, places_are Upper ∙ refl), tt))))))))

routes_hold : AllByRecursion Holds routes
unfolding sequences next
routes_hold = ((refl, refl, refl), ((refl, refl, refl), ((refl, refl, refl), tt)))

searches_hold : AllByRecursion Holds searches
unfolding collides_in overlaps_in is_step next some_within in_row stands_at goes meets_at in_set joined first_below all_below total gather least settled cost sum allows obeys constraints_on walks passes first_choice scan first_conflict first_constraint second_constraint routes_under make_node root cheapest bound expand turn_on turn_at turn turns routes_at
searches_hold = ((refl, refl, refl), ((refl, refl, refl), ((refl, refl, refl), ((refl, refl, refl), ((refl, refl, refl), ((refl, refl, refl), ((refl, refl, refl), ((refl, refl, refl), ((refl, refl, refl), tt)))))))))

both_hold : (xs ys : List Trial) → AllByRecursion Holds xs → AllByRecursion Holds ys → AllByRecursion Holds (xs ++ ys)
both_hold [] ys p q = q
both_hold (x ∷ xs) ys p q = (p.0, both_hold xs ys p.1 q)

pub shown : AllByRecursion Holds trials
shown = both_hold shapes (routes ++ searches) shapes_hold (both_hold routes searches routes_hold searches_hold)
