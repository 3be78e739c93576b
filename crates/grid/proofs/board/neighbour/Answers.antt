use Rattle.std.proofs.Common.{arith}
use Rattle.std.proofs.lemmas.Bool.Decides.{nat_tests}
use Rattle.std.proofs.lemmas.Grind.{common_steps}
use Rattle.grid.proofs.Boards.{neighbour_told}
use Rattle.grid.proofs.board.neighbour.Goals as goal

pub returns-in-North : goal.returns-in-North
returns-in-North c = neighbour_told c.args.place c.args.towards _ (omega arith) (grind (arith, nat_tests))

pub returns-in-West : goal.returns-in-West
returns-in-West c = neighbour_told c.args.place c.args.towards _ (omega arith) (grind (arith, common_steps, nat_tests))

pub returns-in-Wait : goal.returns-in-Wait
returns-in-Wait c = neighbour_told c.args.place c.args.towards _ (omega arith) (grind (arith, nat_tests))

pub returns-in-East : goal.returns-in-East
returns-in-East c = neighbour_told c.args.place c.args.towards _ (omega arith) (grind (arith, common_steps, nat_tests))

pub returns-in-South : goal.returns-in-South
returns-in-South c = neighbour_told c.args.place c.args.towards _ (omega arith) (grind (arith, nat_tests))
