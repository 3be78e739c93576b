-- Moves of one cell.
use Rattle.std.specs.Prelude.{ℤ, pos, negsuc}
use Rattle.grid.specs.declared.moves.Move.{Move}
use Rattle.grid.specs.declared.moves.Move.TheVariants.{North, West, Wait, East, South}

-- how far a move goes across, to the right
abbrev pub across : Move → ℤ
across North = pos 0
across West = negsuc 0
across Wait = pos 0
across East = pos 1
across South = pos 0

-- how far it goes down
abbrev pub down : Move → ℤ
down North = negsuc 0
down West = pos 0
down Wait = pos 0
down East = pos 0
down South = pos 1
