use Rattle.std.proofs.Common.{◌≡◌, length, take, drop}
use Rattle.job.specs.Reading.{all_cells, cells_from}
use Rattle.job.proofs.floor_field.read_cells.Given as goal

-- what is left decides, and the cells so far are those of the bytes so far
abbrev pub invariant-loop-i : goal.invariant-loop-i
invariant-loop-i l =
    (all_cells (drop l.i l.bytes) ≡ all_cells l.bytes)
    × (take l.i l.cells ≡ cells_from (take l.i l.bytes))
    × (length l.cells ≡ 256)
