use Rattle.std.proofs.Common.{◌≡◌, ◌-◌, ◌≤◌, false, [], length, drop}
use Rattle.job.specs.Jobs.{sleds_told, ends_drawn}
use Rattle.job.specs.Told.{sleds_of}
use Rattle.job.proofs.sleds_part.read_sleds.Given as goal

-- what is left of the file, after the sleds so far, tells the same as the whole part
abbrev pub invariant-loop-sled : goal.invariant-loop-sled
invariant-loop-sled l =
    (l.at ≤ length l.file)
    × (sleds_of l.floor.columns l.floor.rows l.start false [] (drop l.start l.file)
    ≡ sleds_of l.floor.columns l.floor.rows l.at (ends_drawn (sleds_told l.sleds)) (sleds_told l.sleds) (drop l.at l.file))

abbrev pub decreases-loop-sled : goal.decreases-loop-sled
decreases-loop-sled l = length l.file - l.at
