-- What the engine's own records keep, so that each read and write stays within its bounds.
use Rattle.std.specs.Prelude.{◌≡◌, ℕ, ◌<◌, Bool, true, ◌&&◌, List, length, Some, None, Option, nat_lt, slice_index_or}
use Rattle.engine.specs.declared.node.Constraint.{Constraint}
use Rattle.engine.specs.declared.node.Constraint.TheVariants.{Places, Move}
use Rattle.engine.specs.declared.node.Branch.{Branch}
use Rattle.engine.specs.declared.node.Node.{Node}
use Rattle.engine.specs.declared.node.Verdict.{Verdict}
use Rattle.engine.specs.declared.node.Verdict.TheVariants.{Working, Solved, Unsolvable, Full}
use Rattle.engine.specs.Table.{empty}

-- a constraint lies within the instants
abbrev pub is_in_table : Constraint → Bool
is_in_table (Places t set) = nat_lt t 64
is_in_table (Move m) = nat_lt m.instant 64

-- a node that branches off has a parent of lower number, and its constraint lies within the instants
abbrev pub well_formed_branch : ℕ → Option Branch → Bool
well_formed_branch k None = true
well_formed_branch k (Some b) = nat_lt b.parent k && is_in_table b.own.constraint

-- record n is well formed as number k of a table
abbrev pub WellFormed : ℕ → Node → Type 0
WellFormed k n = well_formed_branch k n.branch ≡ true

-- all records of a table are
abbrev pub AllWellFormed : List Node → Type 0
AllWellFormed table = (k : ℕ) → k < length table → WellFormed k (slice_index_or table k empty)

-- what was made is, where it is a record
abbrev pub MadeWellFormed : ℕ → Option Node → Type 0
MadeWellFormed k None = Unit {0}
MadeWellFormed k (Some n) = WellFormed k n

-- a solved node's number is one of the first n
abbrev pub inside : ℕ → Verdict → Bool
inside n Working = true
inside n (Solved k) = nat_lt k n
inside n Unsolvable = true
inside n Full = true
