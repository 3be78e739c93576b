-- The items of a list in fixed memory.
use Rattle.std.specs.Prelude.{ℕ, List, take}
use Rattle.few.specs.declared.Few.{Few}

-- the items, in the order in which they came
abbrev pub told : {T : Type 0} {N : ℕ} → Few T N → List T
told f = take f.count f.items
