-- The sleds of one fleet, then those of another.
use Rattle.std.specs.Prelude.{ℕ, ◌+◌, ◌-◌, min, cond, ◌&&◌, nat_lt}
use Rattle.fleet.specs.Offsets.{Sleds}

-- as many as both have, cut after six
abbrev pub convoy_size : (n m : ℕ) → ℕ
convoy_size n m = min 6 (n + m)

-- the sleds of the first, n in number, then those of the second, cut after six
abbrev pub convoy_sleds : (n : ℕ) → Sleds → Sleds → Sleds
convoy_sleds n first second s x y = nat_lt s 6 && cond (nat_lt s n) (first s x y) (second (s - n) x y)
