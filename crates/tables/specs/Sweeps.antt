-- The cells that one cell passes over in a step of at most two.
use Rattle.std.specs.Prelude.{zero, suc, Bool, ◌||◌, ℤ, pos, negsuc, ◌+ℤ◌}

-- half a step, towards 0
abbrev pub half : ℤ → ℤ
half (pos zero) = pos 0
half (pos (suc zero)) = pos 0
half (pos (suc (suc n))) = pos 1
half (negsuc zero) = pos 0
half (negsuc (suc n)) = negsuc 0

-- x passes, or half a step on, or a step on
abbrev pub swept : (ℤ → Bool) → (x step : ℤ) → Bool
swept p x step = (p x || p (x +ℤ half step)) || p (x +ℤ step)
