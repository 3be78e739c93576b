-- Sums that compute from their first number.
use Rattle.std.proofs.Common.{◌≡◌, ℕ, zero, suc, ◌+◌, arith}

-- k + m, computed from k
abbrev pub more : ℕ → ℕ → ℕ
more zero m = m
more (suc k) m = suc (more k m)

pub more_is : (k m : ℕ) → more k m ≡ k + m
more_is zero m = omega arith
more_is (suc k) m = let rest = more_is k m in omega arith
